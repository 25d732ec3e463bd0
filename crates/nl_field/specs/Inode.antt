-- The record of a node: what it is, its generation and size, the direct pointers of a file, and the addresses of the
-- pages that hold a file's other pointers or a directory's entries.
use Rattle.std.specs.Prelude.{ℕ, zero, suc, ◌==◌, nat_le, Bool, false, not, ◌&&◌, if◌then◌else◌, List, [], ◌∷◌, ◌++◌, length, drop, slice_index, flat_map, Option}
use Rattle.std.specs.Int.{div_ceil}
use Rattle.std.specs.List.{list_all}
use Rattle.nl_field.specs.Bytes.{all_zero}
use Rattle.nl_field.specs.Numbers.{max_file_size, max_entries}
use Rattle.nl_field.specs.Spelling.{u32_bytes, u64_bytes, u32_at, u64_at, u32s, gap, fits_u32, spelled_by}
use Rattle.nl_field.specs.Pointers.{is_none_pointer, is_pointer, fits_pointer, pointer_bytes, pointers}
use Rattle.nl_field.specs.declared.inode.Kind.{Kind}
use Rattle.nl_field.specs.declared.inode.Kind.TheVariants.{Unused, File, Dir}
use Rattle.nl_field.specs.declared.inode.InodeRec.{InodeRec}

abbrev pub kind_byte : Kind → ℕ
kind_byte Unused = 0
kind_byte File = 1
kind_byte Dir = 2

abbrev pub kind_of : ℕ → Kind
kind_of b = if b == 1 then File else (if b == 2 then Dir else Unused)

-- 256 bytes: the kind; from 4 the generation, from 8 the size, from 64 the 8 pointers, from 192 the 16 addresses
unfoldable pub inode_bytes : InodeRec → List ℕ
inode_bytes rec =
    kind_byte rec.kind ∷ gap 3 ++ u32_bytes rec.generation ++ u64_bytes rec.size ++ gap 48
    ++ flat_map pointer_bytes rec.direct ++ flat_map u32_bytes rec.addresses

-- the first n addresses are not 0, and the others are
unfoldable pub are_filled : ℕ → List ℕ → Bool
are_filled zero addresses = all_zero addresses
are_filled (suc n) [] = false
are_filled (suc n) (a ∷ rest) = not (a == 0) && are_filled n rest

-- An unused node has nothing but its generation. A directory has a page for each 64 entries, and no pointers.
unfoldable pub is_inode_of_kind : Kind → InodeRec → Bool
is_inode_of_kind Unused rec = rec.size == 0 && list_all is_none_pointer rec.direct && all_zero rec.addresses
is_inode_of_kind File rec = nat_le rec.size max_file_size && list_all is_pointer rec.direct
is_inode_of_kind Dir rec =
    nat_le rec.size max_entries && list_all is_none_pointer rec.direct && are_filled (div_ceil rec.size 64) rec.addresses

-- which have a spelling
abbrev pub is_inode : InodeRec → Bool
is_inode rec = length rec.direct == 8 && length rec.addresses == 16 && is_inode_of_kind rec.kind rec

-- the numbers fit their fields
unfoldable pub fits_inode : InodeRec → Bool
fits_inode rec = fits_u32 rec.generation && list_all fits_pointer rec.direct && list_all fits_u32 rec.addresses

unfoldable pub inode_fields : List ℕ → InodeRec
inode_fields bytes =
    record {
      kind = kind_of (slice_index bytes 0);
      generation = u32_at bytes 4;
      size = u64_at bytes 8;
      direct = pointers 8 (drop 64 bytes);
      addresses = u32s 16 (drop 192 bytes);
    }

-- the record that these 256 bytes spell
unfoldable pub inode_of : List ℕ → Option InodeRec
inode_of bytes = spelled_by is_inode inode_bytes (inode_fields bytes) bytes
