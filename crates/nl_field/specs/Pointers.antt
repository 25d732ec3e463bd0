-- Pointers to physical pages, and a metadata page of 256 of them.
use Rattle.std.specs.Prelude.{ℕ, ◌==◌, Bool, not, ◌&&◌, ◌||◌, List, ◌++◌, length, flat_map, Option}
use Rattle.std.specs.List.{list_all, list_any}
use Rattle.nl_field.specs.Spelling.{u32_bytes, u64_bytes, u32_at, u64_at, each_of, gap, fits_u32, is_stamp, spelled_by}
use Rattle.nl_field.specs.declared.pointer.Pointer.{Pointer}

abbrev pub no_pointer : Pointer
no_pointer = record { name = 0; stamp = 0 }

abbrev pub is_none_pointer : Pointer → Bool
is_none_pointer p = p.name == 0 && p.stamp == 0

-- 16 bytes: the name, and from 8 the sequence number of the page that it names
unfoldable pub pointer_bytes : Pointer → List ℕ
pointer_bytes p = u32_bytes p.name ++ gap 4 ++ u64_bytes p.stamp

-- Which have a spelling: none, or a sequence number that is spelled. That the name lies in the physical segment is asked
-- where the geometry is known.
abbrev pub is_pointer : Pointer → Bool
is_pointer p = is_none_pointer p || is_stamp p.stamp

-- the numbers fit their fields
abbrev pub fits_pointer : Pointer → Bool
fits_pointer p = fits_u32 p.name

unfoldable pub pointer_fields : List ℕ → Pointer
pointer_fields bytes = record { name = u32_at bytes 0; stamp = u64_at bytes 8 }

-- the pointer that these 16 bytes spell
unfoldable pub pointer_of : List ℕ → Option Pointer
pointer_of bytes = spelled_by is_pointer pointer_bytes (pointer_fields bytes) bytes

-- so many pointers in a row
abbrev pub pointers : ℕ → List ℕ → List Pointer
pointers n bytes = each_of pointer_fields 16 n bytes

-- an indirect page has 256 of them, and at least one that is not none
unfoldable pub indirect_bytes : List Pointer → List ℕ
indirect_bytes ps = flat_map pointer_bytes ps

abbrev pub is_indirect : List Pointer → Bool
is_indirect ps = length ps == 256 && list_all is_pointer ps && list_any (λ p. not (is_none_pointer p)) ps

unfoldable pub indirect_of : List ℕ → Option (List Pointer)
indirect_of bytes = spelled_by is_indirect indirect_bytes (pointers 256 bytes) bytes
