-- An entry of a directory: the node that it names, that node's generation, and the name.
use Rattle.std.specs.Prelude.{ℕ, ◌-◌, nat_le, Bool, ◌&&◌, List, ◌∷◌, ◌++◌, length, take, drop, slice_index, replicate, Option}
use Rattle.nl_field.specs.Numbers.{max_name}
use Rattle.nl_field.specs.Names.{is_name}
use Rattle.nl_field.specs.Spelling.{u32_bytes, u32_at, fits_u32, spelled_by}
use Rattle.nl_field.specs.declared.entry.EntryRec.{EntryRec}

-- 64 bytes: the node; from 4 the generation, at 8 the length of the name, and from 9 the name
unfoldable pub entry_bytes : EntryRec → List ℕ
entry_bytes rec = u32_bytes rec.ino ++ u32_bytes rec.generation ++ length rec.name ∷ rec.name ++ replicate (55 - length rec.name) 0

-- which have a spelling
abbrev pub is_entry : EntryRec → Bool
is_entry rec = is_name rec.name && nat_le (length rec.name) max_name

-- the numbers fit their fields
unfoldable pub fits_entry : EntryRec → Bool
fits_entry rec = fits_u32 rec.ino && fits_u32 rec.generation

unfoldable pub entry_fields : List ℕ → EntryRec
entry_fields bytes = record { ino = u32_at bytes 0; generation = u32_at bytes 4; name = take (slice_index bytes 8) (drop 9 bytes) }

-- the record that these 64 bytes spell
unfoldable pub entry_of : List ℕ → Option EntryRec
entry_of bytes = spelled_by is_entry entry_bytes (entry_fields bytes) bytes
