-- The super page: the version of the format, the geometry, and the count of calls.
use Rattle.std.specs.Prelude.{ℕ, ◌^◌, ◌==◌, nat_lt, Bool, ◌&&◌, List, ◌++◌, codes, Option}
use Rattle.nl_field.specs.Bytes.{zeros}
use Rattle.nl_field.specs.Spelling.{u32_bytes, u64_bytes, u32_at, u64_at, gap, fits_u32, spelled_by}
use Rattle.nl_field.specs.declared.super_page.SuperRec.{SuperRec}

-- eight letters; from 8 the version, from 12 the blocks, from 16 the pages of a block, from 24 the count
unfoldable pub super_head : SuperRec → List ℕ
super_head rec = codes "NAMELESS" ++ u32_bytes rec.version ++ u32_bytes rec.blocks ++ u32_bytes rec.pages ++ gap 4 ++ u64_bytes rec.count

unfoldable pub super_bytes : SuperRec → List ℕ
super_bytes rec = super_head rec ++ zeros 4064

-- which have a spelling: version 1, and a count below 2^63
abbrev pub is_super : SuperRec → Bool
is_super rec = rec.version == 1 && nat_lt rec.count (2 ^ 63)

-- the numbers fit their fields
unfoldable pub fits_super : SuperRec → Bool
fits_super rec = fits_u32 rec.blocks && fits_u32 rec.pages

unfoldable pub super_fields : List ℕ → SuperRec
super_fields bytes = record { version = u32_at bytes 8; blocks = u32_at bytes 12; pages = u32_at bytes 16; count = u64_at bytes 24 }

-- the record that the main bytes of a page spell
unfoldable pub super_of : List ℕ → Option SuperRec
super_of bytes = spelled_by is_super super_bytes (super_fields bytes) bytes
