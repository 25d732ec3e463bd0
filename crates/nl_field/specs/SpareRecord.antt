-- The record in the 64 spare bytes of a page: what the page holds, its write sequence number, and the wear of its block.
use Rattle.std.specs.Prelude.{ℕ, ◌==◌, Bool, ◌&&◌, if◌then◌else◌, List, ◌∷◌, ◌++◌, slice_index, Option}
use Rattle.nl_field.specs.Spelling.{u32_bytes, u64_bytes, u32_at, u64_at, gap, fits_u32, is_stamp, spelled_by}
use Rattle.nl_field.specs.declared.spare.SpareRec.{SpareRec}
use Rattle.nl_field.specs.declared.spare.SpareRec.TheVariants.{Virtual, Physical}

-- its kind, 1 or 2; from 4 the wear, from 8 the sequence number, and from 16 the virtual address or the owner
unfoldable pub spare_bytes : SpareRec → List ℕ
spare_bytes (Virtual vaddr stamp wear) = 1 ∷ gap 3 ++ u32_bytes wear ++ u64_bytes stamp ++ u32_bytes vaddr ++ gap 44
spare_bytes (Physical tag stamp wear) =
    2 ∷ gap 3 ++ u32_bytes wear ++ u64_bytes stamp ++ u32_bytes tag.ino ++ u32_bytes tag.generation ++ u32_bytes tag.index ++ gap 36

abbrev pub stamp_of : SpareRec → ℕ
stamp_of (Virtual vaddr stamp wear) = stamp
stamp_of (Physical tag stamp wear) = stamp

abbrev pub wear_of : SpareRec → ℕ
wear_of (Virtual vaddr stamp wear) = wear
wear_of (Physical tag stamp wear) = wear

-- which records have a spelling: those of a sequence number that is spelled
abbrev pub is_spare : SpareRec → Bool
is_spare rec = is_stamp (stamp_of rec)

-- the numbers fit their fields
unfoldable pub fits_spare : SpareRec → Bool
fits_spare (Virtual vaddr stamp wear) = fits_u32 vaddr && fits_u32 wear
fits_spare (Physical tag stamp wear) = fits_u32 tag.ino && fits_u32 tag.generation && fits_u32 tag.index && fits_u32 wear

unfoldable pub spare_fields : List ℕ → SpareRec
spare_fields bytes =
    if slice_index bytes 0 == 1 then Virtual (u32_at bytes 16) (u64_at bytes 8) (u32_at bytes 4)
    else Physical (record {
      ino = u32_at bytes 16;
      generation = u32_at bytes 20;
      index = u32_at bytes 24;
    }) (u64_at bytes 8) (u32_at bytes 4)

-- the record that these bytes spell
unfoldable pub spare_rec_of : List ℕ → Option SpareRec
spare_rec_of bytes = spelled_by is_spare spare_bytes (spare_fields bytes) bytes
