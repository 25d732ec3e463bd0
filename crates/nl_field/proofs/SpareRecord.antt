-- The spare record is read back from its bytes, and what is read fits its fields.
use Rattle.std.proofs.Common.{◌≡◌, ◌&&◌, ◌==◌, ◌++◌, Bool, true, false, List, ℕ, Some, refl, slice_index}
use Rattle.std.specs.Prelude.{IsTrue, if◌then◌else◌}
use Rattle.nl_field.specs.Spelling.{u32_bytes, u64_bytes, u32_at, u64_at, gap, fits_u32, Decodes}
use Rattle.nl_field.specs.SpareRecord.{spare_bytes, spare_fields, spare_rec_of, is_spare, fits_spare}
use Rattle.nl_field.specs.declared.spare.SpareRec.{SpareRec}
use Rattle.nl_field.specs.declared.spare.SpareRec.TheVariants.{Virtual, Physical}
use Rattle.nl_field.proofs.AreBytes.{AreBytes, IsTrue-and_left, IsTrue-and_right, fits-u32_at, u32-back, u64-back, stamp-fits}
use Rattle.nl_field.proofs.Reading.{reads-spelled, spelled-back}

pub spare-back : (rec : SpareRec) → IsTrue (fits_spare rec) → IsTrue (is_spare rec) → spare_fields (spare_bytes rec) ≡ rec
unfolding spare_fields spare_bytes fits_spare u32_bytes u64_bytes u32_at u64_at
spare-back (Virtual vaddr stamp wear) fits spelled =
    let v = u32-back vaddr (gap 44) (IsTrue-and_left (fits_u32 vaddr) (fits_u32 wear) fits) in
    let w = u32-back wear (u64_bytes stamp ++ u32_bytes vaddr ++ gap 44) (IsTrue-and_right (fits_u32 vaddr) (fits_u32 wear) fits) in
    let s = u64-back stamp (u32_bytes vaddr ++ gap 44) (stamp-fits stamp spelled) in
    λ i. Virtual (v i) (s i) (w i)
spare-back (Physical tag stamp wear) fits spelled =
    let last = IsTrue-and_right (fits_u32 tag.ino && fits_u32 tag.generation && fits_u32 tag.index) (fits_u32 wear) fits in
    let three = IsTrue-and_left (fits_u32 tag.ino && fits_u32 tag.generation && fits_u32 tag.index) (fits_u32 wear) fits in
    let two = IsTrue-and_left (fits_u32 tag.ino && fits_u32 tag.generation) (fits_u32 tag.index) three in
    let x = u32-back tag.index (gap 36) (IsTrue-and_right (fits_u32 tag.ino && fits_u32 tag.generation) (fits_u32 tag.index) three) in
    let g = u32-back tag.generation (u32_bytes tag.index ++ gap 36) (IsTrue-and_right (fits_u32 tag.ino) (fits_u32 tag.generation) two) in
    let n = u32-back tag.ino (u32_bytes tag.generation ++ u32_bytes tag.index ++ gap 36) (IsTrue-and_left (fits_u32 tag.ino) (fits_u32 tag.generation) two) in
    let w = u32-back wear (u64_bytes stamp ++ u32_bytes tag.ino ++ u32_bytes tag.generation ++ u32_bytes tag.index ++ gap 36) last in
    let s = u64-back stamp (u32_bytes tag.ino ++ u32_bytes tag.generation ++ u32_bytes tag.index ++ gap 36) (stamp-fits stamp spelled) in
    λ i. Physical (record { ino = n i; generation = g i; index = x i }) (s i) (w i)

fits-fields : (bytes : List ℕ) → AreBytes bytes → (t : Bool)
    → IsTrue (fits_spare (if t then Virtual (u32_at bytes 16) (u64_at bytes 8) (u32_at bytes 4)
    else Physical (record { ino = u32_at bytes 16; generation = u32_at bytes 20; index = u32_at bytes 24 }) (u64_at bytes 8) (u32_at bytes 4)))
unfolding fits_spare
fits-fields bytes are true = rw (fits-u32_at bytes 16 are, fits-u32_at bytes 4 are) refl
fits-fields bytes are false = rw (fits-u32_at bytes 16 are, fits-u32_at bytes 20 are, fits-u32_at bytes 24 are, fits-u32_at bytes 4 are) refl

pub spare-reads : (bytes : List ℕ) → AreBytes bytes → Decodes fits_spare is_spare spare_bytes bytes (spare_rec_of bytes)
unfolding spare_rec_of spare_fields
spare-reads bytes are = reads-spelled fits_spare is_spare spare_bytes spare_fields bytes (fits-fields bytes are (slice_index bytes 0 == 1)) spare-back

pub spare-spelled : (rec : SpareRec) → IsTrue (fits_spare rec) → IsTrue (is_spare rec) → spare_rec_of (spare_bytes rec) ≡ Some rec
unfolding spare_rec_of
spare-spelled rec fits spelled = spelled-back is_spare spare_bytes spare_fields rec (spare-back rec fits spelled) spelled
