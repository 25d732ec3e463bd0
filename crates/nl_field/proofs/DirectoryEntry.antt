-- An entry is read back from its bytes, and what is read fits its fields.
use Rattle.std.proofs.Common.{◌≡◌, ◌++◌, ◌-◌, ◌∷◌, List, ℕ, Some, refl, length, replicate}
use Rattle.std.proofs.lemmas.List.{take_at}
use Rattle.std.specs.Prelude.{IsTrue}
use Rattle.nl_field.specs.Spelling.{u32_bytes, u32_at, fits_u32, Decodes}
use Rattle.nl_field.specs.EntryRecord.{entry_bytes, entry_fields, entry_of, is_entry, fits_entry}
use Rattle.nl_field.specs.declared.entry.EntryRec.{EntryRec}
use Rattle.nl_field.proofs.AreBytes.{AreBytes, IsTrue-and_left, IsTrue-and_right, fits-u32_at, u32-back}
use Rattle.nl_field.proofs.Reading.{reads-spelled, spelled-back}

entry-back : (rec : EntryRec) → IsTrue (fits_entry rec) → IsTrue (is_entry rec) → entry_fields (entry_bytes rec) ≡ rec
unfolding entry_fields entry_bytes fits_entry u32_bytes u32_at
entry-back rec fits spelled =
    let pad : List ℕ = replicate (55 - length rec.name) 0 in
    let n = u32-back rec.ino (u32_bytes rec.generation ++ length rec.name ∷ rec.name ++ pad) (IsTrue-and_left (fits_u32 rec.ino) (fits_u32 rec.generation) fits) in
    let g = u32-back rec.generation (length rec.name ∷ rec.name ++ pad) (IsTrue-and_right (fits_u32 rec.ino) (fits_u32 rec.generation) fits) in
    let named = take_at rec.name pad (length rec.name) refl in
    λ i. record { ino = n i; generation = g i; name = named i }

fits-fields : (bytes : List ℕ) → AreBytes bytes → IsTrue (fits_entry (entry_fields bytes))
unfolding fits_entry entry_fields
fits-fields bytes are = rw (fits-u32_at bytes 0 are, fits-u32_at bytes 4 are) refl

pub entry-reads : (bytes : List ℕ) → AreBytes bytes → Decodes fits_entry is_entry entry_bytes bytes (entry_of bytes)
unfolding entry_of
entry-reads bytes are = reads-spelled fits_entry is_entry entry_bytes entry_fields bytes (fits-fields bytes are) entry-back

pub entry-spelled : (rec : EntryRec) → IsTrue (fits_entry rec) → IsTrue (is_entry rec) → entry_of (entry_bytes rec) ≡ Some rec
unfolding entry_of
entry-spelled rec fits spelled = spelled-back is_entry entry_bytes entry_fields rec (entry-back rec fits spelled) spelled
