-- Records that have one spelling are the same.
use Rattle.std.proofs.Common.{◌≡◌, true, Some, sym, ◌∙◌, ap}
use Rattle.std.specs.Prelude.{bytes_eq}
use Rattle.std.proofs.lemmas.Slice.Eq.{bytes_eq-Decides}
use Rattle.nl_field.specs.SpareRecord.{spare_bytes, spare_rec_of}
use Rattle.nl_field.specs.declared.spare.SpareRec.{SpareRec}
use Rattle.nl_scan.proofs.Lists.{same_some}

pub one_spelling : (a b : SpareRec) → spare_rec_of (spare_bytes a) ≡ Some a → spare_rec_of (spare_bytes b) ≡ Some b → bytes_eq (spare_bytes a) (spare_bytes b) ≡ true → a ≡ b
one_spelling a b back back' is = same_some a b (sym back ∙ ap spare_rec_of ((bytes_eq-Decides (spare_bytes a) (spare_bytes b)).0 is) ∙ back')
