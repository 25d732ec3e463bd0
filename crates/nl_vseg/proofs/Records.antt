-- The record of a virtual address has a spelling.
use Rattle.std.proofs.Common.{◌<◌, ◌^◌, ℕ, IsTrue}
use Rattle.std.proofs.lemmas.Bool.{lt-ltb, and_from}
use Rattle.nl_field.specs.SpareRecord.{fits_spare}
use Rattle.nl_field.specs.declared.spare.SpareRec.TheVariants.{Virtual}

pub fits_virtual : (v s w : ℕ) → v < 2 ^ 32 → w < 2 ^ 32 → IsTrue (fits_spare (Virtual v s w))
unfolding fits_spare
fits_virtual v s w v_fits w_fits = and_from _ _ (lt-ltb v (2 ^ 32) v_fits) (lt-ltb w (2 ^ 32) w_fits)
