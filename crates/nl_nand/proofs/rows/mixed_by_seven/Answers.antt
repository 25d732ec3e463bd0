use Rattle.std.proofs.Common.{refl}
use Rattle.nl_nand.proofs.rows.mixed_by_seven.Goals as goal

pub returns : goal.returns
returns c = record { first = λ value old. refl; second = λ value old. refl; third = λ value old. refl; again = λ value old. refl }
