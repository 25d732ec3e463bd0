use Rattle.std.proofs.Common.{⊎_elim, arith}
use Rattle.nl_nand.proofs.rows.a_cut_leaves_the_page_before.Goals as goal

pub returns : goal.returns
returns c value old new cut = ⊎_elim (λ same. same) (λ within. let low = within.0 in absurd (omega (arith, low))) (cut.each 0)
