use Rattle.std.proofs.Common.{refl}
use Rattle.nl_print.proofs.OnLiterals.{text_on_literals}
use Rattle.nl_print.proofs.rows.answers.Goals as goal

pub returns : goal.returns
unfolding text_on_literals
returns c = refl
