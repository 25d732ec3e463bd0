use Rattle.std.proofs.Common.{refl}
use Rattle.nl_print.proofs.OnLiterals.{text_on_literals}
use Rattle.nl_cmd_put.proofs.rows.ends_told.Goals as goal

pub returns-clause-text : goal.returns-clause-text
unfolding text_on_literals
returns-clause-text c = refl
