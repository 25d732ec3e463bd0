use Rattle.std.proofs.Common.{refl}
use Rattle.nl_print.proofs.OnLiterals.{text_on_literals}
use Rattle.nl_spec_headline.proofs.rows.three_answers.Goals as goal

pub returns-clause-text : goal.returns-clause-text
unfolding text_on_literals
returns-clause-text c = refl
