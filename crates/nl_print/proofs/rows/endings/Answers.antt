use Rattle.std.proofs.Common.{refl}
use Rattle.nl_print.proofs.OnLiterals.{text_on_literals}
use Rattle.nl_print.proofs.rows.endings.Goals as goal

pub returns-clause-refused : goal.returns-clause-refused
unfolding text_on_literals
returns-clause-refused c = refl

pub returns-clause-damaged : goal.returns-clause-damaged
unfolding text_on_literals
returns-clause-damaged c = refl

pub returns-clause-findings : goal.returns-clause-findings
unfolding text_on_literals
returns-clause-findings c = refl

pub returns-clause-sound : goal.returns-clause-sound
unfolding text_on_literals
returns-clause-sound c = refl

pub returns-clause-soak : goal.returns-clause-soak
unfolding text_on_literals
returns-clause-soak c = refl
