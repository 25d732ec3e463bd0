use Rattle.std.proofs.Common.{refl}
use Rattle.nl_script.proofs.OnLiterals.{script_on_literals}
use Rattle.nl_script.proofs.rows.more_refusals.Goals as goal

pub returns-clause-command : goal.returns-clause-command
unfolding script_on_literals
returns-clause-command c = refl

pub returns-clause-path : goal.returns-clause-path
unfolding script_on_literals
returns-clause-path c = refl

pub returns-clause-dots : goal.returns-clause-dots
unfolding script_on_literals
returns-clause-dots c = refl

pub returns-clause-extra : goal.returns-clause-extra
unfolding script_on_literals
returns-clause-extra c = refl

pub returns-clause-number : goal.returns-clause-number
unfolding script_on_literals
returns-clause-number c = refl

pub returns-clause-byte : goal.returns-clause-byte
unfolding script_on_literals
returns-clause-byte c = refl

pub returns-clause-returned : goal.returns-clause-returned
unfolding script_on_literals
returns-clause-returned c = refl

pub returns-clause-first_of_two : goal.returns-clause-first_of_two
unfolding script_on_literals
returns-clause-first_of_two c = refl
