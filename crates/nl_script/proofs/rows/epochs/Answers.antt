use Rattle.std.proofs.Common.{refl}
use Rattle.nl_script.proofs.OnLiterals.{script_on_literals}
use Rattle.nl_script.proofs.rows.epochs.Goals as goal

pub returns : goal.returns
unfolding script_on_literals
returns c = refl
