use Rattle.std.proofs.Common.{refl}
use Rattle.nl_turns.proofs.OnLiterals.{turns_on_literals}
use Rattle.nl_turns.proofs.rows.places.Goals as goal

pub returns-clause-first : goal.returns-clause-first
unfolding turns_on_literals
returns-clause-first c = refl

pub returns-clause-second : goal.returns-clause-second
unfolding turns_on_literals
returns-clause-second c = refl

pub returns-clause-third : goal.returns-clause-third
unfolding turns_on_literals
returns-clause-third c = refl
