use Rattle.std.proofs.Common.{refl}
use Rattle.nl_turns.proofs.OnLiterals.{turns_on_literals}
use Rattle.nl_turns.proofs.rows.calls_and_tree.Goals as goal

pub returns-clause-calls : goal.returns-clause-calls
unfolding turns_on_literals
returns-clause-calls c = refl

pub returns-clause-tree : goal.returns-clause-tree
unfolding turns_on_literals
returns-clause-tree c = refl

pub returns-clause-syncs : goal.returns-clause-syncs
unfolding turns_on_literals
returns-clause-syncs c = refl
