use Rattle.std.proofs.Common.{refl}
use Rattle.nl_tree.proofs.OnLiterals.{tree_on_literals}
use Rattle.nl_spec_crashes.proofs.rows.runs_after_all_calls.Goals as goal

pub returns-clause-last : goal.returns-clause-last
unfolding tree_on_literals
returns-clause-last c = refl

pub returns-clause-first : goal.returns-clause-first
unfolding tree_on_literals
returns-clause-first c = refl

pub returns-clause-none : goal.returns-clause-none
unfolding tree_on_literals
returns-clause-none c = refl
