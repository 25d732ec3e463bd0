use Rattle.std.proofs.Common.{refl}
use Rattle.nl_tree.proofs.OnLiterals.{tree_on_literals}
use Rattle.nl_test_script.proofs.rows.pages_given.Goals as goal

pub returns-clause-inside : goal.returns-clause-inside
unfolding tree_on_literals
returns-clause-inside c = refl

pub returns-clause-out_of_range : goal.returns-clause-out_of_range
unfolding tree_on_literals
returns-clause-out_of_range c = refl

pub returns-clause-in_part : goal.returns-clause-in_part
unfolding tree_on_literals
returns-clause-in_part c = refl
