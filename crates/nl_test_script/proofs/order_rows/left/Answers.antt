use Rattle.std.proofs.Common.{refl}
use Rattle.nl_tree.proofs.OnLiterals.{tree_on_literals}
use Rattle.nl_test_script.proofs.order_rows.left.Goals as goal

pub returns-clause-others : goal.returns-clause-others
unfolding tree_on_literals
returns-clause-others c = refl

pub returns-clause-in_part : goal.returns-clause-in_part
unfolding tree_on_literals
returns-clause-in_part c = refl

pub returns-clause-no_file : goal.returns-clause-no_file
unfolding tree_on_literals
returns-clause-no_file c = refl
