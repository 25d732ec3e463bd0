use Rattle.std.proofs.Common.{refl}
use Rattle.nl_tree.proofs.OnLiterals.{tree_on_literals}
use Rattle.nl_test_script.proofs.order_rows.due.Goals as goal

pub returns-clause-fault : goal.returns-clause-fault
unfolding tree_on_literals
returns-clause-fault c = refl

pub returns-clause-next : goal.returns-clause-next
unfolding tree_on_literals
returns-clause-next c = refl
