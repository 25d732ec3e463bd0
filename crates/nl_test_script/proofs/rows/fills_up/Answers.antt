use Rattle.std.proofs.Common.{refl}
use Rattle.nl_tree.proofs.OnLiterals.{tree_on_literals}
use Rattle.nl_test_script.specs.Examples.{answers_due}
use Rattle.nl_test_script.proofs.rows.fills_up.Goals as goal

pub returns : goal.returns
unfolding tree_on_literals answers_due
returns c = refl
