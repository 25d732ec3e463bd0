use Rattle.std.proofs.Common.{refl}
use Rattle.nl_tree.proofs.OnLiterals.{tree_on_literals}
use Rattle.nl_test_script.proofs.rows.fills_a_directory.Goals as goal

pub returns : goal.returns
unfolding tree_on_literals
returns c = refl
