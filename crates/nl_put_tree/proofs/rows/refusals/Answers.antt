use Rattle.std.proofs.Common.{refl}
use Rattle.nl_tree.proofs.OnLiterals.{tree_on_literals}
use Rattle.nl_put_tree.specs.Putting.{no_name}
use Rattle.nl_put_tree.proofs.rows.refusals.Goals as goal

pub returns-clause-no_directory : goal.returns-clause-no_directory
unfolding tree_on_literals
returns-clause-no_directory c = no_name refl
