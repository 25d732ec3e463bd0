use Rattle.std.proofs.Common.{refl}
use Rattle.nl_tree.proofs.OnLiterals.{tree_on_literals}
use Rattle.nl_volume_list.specs.Items.{items_behind, items_of}
use Rattle.nl_volume_list.proofs.rows.left_items.Goals as goal

pub returns-clause-file : goal.returns-clause-file
unfolding tree_on_literals items_of items_behind
returns-clause-file c = refl

pub returns-clause-directory : goal.returns-clause-directory
unfolding tree_on_literals items_of items_behind
returns-clause-directory c = refl

pub returns-clause-last : goal.returns-clause-last
unfolding tree_on_literals items_of items_behind
returns-clause-last c = refl
