use Rattle.std.proofs.Common.{refl}
use Rattle.nl_tree.proofs.OnLiterals.{tree_on_literals}
use Rattle.nl_volume_list.specs.Items.{items_of}
use Rattle.nl_volume_list.proofs.rows.all_items.Goals as goal

pub returns : goal.returns
unfolding tree_on_literals items_of
returns c = refl
