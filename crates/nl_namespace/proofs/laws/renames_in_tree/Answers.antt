use Rattle.nl_namespace.proofs.TreeRenames.{renames_in_tree}
use Rattle.nl_namespace.proofs.laws.renames_in_tree.Goals as goal

pub returns : goal.returns
returns c = renames_in_tree
