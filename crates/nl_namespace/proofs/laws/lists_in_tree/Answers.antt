use Rattle.nl_namespace.proofs.TreeLists.{lists_in_tree}
use Rattle.nl_namespace.proofs.laws.lists_in_tree.Goals as goal

pub returns : goal.returns
returns c = lists_in_tree
