use Rattle.nl_namespace.proofs.TreeChanges as changes
use Rattle.nl_namespace.proofs.laws.makes_in_tree.Goals as goal

pub returns : goal.returns
returns c = changes.makes_in_tree
