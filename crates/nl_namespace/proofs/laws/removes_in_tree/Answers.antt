use Rattle.nl_namespace.proofs.TreeChanges as changes
use Rattle.nl_namespace.proofs.TreeRmdir.{rmdirs_in_tree}
use Rattle.nl_namespace.proofs.laws.removes_in_tree.Goals as goal

pub returns : goal.returns
returns c = record { removed = changes.removes_in_tree; unlinked = changes.unlinks_in_tree; rmdir = rmdirs_in_tree }
