use Rattle.nl_namespace.proofs.TreeCalls as calls
use Rattle.nl_namespace.proofs.laws.changes_in_tree.Goals as goal

pub returns : goal.returns
returns c = calls.changes_in_tree
