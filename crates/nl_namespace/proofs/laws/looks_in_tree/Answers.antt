use Rattle.nl_namespace.proofs.TreeWalks.{looks_in_tree}
use Rattle.nl_namespace.proofs.laws.looks_in_tree.Goals as goal

pub returns : goal.returns
returns c = looks_in_tree
