use Rattle.nl_indirect.proofs.LawProofs.{other_nodes}
use Rattle.nl_indirect.proofs.laws.other_nodes.Goals as goal

pub returns : goal.returns
returns c = other_nodes
