use Rattle.nl_tree.proofs.FaultProofs.{fault_laws}
use Rattle.nl_tree.proofs.laws.fault_laws.Goals as goal

pub returns : goal.returns
returns c = fault_laws
