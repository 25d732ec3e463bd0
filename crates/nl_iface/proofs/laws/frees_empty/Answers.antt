use Rattle.nl_iface.proofs.RoundSteps as steps
use Rattle.nl_iface.proofs.laws.frees_empty.Goals as goal

pub returns : goal.returns
returns c = steps.empties_laws
