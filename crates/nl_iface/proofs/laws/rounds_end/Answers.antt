use Rattle.nl_iface.proofs.RoundSteps as steps
use Rattle.nl_iface.proofs.laws.rounds_end.Goals as goal

pub returns : goal.returns
returns c = steps.rounds_end
