use Rattle.nl_iface.proofs.RoundSteps as steps
use Rattle.nl_iface.proofs.laws.a_round_gains.Goals as goal

pub returns : goal.returns
returns c s t r is has = steps.a_round_gains s t r is has
