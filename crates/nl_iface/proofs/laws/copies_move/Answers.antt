use Rattle.nl_iface.proofs.RoundSteps as steps
use Rattle.nl_iface.proofs.laws.copies_move.Goals as goal

pub returns : goal.returns
returns c = steps.moves_laws
