use Rattle.nl_handler.proofs.HandlerKeeps.{handler_keeps}
use Rattle.nl_handler.proofs.laws.handler_keeps.Goals as goal

pub returns : goal.returns
returns g c = handler_keeps g.D.Counts
