use Rattle.nl_core.proofs.Standing.{stored_opens}
use Rattle.nl_core.proofs.laws.stored_opens.Goals as goal

pub returns : goal.returns
returns g c = stored_opens g.D.Counts c.args.core.now c.device_stands.ensures.volume c.device_stands.ensures.map c.requires.core c.requires.writes
