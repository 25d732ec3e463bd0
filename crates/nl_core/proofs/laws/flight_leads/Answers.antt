use Rattle.nl_core.proofs.Standing.{flight_leads}
use Rattle.nl_core.proofs.laws.flight_leads.Goals as goal

pub returns : goal.returns
returns g c = flight_leads g.D.Counts c.args.core.now c.device_stands.ensures.names c.requires.core
