use Rattle.nl_iface.proofs.Stops.{name_stays}
use Rattle.nl_iface.proofs.laws.names_stay.Goals as goal

pub returns : goal.returns
returns c shape names bytes new old after tried name page leads = name_stays shape names bytes new old after tried name page leads
