use Rattle.nl_flight.proofs.Carried.{most}
use Rattle.nl_flight.proofs.laws.most_pages.Goals as goal

pub returns : goal.returns
returns c flight is = most flight is
