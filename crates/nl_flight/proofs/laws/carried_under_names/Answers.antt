use Rattle.nl_flight.proofs.Carried.{renames}
use Rattle.nl_flight.proofs.laws.carried_under_names.Goals as goal

pub returns : goal.returns
returns c stamp to flight = renames stamp to flight
