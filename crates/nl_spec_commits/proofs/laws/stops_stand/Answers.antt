use Rattle.nl_spec_commits.proofs.Stopping.{held_lead, running_lead, stands_alike, stops_stand}
use Rattle.nl_spec_commits.proofs.laws.stops_stand.Goals as goal

pub returns-clause-alike : goal.returns-clause-alike
returns-clause-alike g c = stands_alike

pub returns-clause-held : goal.returns-clause-held
returns-clause-held g c = held_lead g.D.Counts

pub returns-clause-running : goal.returns-clause-running
returns-clause-running g c = running_lead g.D.Counts

pub returns-clause-stops : goal.returns-clause-stops
returns-clause-stops g c = stops_stand g.D.Counts
