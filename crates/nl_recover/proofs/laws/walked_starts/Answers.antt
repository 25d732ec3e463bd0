use Rattle.nl_recover.proofs.StartFacts.{walked_starts}
use Rattle.nl_recover.proofs.laws.walked_starts.Goals as goal

pub returns : goal.returns
returns g c = walked_starts g.D.Counts
