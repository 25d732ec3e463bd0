use Rattle.nl_spec_commits.proofs.Holding.{opening_is_held}
use Rattle.nl_spec_commits.proofs.laws.opening_is_held.Goals as goal

pub returns : goal.returns
returns g c = opening_is_held g.D.Counts
