use Rattle.nl_spec_commits.proofs.Opening.{consistent_is_firm, opened_is_firm}
use Rattle.nl_spec_commits.proofs.laws.opened_is_firm.Goals as goal

pub returns-clause-image : goal.returns-clause-image
returns-clause-image g c = consistent_is_firm

pub returns-clause-device : goal.returns-clause-device
returns-clause-device g c = opened_is_firm g.D.Counts
