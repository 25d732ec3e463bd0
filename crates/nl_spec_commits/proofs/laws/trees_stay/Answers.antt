use Rattle.nl_spec_commits.proofs.DeviceTrees.{addresses_go, holding_opens, now_holds, pages_go}
use Rattle.nl_spec_commits.proofs.laws.trees_stay.Goals as goal

pub returns-clause-addresses : goal.returns-clause-addresses
returns-clause-addresses g c = addresses_go g.D.Counts

pub returns-clause-pages : goal.returns-clause-pages
returns-clause-pages g c = pages_go g.D.Counts

pub returns-clause-opens : goal.returns-clause-opens
returns-clause-opens g c = holding_opens g.D.Counts

pub returns-clause-now : goal.returns-clause-now
returns-clause-now g c = now_holds g.D.Counts
