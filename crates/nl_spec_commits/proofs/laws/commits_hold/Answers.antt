use Rattle.nl_spec_commits.proofs.Completing.{completings_hold, units_hold}
use Rattle.nl_spec_commits.proofs.Freezing.{freezings_hold, super_pages_hold}
use Rattle.nl_spec_commits.proofs.laws.commits_hold.Goals as goal

pub returns-clause-completing : goal.returns-clause-completing
returns-clause-completing g c = completings_hold g.D.Counts

pub returns-clause-freezing : goal.returns-clause-freezing
returns-clause-freezing g c = freezings_hold g.D.Counts

pub returns-clause-super_page : goal.returns-clause-super_page
returns-clause-super_page g c = super_pages_hold g.D.Counts

pub returns-clause-unit : goal.returns-clause-unit
returns-clause-unit g c = units_hold g.D.Counts
