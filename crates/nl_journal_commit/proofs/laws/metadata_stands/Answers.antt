use Rattle.nl_journal_commit.proofs.ReadSteps.{reads_stand}
use Rattle.nl_journal_commit.proofs.Standing.{changes_can_freeze, freezing_stands, addresses_stand, super_page_stands, writing_stands}
use Rattle.nl_journal_commit.proofs.laws.metadata_stands.Goals as goal

pub returns-clause-writing : goal.returns-clause-writing
returns-clause-writing g c = writing_stands g.D.Counts

pub returns-clause-freezing : goal.returns-clause-freezing
returns-clause-freezing g c = freezing_stands g.D.Counts

pub returns-clause-super_page : goal.returns-clause-super_page
returns-clause-super_page g c = super_page_stands g.D.Counts

pub returns-clause-addresses : goal.returns-clause-addresses
returns-clause-addresses g c = addresses_stand g.D.Counts

pub returns-clause-changes : goal.returns-clause-changes
returns-clause-changes g c = changes_can_freeze g.D.Counts

pub returns-clause-reads : goal.returns-clause-reads
returns-clause-reads g c = reads_stand g.D.Counts
