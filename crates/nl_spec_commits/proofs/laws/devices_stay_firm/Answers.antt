use Rattle.nl_spec_commits.proofs.Firm.{commit_keeps_firm, medium_keeps_firm, program_keeps_firm, stored_keeps_firm, unit_keeps_firm}
use Rattle.nl_spec_commits.proofs.laws.devices_stay_firm.Goals as goal

pub returns-clause-stored : goal.returns-clause-stored
returns-clause-stored g c = stored_keeps_firm g.D.Counts

pub returns-clause-medium : goal.returns-clause-medium
returns-clause-medium g c = medium_keeps_firm g.D.Counts

pub returns-clause-program : goal.returns-clause-program
returns-clause-program g c = program_keeps_firm g.D.Counts

pub returns-clause-commit : goal.returns-clause-commit
returns-clause-commit g c = commit_keeps_firm g.D.Counts

pub returns-clause-unit : goal.returns-clause-unit
returns-clause-unit g c = unit_keeps_firm g.D.Counts
