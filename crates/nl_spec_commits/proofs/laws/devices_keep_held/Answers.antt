use Rattle.nl_spec_commits.proofs.Steps.{cleaning_keeps_held, copy_keeps_held, drop_keeps_held, program_keeps_held, tables_keep_held}
use Rattle.nl_spec_commits.proofs.laws.devices_keep_held.Goals as goal

pub returns-clause-program : goal.returns-clause-program
returns-clause-program g c = program_keeps_held g.D.Counts

pub returns-clause-drop_page : goal.returns-clause-drop_page
returns-clause-drop_page g c = drop_keeps_held g.D.Counts

pub returns-clause-cleaning : goal.returns-clause-cleaning
returns-clause-cleaning g c = cleaning_keeps_held g.D.Counts

pub returns-clause-copy : goal.returns-clause-copy
returns-clause-copy g c = copy_keeps_held g.D.Counts

pub returns-clause-tables : goal.returns-clause-tables
returns-clause-tables g c = tables_keep_held g.D.Counts
