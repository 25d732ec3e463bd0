use Rattle.nl_spec_commits.proofs.Losing.{runs_of_lists}
use Rattle.nl_spec_commits.proofs.Replacing.{cutting_keeps_held, installing_keeps_held, names_keep_held, reading_keeps_held, replacing_keeps_held, super_page_keeps_held}
use Rattle.nl_spec_commits.proofs.laws.changes_keep_held.Goals as goal

pub returns-clause-installing : goal.returns-clause-installing
returns-clause-installing g c = installing_keeps_held g.D.Counts

pub returns-clause-cutting : goal.returns-clause-cutting
returns-clause-cutting g c = cutting_keeps_held g.D.Counts

pub returns-clause-names : goal.returns-clause-names
returns-clause-names g c = names_keep_held g.D.Counts

pub returns-clause-replacing : goal.returns-clause-replacing
returns-clause-replacing g c = replacing_keeps_held g.D.Counts

pub returns-clause-lists : goal.returns-clause-lists
returns-clause-lists g c = runs_of_lists

pub returns-clause-reading : goal.returns-clause-reading
returns-clause-reading g c = reading_keeps_held g.D.Counts

pub returns-clause-super_page : goal.returns-clause-super_page
returns-clause-super_page g c = super_page_keeps_held g.D.Counts
