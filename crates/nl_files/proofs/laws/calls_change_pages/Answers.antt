use Rattle.nl_files.proofs.PageProofs.{cutting_changes_pages, installing_changes_pages, reading_changes_pages}
use Rattle.nl_files.proofs.laws.calls_change_pages.Goals as goal

pub returns-clause-reading : goal.returns-clause-reading
returns-clause-reading g c = reading_changes_pages g.D.Counts

pub returns-clause-installing : goal.returns-clause-installing
returns-clause-installing g c = installing_changes_pages

pub returns-clause-cutting : goal.returns-clause-cutting
returns-clause-cutting g c = cutting_changes_pages
