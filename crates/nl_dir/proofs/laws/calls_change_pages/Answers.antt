use Rattle.nl_dir.proofs.PageProofs.{changed_pages_are_kept, inserting_changes_pages, removing_changes_pages}
use Rattle.nl_dir.proofs.laws.calls_change_pages.Goals as goal

pub returns-clause-any : goal.returns-clause-any
returns-clause-any c = changed_pages_are_kept

pub returns-clause-inserting : goal.returns-clause-inserting
returns-clause-inserting c = inserting_changes_pages

pub returns-clause-removing : goal.returns-clause-removing
returns-clause-removing c = removing_changes_pages
