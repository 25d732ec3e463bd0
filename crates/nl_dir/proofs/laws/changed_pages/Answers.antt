use Rattle.nl_dir.proofs.LawProofs.{changed_pages_run, change_takes_room}
use Rattle.nl_dir.proofs.laws.changed_pages.Goals as goal

pub returns-clause-run : goal.returns-clause-run
returns-clause-run c = changed_pages_run

pub returns-clause-room : goal.returns-clause-room
returns-clause-room c = change_takes_room
