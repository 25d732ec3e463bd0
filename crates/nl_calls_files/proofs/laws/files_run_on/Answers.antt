use Rattle.nl_calls_files.proofs.laws.files_run_on.Goals as goal
use Rattle.nl_calls_files.proofs.FileRunning.{cut_has_pages, file_runs_on, held_lead_once, installed_has_pages}

pub returns-clause-file : goal.returns-clause-file
returns-clause-file g c = file_runs_on

pub returns-clause-installed : goal.returns-clause-installed
returns-clause-installed g c = installed_has_pages

pub returns-clause-cut : goal.returns-clause-cut
returns-clause-cut g c = cut_has_pages

pub returns-clause-lead : goal.returns-clause-lead
returns-clause-lead g c = held_lead_once g.D.Counts
