use Rattle.nl_calls_files.proofs.laws.files_fit.Goals as goal
use Rattle.nl_calls_files.proofs.Fits.{files_lead, files_of_pool, files_read_run, files_stand, free_file_pages}

pub returns-clause-stand : goal.returns-clause-stand
returns-clause-stand g c = files_stand g.D.Counts

pub returns-clause-lead : goal.returns-clause-lead
returns-clause-lead g c = files_lead g.D.Counts

pub returns-clause-run : goal.returns-clause-run
returns-clause-run g c = files_read_run g.D.Counts

pub returns-clause-pool : goal.returns-clause-pool
returns-clause-pool g c = files_of_pool g.D.Counts

pub returns-clause-free : goal.returns-clause-free
returns-clause-free g c = free_file_pages g.D.Counts
