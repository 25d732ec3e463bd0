use Rattle.nl_files.proofs.CutOn.{cut_runs}
use Rattle.nl_files.proofs.CutWritten.{one_cut_is_written}
use Rattle.nl_files.proofs.laws.cut_runs.Goals as goal

pub returns-clause-written : goal.returns-clause-written
returns-clause-written g c = one_cut_is_written

pub returns-clause-runs : goal.returns-clause-runs
returns-clause-runs g c = cut_runs g.D.Counts
