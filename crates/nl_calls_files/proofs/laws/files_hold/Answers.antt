use Rattle.nl_calls_files.proofs.laws.files_hold.Goals as goal
use Rattle.nl_calls_files.proofs.Holders.{cutting_holds, installing_holds}

pub returns-clause-installing : goal.returns-clause-installing
returns-clause-installing g c = installing_holds g.D.Counts

pub returns-clause-cutting : goal.returns-clause-cutting
returns-clause-cutting g c = cutting_holds g.D.Counts
