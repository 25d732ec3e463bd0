use Rattle.nl_files.proofs.LawProofs.{files_stand_on}
use Rattle.nl_files.proofs.laws.files_stand_on.Goals as goal

pub returns : goal.returns
returns g c = files_stand_on g.D.Counts
