use Rattle.nl_dir.proofs.LawProofs.{empty_is_directory}
use Rattle.nl_dir.proofs.laws.empty_is_directory.Goals as goal

pub returns : goal.returns
returns c = empty_is_directory
