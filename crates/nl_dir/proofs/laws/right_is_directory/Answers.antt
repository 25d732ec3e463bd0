use Rattle.nl_dir.proofs.LawProofs.{right_is_directory}
use Rattle.nl_dir.proofs.laws.right_is_directory.Goals as goal

pub returns : goal.returns
returns c = right_is_directory
