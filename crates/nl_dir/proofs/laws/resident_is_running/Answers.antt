use Rattle.nl_dir.proofs.LawProofs.{resident_is_running}
use Rattle.nl_dir.proofs.laws.resident_is_running.Goals as goal

pub returns : goal.returns
returns c = resident_is_running
