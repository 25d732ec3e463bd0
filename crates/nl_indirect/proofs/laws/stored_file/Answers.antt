use Rattle.nl_indirect.proofs.LawProofs.{stored_file}
use Rattle.nl_indirect.proofs.laws.stored_file.Goals as goal

pub returns : goal.returns
returns c = stored_file
