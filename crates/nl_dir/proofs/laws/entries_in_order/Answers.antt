use Rattle.nl_dir.proofs.LawProofs.{entries_in_order}
use Rattle.nl_dir.proofs.laws.entries_in_order.Goals as goal

pub returns : goal.returns
returns c = entries_in_order
