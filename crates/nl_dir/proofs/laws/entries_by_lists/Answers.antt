use Rattle.nl_dir.proofs.ListProofs.{entries_by_lists}
use Rattle.nl_dir.proofs.laws.entries_by_lists.Goals as goal

pub returns : goal.returns
returns c = entries_by_lists
