use Rattle.nl_meta.proofs.SlotProofs.{by_index_and_name}
use Rattle.nl_meta.proofs.laws.by_index_and_name.Goals as goal

pub returns : goal.returns
returns c = by_index_and_name
