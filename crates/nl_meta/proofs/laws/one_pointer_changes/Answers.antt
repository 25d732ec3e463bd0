use Rattle.nl_meta.proofs.PointerListProofs.{one_pointer_changes}
use Rattle.nl_meta.proofs.laws.one_pointer_changes.Goals as goal

pub returns : goal.returns
returns c = one_pointer_changes
