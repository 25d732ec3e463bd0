use Rattle.nl_indirect.proofs.PointerLaw.{one_pointer_stored}
use Rattle.nl_indirect.proofs.laws.one_pointer_stored.Goals as goal

pub returns : goal.returns
returns c = one_pointer_stored
