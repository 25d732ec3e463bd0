use Rattle.nl_meta.proofs.SlotProofs.{one_slot}
use Rattle.nl_meta.proofs.laws.one_slot.Goals as goal

pub returns : goal.returns
returns c = one_slot
