use Rattle.nl_core.proofs.Counted.{counted_is}
use Rattle.nl_test_core.proofs.rig.Rig.call.Goals as goal

pub invariant_of-self : goal.invariant_of-self
invariant_of-self c = counted_is _ _ _ c.count_call.ensures c.self.invariant
