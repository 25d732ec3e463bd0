use Rattle.std.proofs.Common.{◌≡◌, None}
use Rattle.nl_test_device_segments.proofs.named.Rig.soil.Given as goal

abbrev pub invariant-loop-block : goal.invariant-loop-block
invariant-loop-block l = l.self.seg.victim ≡ None
