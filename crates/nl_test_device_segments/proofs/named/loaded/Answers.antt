use Rattle.std.proofs.Common.{arith}
use Rattle.nl_test_device_segments.proofs.Rigs.{new_dead}
use Rattle.nl_test_device_segments.proofs.named.loaded.Goals as goal

pub load-requires-clause-dead : goal.load-requires-clause-dead
load-requires-clause-dead c =
    let e = c.in_ok-seg.ensures in
    new_dead c.in_ok-shape.shape c.in_ok-seg.seg 300 c.in_ok-shape.ensures e.live e.first e.blocks e.pages e.pairs e.victim (omega arith) (omega arith)
