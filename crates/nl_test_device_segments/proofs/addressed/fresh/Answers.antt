use Rattle.nl_test_device_segments.proofs.Rigs.{new_addresses}
use Rattle.nl_test_device_segments.proofs.addressed.fresh.Goals as goal

pub invariant_of-result : goal.invariant_of-result
invariant_of-result c =
    let e = c.in_ok-seg.ensures in
    let m = c.in_ok-media.ensures in
    new_addresses c.in_ok-shape.shape _ _ c.in_ok-seg.seg c.in_ok-shape.ensures m.numbers m.erased e.places e.pages e.bound e.spare
