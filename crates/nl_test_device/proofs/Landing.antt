-- Where a block is Free the pages of a block can land.
use Rattle.std.proofs.Common.{◌≡◌, ◌*◌, ◌≤◌, Bool, true, false, cond, is_some, arith, mul-le-mul_right}
use Rattle.nl_iface.specs.Space.{CanLand}
use Rattle.nl_pseg.specs.Segment.{Physical}
use Rattle.nl_pseg.specs.Space.{IsWhole, victims}
use Rattle.nl_device.specs.Space.{space_of}

pub lands_free : (seg : Physical) → IsWhole seg → (seg.free ≡ 0 → ⊥) → CanLand (space_of seg)
unfolding space_of
lands_free seg whole some =
    let few : victims seg ≤ 1 = one (is_some seg.victim) in
    let hand : victims seg * seg.size ≤ 1 * seg.size = mul-le-mul_right seg.size few in
    let room : 1 * seg.size ≤ seg.free * seg.size = mul-le-mul_right seg.size (omega (arith, some)) in
    let victim = whole.numbers.victim in
    omega (arith, hand, room, victim)
  where
    one : (b : Bool) → cond b 1 0 ≤ 1
    one true = omega arith
    one false = omega arith
