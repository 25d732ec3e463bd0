use Rattle.std.proofs.Common.{ap, arith, drop, sym, ◌+◌, ◌∙◌}
use Rattle.nl_recover_pointers.specs.Held.{held_of}
use Rattle.nl_recover_pointers.proofs.Crowding.{count_lost, lost_more, lost_same}
use Rattle.nl_recover_pointers.proofs.Placing.{holds_test}
use Rattle.nl_recover_pointers.proofs.Rests.{drop_got}
use Rattle.nl_recover_pointers.proofs.crowded.count_lost.Goals.{then-not-holds, else-not-holds}
use Rattle.nl_recover_pointers.proofs.crowded.count_lost.Goals as goal

pub held-preserved : goal.held-preserved
held-preserved c =
    let shape = c.args.shape.now in
    let seen = c.args.scan.now.seen in
    let one = held_of c.get.result.now in
    let rest = drop (c.held.at + 1) c.args.held.now in
    let holds = sym (holds_test shape seen c.in_ok-places.places one.pointer c.in_ok-places.ensures) ∙ sym c.holds.ensures in
    let first = ap (count_lost shape seen) (drop_got c.args.held.now c.held.at one c.get.ensures) in
    elim c.if-not-holds.branch [
      | then-not-holds w ↦ let more = lost_more shape seen one rest (holds ∙ w.if-not-holds.true) in record { few = omega (arith, w.lost-is, c.held.invariant.few); rest = omega (arith, w.lost-is, first, more, c.held.invariant.rest) }
      | else-not-holds w ↦ let same = lost_same shape seen one rest (holds ∙ w.if-not-holds.false) in record { few = omega (arith, w.lost-is, c.held.invariant.few); rest = omega (arith, w.lost-is, first, same, c.held.invariant.rest) }
    ]
