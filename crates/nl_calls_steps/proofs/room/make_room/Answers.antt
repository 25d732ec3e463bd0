use Rattle.std.proofs.Common.{◌==◌, not, refl, arith}
use Rattle.nl_meta.proofs.Rising.{filtered_few}
use Rattle.nl_calls_steps.proofs.room.make_room.Goals as goal

pub returns-then-dirty-le-FEW-clause-room : goal.returns-then-dirty-le-FEW-clause-room
returns-then-dirty-le-FEW-clause-room g c =
    let few = filtered_few (λ a. not (a == 0)) c.args.core.now.meta.dirty in
    let dirty = c.dirty.ensures in
    let low = c.if-dirty-le-FEW.true in
    omega (arith, few, dirty, low)

pub returns-in-Fault-clause-early : goal.returns-in-Fault-clause-early
returns-in-Fault-clause-early g c = c.in-Fault.ensures.faults refl

-- ---- where four more pages may become dirty

pub returns-then-dirty-le-FEW-clause-kept : goal.returns-then-dirty-le-FEW-clause-kept
returns-then-dirty-le-FEW-clause-kept g c room = refl

pub returns-in-Done-clause-kept : goal.returns-in-Done-clause-kept
returns-in-Done-clause-kept g c room = let count = c.dirty.ensures in let high = c.if-dirty-le-FEW.false in absurd (let no : ⊥ = omega (arith, room, count, high) in no)

pub returns-in-Lost-clause-kept : goal.returns-in-Lost-clause-kept
returns-in-Lost-clause-kept g c room = let count = c.dirty.ensures in let high = c.if-dirty-le-FEW.false in absurd (let no : ⊥ = omega (arith, room, count, high) in no)

pub returns-in-Fault-clause-kept : goal.returns-in-Fault-clause-kept
returns-in-Fault-clause-kept g c room = let count = c.dirty.ensures in let high = c.if-dirty-le-FEW.false in absurd (let no : ⊥ = omega (arith, room, count, high) in no)
