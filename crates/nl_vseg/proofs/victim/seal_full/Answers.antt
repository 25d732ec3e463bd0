use Rattle.std.proofs.Common.{refl, ◌∙◌, arith}
use Rattle.nl_vseg.proofs.Using.{closed_keeps}
use Rattle.nl_vseg.proofs.victim.seal_full.Goals as goal

pub returns-then-has_room-clause-used : goal.returns-then-has_room-clause-used
returns-then-has_room-clause-used c = record { each = λ block within. refl; rising = λ rising. rising }

pub returns-then-has_room-clause-sealed : goal.returns-then-has_room-clause-sealed
returns-then-has_room-clause-sealed c full =
    let room = c.has_room.ensures.room c.if-has_room.true in
    absurd (omega (arith, room, full))

pub returns-clause-used : goal.returns-clause-used
returns-clause-used c = closed_keeps (c.has_room.ensures.full c.if-has_room.false) c.seal_used.ensures.states.numbers.same_size c.seal_used.ensures.used

pub returns-clause-sealed : goal.returns-clause-sealed
returns-clause-sealed c full = c.seal_used.ensures.here (c.seal_used.ensures.states.free c.args.block ∙ c.requires.in_use)
