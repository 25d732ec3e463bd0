use Rattle.nl_pseg.proofs.States.{within_length}
use Rattle.nl_pseg.proofs.Left.{there_is}
use Rattle.nl_pseg.specs.Segment.{held_at}
use Rattle.std.specs.Vec.{with_item}
use Rattle.nl_pseg.proofs.Lives.{live_counted, live_filled, live_used}
use Rattle.nl_pseg.specs.Steps.{IsLed}
use Rattle.nl_pseg.specs.Seen.{IsPhysicalFormed, IsTied, seen}
use Rattle.std.proofs.Common.{◌/◌, None, arith, subst}
use Rattle.nl_pseg.proofs.Led.{fresh, fresh_after, led_formed, led_now, led_tied}
use Rattle.nl_pseg.specs.Kept.{kept, Kept}
use Rattle.nl_pseg.proofs.state.State.lead.Goals as goal

pub returns-clause-formed : goal.returns-clause-formed
returns-clause-formed c =
    subst (λ (k : Kept). IsPhysicalFormed (record k { held = with_item c.args.self.now.held c.args.before None; blocks = c.mark.new.blocks; names = c.add.new.self }))
    (live_counted c.args.self.now c.requires.formed c.requires.tied c.args.before c.requires.live c.mark.new.blocks c.mark.ensures.uses c.mark.ensures.fills)
    (led_formed (kept c.args.self.now) c.requires.formed c.requires.tied c.args.before c.args.after c.requires.victim c.requires.live c.requires.there c.requires.apart c.mark.new.blocks c.mark.ensures.same c.mark.ensures.states c.add.new.self c.add.ensures.added c.add.ensures.table c.requires.room c.mark.ensures.marked)

pub returns-clause-tied : goal.returns-clause-tied
returns-clause-tied c =
    subst (λ (k : Kept). IsTied (record k { held = with_item c.args.self.now.held c.args.before None; blocks = c.mark.new.blocks; names = c.add.new.self }))
    (live_counted c.args.self.now c.requires.formed c.requires.tied c.args.before c.requires.live c.mark.new.blocks c.mark.ensures.uses c.mark.ensures.fills)
    (led_tied (kept c.args.self.now) c.requires.formed c.requires.tied c.args.before c.args.after c.requires.victim c.requires.live c.requires.there c.requires.apart c.mark.new.blocks c.mark.ensures.same c.mark.ensures.states c.add.new.self c.add.ensures.added c.add.ensures.table c.requires.room)

pub returns-clause-led : goal.returns-clause-led
returns-clause-led c =
    subst (λ (k : Kept). IsLed c.args.before c.args.after (seen (kept c.args.self.now)) (seen (record k { held = with_item c.args.self.now.held c.args.before None; blocks = c.mark.new.blocks; names = c.add.new.self })))
    (live_counted c.args.self.now c.requires.formed c.requires.tied c.args.before c.requires.live c.mark.new.blocks c.mark.ensures.uses c.mark.ensures.fills)
    (led_now (kept c.args.self.now) c.requires.formed c.requires.tied c.args.before c.args.after c.requires.victim c.requires.live c.requires.there c.requires.apart c.mark.new.blocks c.mark.ensures.same c.mark.ensures.states c.add.new.self c.add.ensures.added c.add.ensures.table c.requires.room
    c.count.ensures.table c.mark.ensures.table c.add.ensures.ways)

pub add-requires-clause-fresh : goal.add-requires-clause-fresh
add-requires-clause-fresh c = fresh (kept c.args.self.now) c.requires.formed c.requires.tied c.args.before c.args.after c.requires.victim c.requires.live c.requires.there c.requires.apart

pub add-requires-clause-free : goal.add-requires-clause-free
add-requires-clause-free c = fresh_after (kept c.args.self.now) c.requires.formed c.requires.tied c.args.before c.args.after c.requires.victim c.requires.live c.requires.there c.requires.apart

pub mark-requires-clause-has : goal.mark-requires-clause-has
mark-requires-clause-has c = (c.requires.tied.phases.victim_in (c.args.before / c.args.self.now.blocks.size) c.requires.victim).0

pub mark-requires-clause-rising : goal.mark-requires-clause-rising
mark-requires-clause-rising c = c.requires.formed.marked.rising

pub mark-requires-clause-used : goal.mark-requires-clause-used
mark-requires-clause-used c = let less = live_used c.args.self.now c.requires.formed c.requires.tied c.args.before c.requires.live in omega (arith, less)

pub mark-requires-clause-filled : goal.mark-requires-clause-filled
mark-requires-clause-filled c = let less = live_filled c.args.self.now c.requires.formed c.requires.tied c.args.before c.requires.live in omega (arith, less)

pub add-requires-clause-room : goal.add-requires-clause-room
add-requires-clause-room c = c.requires.room

pub add-requires-clause-other : goal.add-requires-clause-other
add-requires-clause-other c = c.requires.apart

pub returns-clause-table : goal.returns-clause-table
returns-clause-table c = c.count-2.ensures.table

pub index_mut-requires : goal.index_mut-requires
index_mut-requires c =
    let s = kept c.args.self.now in
    let live = there_is (held_at (seen s) c.args.before) c.requires.live in
    let within = within_length s c.requires.formed c.args.before (c.requires.formed.places.each c.args.before live.0 live.1).within in
    omega (arith, within, c.args.self.now.held.ok.0)
