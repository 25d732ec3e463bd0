use Rattle.std.proofs.Common.{◌≡◌, ◌≤◌, refl, sym, ◌∙◌, arith}
use Rattle.nl_calls_steps.specs.Calls.{counts_of}
use Rattle.nl_pagemap.specs.contracts.counts.PagemapCounts.TheImpl.{ghosts}
use Rattle.nl_pagemap_volume.proofs.Cleaned.{goes_on, room_begins, room_then, rose_on}
use Rattle.nl_pagemap_volume.proofs.cleaning.make_room.Goals as goal

pub loop-turn-init : goal.loop-turn-init
loop-turn-init g c = room_begins (ghosts g.row.M g.M.Nand g.M.Nand-dict) c.args.core.now c.requires.core c.requires.writes

pub loop-turn-preserved : goal.loop-turn-preserved
loop-turn-preserved g c =
    let G = ghosts g.row.M g.M.Nand g.M.Nand-dict in
    let e = c.in-Done.ensures in
    room_then G c.args.core.now c.loop-turn.core c.clean_one.new.core c.loop-turn.invariant e.core e.goes e.flight (e.writes (λ is. cc is))

pub returns-in-Nothing-clause-goes : goal.returns-in-Nothing-clause-goes
returns-in-Nothing-clause-goes g c = goes_on (ghosts g.row.M g.M.Nand g.M.Nand-dict) c.args.core.now c.loop-turn.core c.clean_one.new.core c.loop-turn.invariant c.in-Nothing.ensures.goes

pub returns-in-Nothing-clause-writes : goal.returns-in-Nothing-clause-writes
returns-in-Nothing-clause-writes g c is = c.in-Nothing.ensures.writes (λ failed. cc failed)

pub returns-in-Fault-clause-goes : goal.returns-in-Fault-clause-goes
returns-in-Fault-clause-goes g c = goes_on (ghosts g.row.M g.M.Nand g.M.Nand-dict) c.args.core.now c.loop-turn.core c.clean_one.new.core c.loop-turn.invariant c.in-Fault.ensures.goes

pub returns-in-Fault-clause-failed : goal.returns-in-Fault-clause-failed
returns-in-Fault-clause-failed g c is = rose_on (ghosts g.row.M g.M.Nand g.M.Nand-dict) c.args.core.now c.loop-turn.core c.clean_one.new.core c.loop-turn.invariant (c.in-Fault.ensures.failed refl)

pub returns-clause-core : goal.returns-clause-core
returns-clause-core g c = c.loop-turn.invariant.core

pub returns-clause-goes : goal.returns-clause-goes
returns-clause-goes g c = c.loop-turn.invariant.goes

pub returns-clause-flight : goal.returns-clause-flight
returns-clause-flight g c = c.loop-turn.invariant.flight

pub returns-clause-writes : goal.returns-clause-writes
returns-clause-writes g c is = c.loop-turn.invariant.writes
