use Rattle.std.proofs.Common.{sym, subst}
use Rattle.nl_calls_names.specs.declared.answer.Naming.{Naming}
use Rattle.nl_calls_names.proofs.Cores.{fits_of}
use Rattle.nl_calls_names.proofs.Named.{Named, core_then, if_gone, named, named_early, room_then}
use Rattle.nl_calls_names.proofs.changing.change_names.Goals as goal

pub change-answer-requires-clause-runs : goal.change-answer-requires-clause-runs
change-answer-requires-clause-runs g c =
    let G = g.D.Counts in
    let v = c.args.core.now in
    let e = c.in-Ok.ensures in
    (core_then G c.args.call.now v c.requires.core c.device_stands.ensures.volume c.requires.room c.gather_lost.new.core e.done e.opened e.reads e.formed c.device_stands-in-Ok.ensures.pages).journaled.runs

pub change-answer-requires-clause-free : goal.change-answer-requires-clause-free
change-answer-requires-clause-free g c =
    let G = g.D.Counts in
    let v = c.args.core.now in
    let e = c.in-Ok.ensures in
    fits_of G _ (core_then G c.args.call.now v c.requires.core c.device_stands.ensures.volume c.requires.room c.gather_lost.new.core e.done e.opened e.reads e.formed c.device_stands-in-Ok.ensures.pages)

pub change-answer-requires-clause-room : goal.change-answer-requires-clause-room
change-answer-requires-clause-room g c =
    let G = g.D.Counts in
    let v = c.args.core.now in
    let e = c.in-Ok.ensures in
    room_then G c.args.call.now v c.requires.core c.device_stands.ensures.volume c.requires.room c.gather_lost.new.core e.done e.opened e.reads e.formed c.device_stands-in-Ok.ensures.pages

pub settle-requires-clause-drop : goal.settle-requires-clause-drop
settle-requires-clause-drop g c =
    let G = g.D.Counts in
    let v = c.args.core.now in
    let e = c.in-Ok.ensures in
    let a = c.change-answer in
    if_gone G c.args.call.now v c.requires.core c.device_stands.ensures.volume c.requires.room c.gather_lost.new.core e.done e.opened e.reads e.formed c.device_stands-in-Ok.ensures.pages
    a.new.device a.new.meta a.new.nodes a.result a.ensures.answer a.ensures.left a.ensures.reads

pub returns-in-Ok : goal.returns-in-Ok
returns-in-Ok g c =
    let G = g.D.Counts in
    let v = c.args.core.now in
    let w = c.gather_lost.new.core in
    let x = c.settle.new.core in
    let e = c.in-Ok.ensures in
    let a = c.change-answer in
    let r = named G c.args.call.now v c.requires.core c.device_stands.ensures.volume c.requires.room w e.done e.opened e.reads e.formed c.device_stands-in-Ok.ensures.pages
    a.new.device a.new.meta a.new.nodes a.result a.ensures.answer a.ensures.left a.ensures.reads
    c.changes_in_tree.ensures a.ensures.formed c.device_stands-in-Ok-2.ensures.pages c.len-first.result c.len-first.ensures.count x c.settle.ensures.settles in
    let n = subst (λ (z : Naming). Named G c.args.call.now v x z) (sym c.settle.ensures.answer) r in
    record {
      core = n.core;
      steps = n.steps;
      flight = n.flight;
      answer = n.answers;
      takes = n.takes;
      reads = n.reads;
    }

pub returns-in-Err : goal.returns-in-Err
returns-in-Err g c =
    let G = g.D.Counts in
    let v = c.args.core.now in
    let w = c.gather_lost.new.core in
    let e = c.in-Err.ensures in
    let r = named_early G c.args.call.now v c.requires.core c.device_stands.ensures.volume w e.stopped e.formed c.device_stands-in-Err.ensures.pages c.in-Err.stop e.reads in
    let n = subst (λ (z : Naming). Named G c.args.call.now v w z) (sym c.stopped.ensures) r in
    record { core = n.core; steps = n.steps; flight = n.flight; answer = n.answers; takes = n.takes; reads = n.reads }
