use Rattle.std.proofs.Common.{◌≡◌, ℕ, List, [], None, Option, refl, sym, ap, subst, ◌∙◌, arith}
use Rattle.nl_core.specs.declared.state.Core.{Core}
use Rattle.nl_core.proofs.Onward.{goes_none}
use Rattle.nl_pagemap.specs.contracts.counts.PagemapCounts.TheImpl.{ghosts}
use Rattle.nl_pagemap.specs.declared.pagemap.Pagemap.{Pagemap}
use Rattle.nl_tree.specs.Causes.{fault_due, fault_sum}
use Rattle.nl_tree.specs.declared.call.Call.{Call}
use Rattle.nl_tree.specs.declared.call.Call.TheVariants.{Clean}
use Rattle.nl_tree.specs.declared.reply.FaultReply.TheVariants.{Eio}
use Rattle.nl_tree.specs.declared.reply.Reply.{Reply}
use Rattle.nl_tree.specs.declared.reply.Reply.TheVariants.{Done, Fault}
use Rattle.nl_calls_steps.specs.Calls.{counts_of}
use Rattle.nl_pagemap_volume.specs.Serving.{CoreServes}
use Rattle.nl_pagemap_volume.specs.Volume.{DoesCall, refusing}
use Rattle.nl_pagemap_volume.proofs.Doing.{clean_of, does_clean, does_fail, does_refused, does_serve, may_after, may_try, serves_counted, serves_goes}
use Rattle.nl_pagemap_volume.proofs.answering.change.Goals as goal

pub make_room-found-requires-clause-writes : goal.make_room-found-requires-clause-writes
make_room-found-requires-clause-writes g c =
    let G = ghosts g.row.M g.M.Nand g.M.Nand-dict in
    (may_try G c.args.core.now c.args.call.now c.requires.due).writes c.requires.changes

pub serve_call-requires-clause-serves : goal.serve_call-requires-clause-serves
serve_call-requires-clause-serves g c =
    let G = ghosts g.row.M g.M.Nand g.M.Nand-dict in
    let r = c.make_room-found in
    serves_goes G 0 c.args.files c.args.core.now r.new.core c.requires.serves r.ensures.goes r.ensures.core r.ensures.flight

pub serve_call-requires-clause-may : goal.serve_call-requires-clause-may
serve_call-requires-clause-may g c =
    let G = ghosts g.row.M g.M.Nand g.M.Nand-dict in
    let r = c.make_room-found in
    may_after G c.args.call.now c.args.core.now r.new.core (may_try G c.args.core.now c.args.call.now c.requires.due) r.ensures.goes (r.ensures.writes c.if-found.true)

pub returns-then-found-clause-does : goal.returns-then-found-clause-does
returns-then-found-clause-does g c =
    let G = ghosts g.row.M g.M.Nand g.M.Nand-dict in
    let u = c.args.core.now in
    let r = c.make_room-found in
    let a = c.serve_call in
    let e = a.ensures in
    does_serve G c.args.call.now u r.new.core c.requires.due r.ensures.goes a.new.core a.result.reply a.new.out e.answers e.steps e.cause e.synced e.numbers e.counted e.counts e.same_shape e.stops e.stamps

pub returns-clause-serves : goal.returns-clause-serves
returns-clause-serves g c =
    let G = ghosts g.row.M g.M.Nand g.M.Nand-dict in
    let u = c.args.core.now in
    let r = c.make_room-found in
    let e = c.fail.ensures in
    subst (λ n. CoreServes G n c.fail.new.core) (sym e.files) (subst (λ (x : Core (Pagemap g.row.M.Denot)). CoreServes G c.args.files x) (sym e.counted)
    (serves_counted G c.args.files r.new.core (serves_goes G 0 c.args.files u r.new.core c.requires.serves r.ensures.goes r.ensures.core r.ensures.flight)))

pub returns-clause-does : goal.returns-clause-does
returns-clause-does g c =
    let G = ghosts g.row.M g.M.Nand g.M.Nand-dict in
    let u = c.args.core.now in
    let r = c.make_room-found in
    let v = r.new.core in
    let e = c.fail.ensures in
    subst (λ (o : List ℕ). DoesCall G c.args.call.now u c.fail.new.core c.fail.result.reply o) (sym c.requires.nothing)
    (subst (λ (p : Reply). DoesCall G c.args.call.now u c.fail.new.core p []) (sym e.reply)
    (subst (λ (x : Core (Pagemap g.row.M.Denot)). DoesCall G c.args.call.now u x (Fault (Eio (fault_sum (counts_of G v.device)))) []) (sym e.counted)
    (does_fail G c.args.call.now u v c.requires.due r.ensures.goes r.ensures.core (r.ensures.failed c.if-found.false))))
