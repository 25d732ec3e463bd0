use Rattle.std.proofs.Common.{◌≡◌, ℕ, List, [], None, Option, refl, sym, ap, subst, ◌∙◌, arith}
use Rattle.nl_core.specs.declared.state.Core.{Core}
use Rattle.nl_core.proofs.Onward.{goes_none}
use Rattle.nl_pagemap.specs.contracts.counts.PagemapCounts.TheImpl.{ghosts}
use Rattle.nl_pagemap.specs.declared.pagemap.Pagemap.{Pagemap}
use Rattle.nl_tree.specs.Causes.{fault_due, fault_sum}
use Rattle.nl_tree.specs.declared.call.Call.{Call}
use Rattle.nl_tree.specs.declared.call.Call.TheVariants.{Clean}
use Rattle.nl_tree.specs.declared.reply.FaultReply.TheVariants.{Eio}
use Rattle.nl_tree.specs.declared.reply.Reply.{Reply}
use Rattle.nl_tree.specs.declared.reply.Reply.TheVariants.{Done, Fault}
use Rattle.nl_calls_steps.specs.Calls.{counts_of}
use Rattle.nl_pagemap_volume.specs.Serving.{CoreServes}
use Rattle.nl_pagemap_volume.specs.Volume.{DoesCall, refusing}
use Rattle.nl_pagemap_volume.proofs.Doing.{clean_of, does_clean, does_fail, does_refused, does_serve, may_after, may_try, serves_counted, serves_goes}
use Rattle.nl_pagemap_volume.proofs.answering.try_call.Goals as goal

pub clean_all-requires-clause-due : goal.clean_all-requires-clause-due
clean_all-requires-clause-due g c =
    let G = ghosts g.row.M g.M.Nand g.M.Nand-dict in
    subst (λ (k : Call). fault_due (refusing G c.args.core.now) k ≡ None) (clean_of c.args.call.now (sym c.is_clean.ensures ∙ c.if-is_clean.true)) c.requires.due

pub returns-then-is_clean-clause-does : goal.returns-then-is_clean-clause-does
returns-then-is_clean-clause-does g c =
    let G = ghosts g.row.M g.M.Nand g.M.Nand-dict in
    let a = c.clean_all in
    subst (λ (o : List ℕ). DoesCall G c.args.call.now c.args.core.now a.new.core a.result.reply o) (sym c.requires.nothing)
    (subst (λ (k : Call). DoesCall G k c.args.core.now a.new.core a.result.reply []) (sym (clean_of c.args.call.now (sym c.is_clean.ensures ∙ c.if-is_clean.true))) a.ensures.does)

pub serve_call-requires-clause-may : goal.serve_call-requires-clause-may
serve_call-requires-clause-may g c =
    let G = ghosts g.row.M g.M.Nand g.M.Nand-dict in
    may_try G c.args.core.now c.args.call.now c.requires.due

pub returns-clause-does : goal.returns-clause-does
returns-clause-does g c =
    let G = ghosts g.row.M g.M.Nand g.M.Nand-dict in
    let u = c.args.core.now in
    let a = c.serve_call in
    let e = a.ensures in
    does_serve G c.args.call.now u u c.requires.due (goes_none G u c.requires.serves.core) a.new.core a.result.reply a.new.out e.answers e.steps e.cause e.synced e.numbers e.counted e.counts e.same_shape e.stops e.stamps
