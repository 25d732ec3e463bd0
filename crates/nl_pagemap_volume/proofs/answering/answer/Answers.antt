use Rattle.std.proofs.Common.{◌≡◌, ℕ, List, [], None, Option, refl, sym, ap, subst, ◌∙◌, arith}
use Rattle.nl_core.specs.declared.state.Core.{Core}
use Rattle.nl_core.proofs.Onward.{goes_none}
use Rattle.nl_pagemap.specs.contracts.counts.PagemapCounts.TheImpl.{ghosts}
use Rattle.nl_pagemap.specs.declared.pagemap.Pagemap.{Pagemap}
use Rattle.nl_tree.specs.Causes.{fault_due, fault_sum}
use Rattle.nl_tree.specs.declared.call.Call.{Call}
use Rattle.nl_tree.specs.declared.call.Call.TheVariants.{Clean}
use Rattle.nl_tree.specs.declared.reply.FaultReply.TheVariants.{Eio}
use Rattle.nl_tree.specs.declared.reply.Reply.{Reply}
use Rattle.nl_tree.specs.declared.reply.Reply.TheVariants.{Done, Fault}
use Rattle.nl_calls_steps.specs.Calls.{counts_of}
use Rattle.nl_pagemap_volume.specs.Serving.{CoreServes}
use Rattle.nl_pagemap_volume.specs.Volume.{DoesCall, refusing}
use Rattle.nl_pagemap_volume.proofs.Doing.{clean_of, does_clean, does_fail, does_refused, does_serve, may_after, may_try, serves_counted, serves_goes}
use Rattle.nl_pagemap_volume.proofs.answering.answer.Goals as goal

pub returns-in-Some-clause-serves : goal.returns-in-Some-clause-serves
returns-in-Some-clause-serves g c =
    let G = ghosts g.row.M g.M.Nand g.M.Nand-dict in
    let u = c.args.core.now in
    let e = c.without_effect.ensures in
    subst (λ n. CoreServes G n c.without_effect.new.core) (sym e.files) (subst (λ (x : Core (Pagemap g.row.M.Denot)). CoreServes G c.args.files x) (sym e.counted) (serves_counted G c.args.files u c.requires.serves))

pub returns-in-Some-clause-does : goal.returns-in-Some-clause-does
returns-in-Some-clause-does g c =
    let G = ghosts g.row.M g.M.Nand g.M.Nand-dict in
    let u = c.args.core.now in
    let e = c.without_effect.ensures in
    let fault = c.in-Some.fault in
    subst (λ (o : List ℕ). DoesCall G c.args.call.now u c.without_effect.new.core c.without_effect.result.reply o) (sym c.clear.ensures)
    (subst (λ (r : Reply). DoesCall G c.args.call.now u c.without_effect.new.core r []) (sym e.reply)
    (subst (λ (x : Core (Pagemap g.row.M.Denot)). DoesCall G c.args.call.now u x (Fault fault) []) (sym e.counted)
    (does_refused G c.args.call.now u u fault c.requires.serves.core (sym c.refusal.ensures ∙ c.in-Some.is))))
