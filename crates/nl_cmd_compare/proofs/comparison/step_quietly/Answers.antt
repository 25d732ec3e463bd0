use Rattle.std.proofs.Common.{◌≡◌, ◌∙◌, ℕ, length, ap, None, Option, subst, sym}
use Rattle.std.proofs.Math.Nat.{lt_of_not-le}
use Rattle.nl_field.specs.CrashStates.{Rose}
use Rattle.nl_pagemap.specs.contracts.counts.PagemapCounts.TheImpl.{ghosts}
use Rattle.nl_tree.specs.Causes.{fault_in}
use Rattle.nl_tree.specs.Replay.{Answers, step_marked}
use Rattle.nl_tree.specs.declared.reply.FaultReply.{FaultReply}
use Rattle.nl_pagemap_volume.specs.Volume.{Shows, counts_in, shape_in}
use Rattle.nl_cmd_compare.proofs.Quiet.{neither_rose, not_true, still_zero}
use Rattle.nl_cmd_compare.proofs.Stepping.{none_of}
use Rattle.nl_cmd_compare.proofs.comparison.step_quietly.Goals as goal

pub returns-clause-goes_on : goal.returns-clause-goes_on
returns-clause-goes_on g c =
    let G = ghosts g.row.M g.M.Nand g.M.Nand-dict in
    let e = c.step-reply.ensures in
    let old = c.args.map.now in
    let new = c.step-reply.new.self in
    let call = c.args.call.now in
    let reply = c.step-reply.result in
    let out = c.step-reply.new.out in
    let quiet : fault_in reply ≡ None = none_of (fault_in reply) (sym c.is_fault.ensures ∙ c.if-is_fault.false) in
    let reads : Rose (counts_in G old).read_faults (counts_in G new).read_faults → ⊥ =
    λ rose. not_true (c.if-has_risen.ensures.1 (subst (λ (x : ℕ × ℕ). Rose x.0 x.1) (λ k. ((sym c.read_faults-reads.ensures) k, (sym c.read_faults.ensures) k)) rose)) in
    let writes : Rose (counts_in G old).write_faults (counts_in G new).write_faults → ⊥ =
    λ rose. not_true (c.if-has_risen-2.ensures.1 (subst (λ (x : ℕ × ℕ). Rose x.0 x.1) (λ k. ((sym c.write_faults-writes.ensures) k, (sym c.write_faults.ensures) k)) rose)) in
    record {
      quiet = quiet;
      answers = λ t tree shows. subst (λ (o : Option FaultReply). Answers (step_marked (shape_in G old) tree (call, o)) reply out) quiet (e.answers t tree shows);
      goes_on = λ t tree shows. subst (λ (o : Option FaultReply). Shows G new (step_marked (shape_in G old) tree (call, o)).tree) quiet (e.goes_on t tree shows);
      same_shape = e.same_shape;
      writes = λ zero. still_zero new.core.stopped (λ not. writes (e.stops.some zero not).0);
      none_awaits = λ t zero. ap length (e.freed t quiet (neither_rose (counts_in G old) (counts_in G new) reads writes) zero (lt_of_not-le (λ high. not_true (c.if-is_worn.ensures.1 high))));
    }
