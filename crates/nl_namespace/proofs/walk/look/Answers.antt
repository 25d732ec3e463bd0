use Rattle.std.proofs.Common.{ℕ, ◌+◌, drop, refl, sym, ap, subst, ◌∙◌, Some, None, arith}
use Rattle.nl_tree.specs.Represents.{node_reached}
use Rattle.nl_namespace.specs.Paths.{walk_refusal}
use Rattle.nl_meta_running.specs.Running.{IsUsedNode}
use Rattle.nl_namespace.specs.Stepping.{StepsInto}
use Rattle.nl_namespace.proofs.Entries.{directory-back}
use Rattle.nl_namespace.proofs.Graphs.{drop-all, entry-used, graph, root-used}
use Rattle.nl_meta_running.proofs.Holds.{bounds-of, none-runs}
use Rattle.nl_meta_running.proofs.Kept.{kept-then, runs-then, used-back, used-on}
use Rattle.nl_namespace.proofs.Walks.{file-before, missing-before, missing-last, onwards}
use Rattle.nl_namespace.proofs.walk.look.Goals as goal

pub loop-i-init : goal.loop-i-init
loop-i-init g c =
    let b = bounds-of (g.D.Counts.shape c.args.device.now) (g.met.D.VirtualPages.numbers c.args.device.now c.requires.formed) in
    record {
      formed = c.requires.formed;
      kept = none-runs g.D.Counts c.args.device.now c.args.meta.now c.requires.runs;
      faults = refl;
      used = root-used g.D.Counts c.args.device.now c.args.meta.now b c.requires.runs;
      reached = refl;
      refused = refl;
    }

pub follow-requires-clause-runs : goal.follow-requires-clause-runs
follow-requires-clause-runs g c =
    let b = bounds-of (g.D.Counts.shape c.args.device.now) (g.met.D.VirtualPages.numbers c.args.device.now c.requires.formed) in
    runs-then g.D.Counts c.args.device.now c.args.meta.now c.loop-i.device c.loop-i.meta b c.loop-i.invariant.kept c.requires.runs

pub follow-requires-clause-used : goal.follow-requires-clause-used
follow-requires-clause-used g c =
    let b = bounds-of (g.D.Counts.shape c.args.device.now) (g.met.D.VirtualPages.numbers c.args.device.now c.requires.formed) in
    (c.loop-i.invariant.used.0, used-on g.D.Counts c.args.device.now c.args.meta.now c.loop-i.device c.loop-i.meta b c.loop-i.invariant.kept c.loop-i.at c.loop-i.invariant.used.0 c.loop-i.invariant.used.1)

pub returns-then-i-count-clause-answer : goal.returns-then-i-count-clause-answer
returns-then-i-count-clause-answer g c =
    let b = bounds-of (g.D.Counts.shape c.args.device.now) (g.met.D.VirtualPages.numbers c.args.device.now c.requires.formed) in
    let e = c.if-i-count.true in
    let n = c.len-count.ensures.count in
    missing-last g.D.Counts c.args.device.now c.args.meta.now c.args.path.now c.loop-i.i c.loop-i.at c.bytes.result.now (c.get.ensures ∙ ap Some (sym c.bytes.ensures)) c.loop-i.invariant.reached c.loop-i.invariant.refused (directory-back g.D.Counts c.args.device.now c.args.meta.now c.loop-i.device c.loop-i.meta b c.loop-i.invariant.kept c.loop-i.at c.bytes.result.now None (subst (StepsInto g.D.Counts c.loop-i.device c.loop-i.meta c.loop-i.at c.bytes.result.now) c.in-Ok-Missing.field-0-is c.in-Ok-Missing.ensures.answer)) (omega (arith, e, n))

pub returns-else-i-count-clause-answer : goal.returns-else-i-count-clause-answer
returns-else-i-count-clause-answer g c =
    let b = bounds-of (g.D.Counts.shape c.args.device.now) (g.met.D.VirtualPages.numbers c.args.device.now c.requires.formed) in
    let e = c.if-i-count.false in
    let n = c.len-count.ensures.count in
    let t = c.loop-i-test.true in
    missing-before g.D.Counts c.args.device.now c.args.meta.now c.args.path.now c.loop-i.i c.loop-i.at c.bytes.result.now (c.get.ensures ∙ ap Some (sym c.bytes.ensures)) c.loop-i.invariant.reached c.loop-i.invariant.refused (directory-back g.D.Counts c.args.device.now c.args.meta.now c.loop-i.device c.loop-i.meta b c.loop-i.invariant.kept c.loop-i.at c.bytes.result.now None (subst (StepsInto g.D.Counts c.loop-i.device c.loop-i.meta c.loop-i.at c.bytes.result.now) c.in-Ok-Missing.field-0-is c.in-Ok-Missing.ensures.answer)) (omega (arith, e, n, t))

pub returns-in-Ok-File-clause-answer : goal.returns-in-Ok-File-clause-answer
returns-in-Ok-File-clause-answer g c =
    let b = bounds-of (g.D.Counts.shape c.args.device.now) (g.met.D.VirtualPages.numbers c.args.device.now c.requires.formed) in
    let f = subst (StepsInto g.D.Counts c.loop-i.device c.loop-i.meta c.loop-i.at c.bytes.result.now) c.in-Ok-File.field-0-is c.in-Ok-File.ensures.answer in
    file-before g.D.Counts c.args.device.now c.args.meta.now c.args.path.now c.loop-i.i c.loop-i.at c.bytes.result.now (c.get.ensures ∙ ap Some (sym c.bytes.ensures)) c.loop-i.invariant.reached c.loop-i.invariant.refused f.0 (used-back g.D.Counts c.args.device.now c.args.meta.now c.loop-i.device c.loop-i.meta b c.loop-i.invariant.kept c.loop-i.at f.0 f.1) f.2

pub returns-then-i-count-clause-kept : goal.returns-then-i-count-clause-kept
returns-then-i-count-clause-kept g c =
    let b = bounds-of (g.D.Counts.shape c.args.device.now) (g.met.D.VirtualPages.numbers c.args.device.now c.requires.formed) in
    kept-then g.D.Counts c.args.device.now c.args.meta.now c.loop-i.device c.loop-i.meta b c.loop-i.invariant.kept c.follow.new.device c.follow.new.meta c.in-Ok-Missing.ensures.kept

pub returns-else-i-count-clause-kept : goal.returns-else-i-count-clause-kept
returns-else-i-count-clause-kept g c =
    let b = bounds-of (g.D.Counts.shape c.args.device.now) (g.met.D.VirtualPages.numbers c.args.device.now c.requires.formed) in
    kept-then g.D.Counts c.args.device.now c.args.meta.now c.loop-i.device c.loop-i.meta b c.loop-i.invariant.kept c.follow.new.device c.follow.new.meta c.in-Ok-Missing.ensures.kept

pub returns-in-Ok-File-clause-kept : goal.returns-in-Ok-File-clause-kept
returns-in-Ok-File-clause-kept g c =
    let b = bounds-of (g.D.Counts.shape c.args.device.now) (g.met.D.VirtualPages.numbers c.args.device.now c.requires.formed) in
    kept-then g.D.Counts c.args.device.now c.args.meta.now c.loop-i.device c.loop-i.meta b c.loop-i.invariant.kept c.follow.new.device c.follow.new.meta c.in-Ok-File.ensures.kept

pub returns-in-Err-Fault-clause-kept : goal.returns-in-Err-Fault-clause-kept
returns-in-Err-Fault-clause-kept g c =
    let b = bounds-of (g.D.Counts.shape c.args.device.now) (g.met.D.VirtualPages.numbers c.args.device.now c.requires.formed) in
    kept-then g.D.Counts c.args.device.now c.args.meta.now c.loop-i.device c.loop-i.meta b c.loop-i.invariant.kept c.follow.new.device c.follow.new.meta c.in-Err-Fault.ensures.kept

pub returns-in-Err-Lost-clause-kept : goal.returns-in-Err-Lost-clause-kept
returns-in-Err-Lost-clause-kept g c =
    let b = bounds-of (g.D.Counts.shape c.args.device.now) (g.met.D.VirtualPages.numbers c.args.device.now c.requires.formed) in
    kept-then g.D.Counts c.args.device.now c.args.meta.now c.loop-i.device c.loop-i.meta b c.loop-i.invariant.kept c.follow.new.device c.follow.new.meta c.in-Err-Lost.ensures.kept

pub loop-i-preserved : goal.loop-i-preserved
loop-i-preserved g c =
    let b = bounds-of (g.D.Counts.shape c.args.device.now) (g.met.D.VirtualPages.numbers c.args.device.now c.requires.formed) in
    let a = subst (StepsInto g.D.Counts c.loop-i.device c.loop-i.meta c.loop-i.at c.bytes.result.now) c.in-Ok-To.field-0-is c.in-Ok-To.ensures.answer in
    let d = directory-back g.D.Counts c.args.device.now c.args.meta.now c.loop-i.device c.loop-i.meta b c.loop-i.invariant.kept c.loop-i.at c.bytes.result.now (Some a.0) a.1 in
    let s = onwards g.D.Counts c.args.device.now c.args.meta.now c.args.path.now c.loop-i.i c.loop-i.at c.bytes.result.now (c.get.ensures ∙ ap Some (sym c.bytes.ensures)) c.loop-i.invariant.reached c.loop-i.invariant.refused a.0 d in
    record {
      formed = c.in-Ok-To.ensures.formed;
      kept = kept-then g.D.Counts c.args.device.now c.args.meta.now c.loop-i.device c.loop-i.meta b c.loop-i.invariant.kept c.follow.new.device c.follow.new.meta c.in-Ok-To.ensures.kept;
      faults = c.in-Ok-To.ensures.reads ∙ c.loop-i.invariant.faults;
      used = subst (IsUsedNode g.D.Counts c.args.device.now c.args.meta.now) a.2 (entry-used g.D.Counts c.args.device.now c.args.meta.now c.loop-i.at c.bytes.result.now c.requires.runs a.0 d);
      reached = s.0 ∙ ap (λ (n : ℕ). node_reached (graph g.D.Counts c.args.device.now c.args.meta.now) n (drop (c.loop-i.i + 1) c.args.path.now)) a.2;
      refused = s.1 ∙ ap (λ (n : ℕ). walk_refusal (graph g.D.Counts c.args.device.now c.args.meta.now) n (drop (c.loop-i.i + 1) c.args.path.now)) a.2;
    }

pub returns-clause-answer : goal.returns-clause-answer
unfolding node_reached
returns-clause-answer g c =
    let n = c.len-count.ensures.count in
    let t = c.loop-i-test.false in
    c.loop-i.invariant.reached ∙ ap (node_reached (graph g.D.Counts c.args.device.now c.args.meta.now) c.loop-i.at) (drop-all c.args.path.now c.loop-i.i (omega (arith, n, t)))
