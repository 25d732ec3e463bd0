use Rattle.std.proofs.Common.{◌≡◌, ℕ, ◌+◌, ◌-◌, drop, length, refl, sym, ap, subst, ◌∙◌, Some, None, arith}
use Rattle.std.specs.Prelude.{slice_get}
use Rattle.nl_tree.specs.Represents.{node_reached}
use Rattle.nl_namespace.specs.Paths.{walk_refusal}
use Rattle.nl_namespace.specs.Stepping.{StepsInto}
use Rattle.nl_meta_running.specs.Running.{IsUsedNode}
use Rattle.nl_meta_running.proofs.Holds.{bounds-of, none-runs}
use Rattle.nl_namespace.proofs.Chains.{node-before, then-on, then-reads, then-runs, then-used}
use Rattle.nl_namespace.proofs.Entries.{directory-back}
use Rattle.nl_namespace.proofs.Graphs.{entry-is, entry-used, graph, root-used}
use Rattle.nl_namespace.proofs.Parents.{drop-last, led-on, name-in, not-empty, reached-on, some-name}
use Rattle.nl_namespace.proofs.Walks.{file-before, missing-before, onwards}
use Rattle.nl_namespace.proofs.place.walk_to_parent.Goals as goal

pub loop-i-init : goal.loop-i-init
unfolding node_reached
loop-i-init g c =
    let b = bounds-of (g.D.Counts.shape c.args.device.now) (g.met.D.VirtualPages.numbers c.args.device.now c.requires.formed) in
    record {
      formed = c.requires.formed;
      kept = none-runs g.D.Counts c.args.device.now c.args.meta.now c.requires.runs;
      faults = refl;
      used = root-used g.D.Counts c.args.device.now c.args.meta.now b c.requires.runs;
      led = refl;
      refused = refl;
    }

pub follow-requires-clause-runs : goal.follow-requires-clause-runs
follow-requires-clause-runs g c =
    then-runs g.D.Counts c.args.device.now c.args.meta.now c.loop-i.device c.loop-i.meta (g.met.D.VirtualPages.numbers c.args.device.now c.requires.formed) c.loop-i.invariant.kept c.requires.runs

pub follow-requires-clause-used : goal.follow-requires-clause-used
follow-requires-clause-used g c =
    then-used g.D.Counts c.args.device.now c.args.meta.now c.loop-i.device c.loop-i.meta (g.met.D.VirtualPages.numbers c.args.device.now c.requires.formed) c.loop-i.invariant.kept c.loop-i.at c.loop-i.invariant.used

pub returns-in-Ok-Missing-clause-parent : goal.returns-in-Ok-Missing-clause-parent
returns-in-Ok-Missing-clause-parent g c =
    let b = bounds-of (g.D.Counts.shape c.args.device.now) (g.met.D.VirtualPages.numbers c.args.device.now c.requires.formed) in
    let n = c.len-i-end.ensures.count in
    let t = c.loop-i-test.true in
    missing-before g.D.Counts c.args.device.now c.args.meta.now c.args.path.now c.loop-i.i c.loop-i.at c.bytes.result.now (c.get.ensures ∙ ap Some (sym c.bytes.ensures)) (reached-on (graph g.D.Counts c.args.device.now c.args.meta.now) c.args.path.now c.loop-i.i c.loop-i.at c.loop-i.invariant.led) c.loop-i.invariant.refused (directory-back g.D.Counts c.args.device.now c.args.meta.now c.loop-i.device c.loop-i.meta b c.loop-i.invariant.kept c.loop-i.at c.bytes.result.now None (subst (StepsInto g.D.Counts c.loop-i.device c.loop-i.meta c.loop-i.at c.bytes.result.now) c.in-Ok-Missing.field-0-is c.in-Ok-Missing.ensures.answer)) (omega (arith, n, t))

pub returns-in-Ok-File-clause-parent : goal.returns-in-Ok-File-clause-parent
returns-in-Ok-File-clause-parent g c =
    let f = subst (StepsInto g.D.Counts c.loop-i.device c.loop-i.meta c.loop-i.at c.bytes.result.now) c.in-Ok-File.field-0-is c.in-Ok-File.ensures.answer in
    file-before g.D.Counts c.args.device.now c.args.meta.now c.args.path.now c.loop-i.i c.loop-i.at c.bytes.result.now (c.get.ensures ∙ ap Some (sym c.bytes.ensures)) (reached-on (graph g.D.Counts c.args.device.now c.args.meta.now) c.args.path.now c.loop-i.i c.loop-i.at c.loop-i.invariant.led) c.loop-i.invariant.refused f.0 (node-before g.D.Counts c.args.device.now c.args.meta.now c.loop-i.device c.loop-i.meta (g.met.D.VirtualPages.numbers c.args.device.now c.requires.formed) c.loop-i.invariant.kept c.loop-i.at f.0 f.1) f.2

pub returns-in-Ok-Missing-clause-kept : goal.returns-in-Ok-Missing-clause-kept
returns-in-Ok-Missing-clause-kept g c =
    then-on g.D.Counts c.args.device.now c.args.meta.now c.loop-i.device c.loop-i.meta (g.met.D.VirtualPages.numbers c.args.device.now c.requires.formed) c.loop-i.invariant.kept c.follow.new.device c.follow.new.meta c.in-Ok-Missing.ensures.kept

pub returns-in-Ok-File-clause-kept : goal.returns-in-Ok-File-clause-kept
returns-in-Ok-File-clause-kept g c =
    then-on g.D.Counts c.args.device.now c.args.meta.now c.loop-i.device c.loop-i.meta (g.met.D.VirtualPages.numbers c.args.device.now c.requires.formed) c.loop-i.invariant.kept c.follow.new.device c.follow.new.meta c.in-Ok-File.ensures.kept

pub returns-in-Err-clause-kept : goal.returns-in-Err-clause-kept
returns-in-Err-clause-kept g c =
    then-on g.D.Counts c.args.device.now c.args.meta.now c.loop-i.device c.loop-i.meta (g.met.D.VirtualPages.numbers c.args.device.now c.requires.formed) c.loop-i.invariant.kept c.follow.new.device c.follow.new.meta c.in-Err.ensures.kept

pub returns-in-Err-clause-reads : goal.returns-in-Err-clause-reads
returns-in-Err-clause-reads g c =
    then-reads g.D.Counts c.args.device.now c.args.meta.now c.loop-i.device c.loop-i.meta (g.met.D.VirtualPages.numbers c.args.device.now c.requires.formed) c.loop-i.invariant.kept c.follow.new.device (Some c.in-Err.stop) c.loop-i.invariant.faults c.in-Err.ensures.reads

pub loop-i-preserved : goal.loop-i-preserved
loop-i-preserved g c =
    let b = bounds-of (g.D.Counts.shape c.args.device.now) (g.met.D.VirtualPages.numbers c.args.device.now c.requires.formed) in
    let a = subst (StepsInto g.D.Counts c.loop-i.device c.loop-i.meta c.loop-i.at c.bytes.result.now) c.in-Ok-To.field-0-is c.in-Ok-To.ensures.answer in
    let d = directory-back g.D.Counts c.args.device.now c.args.meta.now c.loop-i.device c.loop-i.meta b c.loop-i.invariant.kept c.loop-i.at c.bytes.result.now (Some a.0) a.1 in
    let name = c.get.ensures ∙ ap Some (sym c.bytes.ensures) in
    let s = onwards g.D.Counts c.args.device.now c.args.meta.now c.args.path.now c.loop-i.i c.loop-i.at c.bytes.result.now name (reached-on (graph g.D.Counts c.args.device.now c.args.meta.now) c.args.path.now c.loop-i.i c.loop-i.at c.loop-i.invariant.led) c.loop-i.invariant.refused a.0 d in
    record {
      formed = c.in-Ok-To.ensures.formed;
      kept = then-on g.D.Counts c.args.device.now c.args.meta.now c.loop-i.device c.loop-i.meta (g.met.D.VirtualPages.numbers c.args.device.now c.requires.formed) c.loop-i.invariant.kept c.follow.new.device c.follow.new.meta c.in-Ok-To.ensures.kept;
      faults = c.in-Ok-To.ensures.reads ∙ c.loop-i.invariant.faults;
      used = subst (IsUsedNode g.D.Counts c.args.device.now c.args.meta.now) a.2 (entry-used g.D.Counts c.args.device.now c.args.meta.now c.loop-i.at c.bytes.result.now c.requires.runs a.0 d);
      led = led-on (graph g.D.Counts c.args.device.now c.args.meta.now) c.args.path.now c.loop-i.i c.loop-i.at c.loop-i.invariant.led c.bytes.result.now c.in-Ok-To.ino name
          (entry-is g.D.Counts c.args.device.now c.args.meta.now c.loop-i.at c.bytes.result.now (Some a.0) d ∙ ap (λ (n : ℕ). Some n) a.2);
      refused = s.1 ∙ ap (λ (n : ℕ). walk_refusal (graph g.D.Counts c.args.device.now c.args.meta.now) n (drop (c.loop-i.i + 1) c.args.path.now)) a.2;
    }

pub returns-clause-parent : goal.returns-clause-parent
returns-clause-parent g c =
    let n = c.len-i-end.ensures.count in
    let t = c.loop-i-test.false in
    let w = c.loop-i.auto.i-end in
    let h = not-empty c.args.path.now c.requires.not_root in
    let e : c.loop-i.i ≡ length c.args.path.now - 1 = omega (arith, n, t, w, h) in
    let s = some-name c.args.path.now (length c.args.path.now - 1) (omega (arith, h)) in
    record {
      name = s.0;
      last = s.1;
      named = name-in (graph g.D.Counts c.args.device.now c.args.meta.now) c.args.path.now c.loop-i.i c.loop-i.at c.loop-i.invariant.led s.0 (ap (slice_get c.args.path.now) e ∙ s.1) (omega (arith, e, h));
      walked = c.loop-i.invariant.refused ∙ ap (walk_refusal (graph g.D.Counts c.args.device.now c.args.meta.now) c.loop-i.at) (drop-last c.args.path.now c.loop-i.i s.0 (ap (slice_get c.args.path.now) e ∙ s.1) (omega (arith, e, h)));
      used = c.loop-i.invariant.used;
    }
