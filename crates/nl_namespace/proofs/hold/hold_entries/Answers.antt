use Rattle.std.proofs.Common.{◌∙◌, inr, arith}
use Rattle.nl_meta.proofs.AddressProofs.{inode_spelled}
use Rattle.nl_dir.proofs.Records.{spelled-dir}
use Rattle.nl_meta_running.specs.Running.{running_on}
use Rattle.nl_namespace.proofs.Entries.{entries-held}
use Rattle.nl_meta_running.proofs.Holds.{bounds-of}
use Rattle.nl_meta_running.proofs.Kept.{kept-then, need-on, runs-then}
use Rattle.nl_namespace.proofs.Rows.{rows-more}
use Rattle.nl_meta_running.proofs.SameNeeded.{row-used}
use Rattle.nl_namespace.proofs.hold.hold_entries.Goals as goal

pub bounds-rec-row : goal.bounds-rec-row
bounds-rec-row g c =
    let d = c.requires.directory in
    let few = (spelled-dir c.args.rec.now d.2 (inode_spelled _ _ d.0 c.args.rec.now d.1)).few in
    let t = c.loop-row-test.true in
    let e = c.div_ceil-rows.ensures in
    omega (arith, few, t, e)

pub hold-requires-clause-runs : goal.hold-requires-clause-runs
hold-requires-clause-runs g c =
    let b = bounds-of (g.D.Counts.shape c.args.device.now) (g.met.D.VirtualPages.numbers c.args.device.now c.requires.formed) in
    runs-then g.D.Counts c.args.device.now c.args.meta.now c.loop-row.device c.loop-row.meta b c.loop-row.invariant.kept c.requires.runs

pub hold-requires-clause-needed : goal.hold-requires-clause-needed
hold-requires-clause-needed g c =
    let b = bounds-of (g.D.Counts.shape c.args.device.now) (g.met.D.VirtualPages.numbers c.args.device.now c.requires.formed) in
    let d = c.requires.directory in
    let t = c.loop-row-test.true in
    let e = c.div_ceil-rows.ensures in
    need-on g.D.Counts c.args.device.now c.args.meta.now c.loop-row.device c.loop-row.meta b c.loop-row.invariant.kept _
    (inr (row-used (g.D.Counts.shape c.args.device.now) (running_on g.D.Counts c.args.device.now c.args.meta.now) d.0 c.args.rec.now d.1 d.2 c.loop-row.row (omega (arith, t, e))))

pub returns-in-Err-clause-kept : goal.returns-in-Err-clause-kept
returns-in-Err-clause-kept g c =
    let b = bounds-of (g.D.Counts.shape c.args.device.now) (g.met.D.VirtualPages.numbers c.args.device.now c.requires.formed) in
    kept-then g.D.Counts c.args.device.now c.args.meta.now c.loop-row.device c.loop-row.meta b c.loop-row.invariant.kept c.hold.new.device c.hold.new.meta c.in-Err.ensures.kept

pub loop-row-preserved : goal.loop-row-preserved
loop-row-preserved g c =
    let b = bounds-of (g.D.Counts.shape c.args.device.now) (g.met.D.VirtualPages.numbers c.args.device.now c.requires.formed) in
    let ok = c.in-Ok.ensures in
    record {
      formed = ok.formed;
      kept = kept-then g.D.Counts c.args.device.now c.args.meta.now c.loop-row.device c.loop-row.meta b c.loop-row.invariant.kept c.hold.new.device c.hold.new.meta ok.kept;
      faults = ok.reads ∙ c.loop-row.invariant.faults;
      there = rows-more c.args.rec.now.addresses c.loop-row.row c.loop-row.meta c.hold.new.meta ok.there c.loop-row.invariant.there;
    }

pub returns-clause-there : goal.returns-clause-there
returns-clause-there g c =
    let b = bounds-of (g.D.Counts.shape c.args.device.now) (g.met.D.VirtualPages.numbers c.args.device.now c.requires.formed) in
    let d = c.requires.directory in
    let t = c.loop-row-test.false in
    let e = c.div_ceil-rows.ensures in
    entries-held g.D.Counts c.args.device.now c.args.meta.now c.loop-row.device c.loop-row.meta b c.loop-row.invariant.kept d.0 c.args.rec.now d.1 d.2 c.requires.runs
    (λ k h. c.loop-row.invariant.there k (omega (arith, t, e, h)))
