use Rattle.std.proofs.Common.{List, subst}
use Rattle.nl_dir.proofs.Records.{spelled-dir}
use Rattle.nl_field.specs.declared.entry.EntryRec.{EntryRec}
use Rattle.nl_meta.proofs.AddressProofs.{inode_spelled}
use Rattle.nl_meta_running.specs.Running.{running_on}
use Rattle.nl_meta_running.proofs.Holds.{bounds-of}
use Rattle.nl_meta_running.proofs.Kept.{kept-then, runs-then, used-on}
use Rattle.nl_volume_list.specs.Entries.{IsLeastOf}
use Rattle.nl_volume_list.proofs.Directories.{held-before, least-of, no-entries}
use Rattle.nl_volume_list.proofs.entries.least_behind.Goals as goal

pub returns-in_default : goal.returns-in_default
returns-in_default g c = record {
  formed = c.in_ok-rec.ensures.formed;
  least = no-entries (g.D.Counts.shape c.args.device.now) (running_on g.D.Counts c.args.device.now c.args.meta.now) c.requires.runs.entries c.requires.runs.nodes c.args.ino c.in_ok-rec.rec c.in_ok-rec.ensures.node c.in_default.not-Dir c.args.after.now;
  kept = c.in_ok-rec.ensures.kept;
  reads = c.in_ok-rec.ensures.reads;
}

pub hold_entries-requires-clause-runs : goal.hold_entries-requires-clause-runs
hold_entries-requires-clause-runs g c =
    let b = bounds-of (g.D.Counts.shape c.args.device.now) (g.met.D.VirtualPages.numbers c.args.device.now c.requires.formed) in
    runs-then g.D.Counts c.args.device.now c.args.meta.now c.node.new.device c.node.new.meta b c.in_ok-rec.ensures.kept c.requires.runs

pub hold_entries-requires-clause-directory : goal.hold_entries-requires-clause-directory
hold_entries-requires-clause-directory g c =
    let b = bounds-of (g.D.Counts.shape c.args.device.now) (g.met.D.VirtualPages.numbers c.args.device.now c.requires.formed) in (
      c.args.ino,
      used-on g.D.Counts c.args.device.now c.args.meta.now c.node.new.device c.node.new.meta b c.in_ok-rec.ensures.kept c.args.ino c.in_ok-rec.rec c.in_ok-rec.ensures.node,
      c.in-Dir.is,
    )

pub returns-in_err-hold_entries-clause-kept : goal.returns-in_err-hold_entries-clause-kept
returns-in_err-hold_entries-clause-kept g c =
    let b = bounds-of (g.D.Counts.shape c.args.device.now) (g.met.D.VirtualPages.numbers c.args.device.now c.requires.formed) in
    kept-then g.D.Counts c.args.device.now c.args.meta.now c.node.new.device c.node.new.meta b c.in_ok-rec.ensures.kept c.hold_entries.new.device c.hold_entries.new.meta c.in_err-hold_entries.ensures.kept

pub least_entry-requires-clause-few : goal.least_entry-requires-clause-few
least_entry-requires-clause-few g c = (spelled-dir c.in_ok-rec.rec c.in-Dir.is (inode_spelled _ _ c.args.ino c.in_ok-rec.rec c.in_ok-rec.ensures.node)).few

pub returns-clause-least : goal.returns-clause-least
returns-clause-least g c =
    let b = bounds-of (g.D.Counts.shape c.args.device.now) (g.met.D.VirtualPages.numbers c.args.device.now c.requires.formed) in
    let is = c.in_ok-rec.ensures.node in
    let has = held-before g.D.Counts c.args.device.now c.args.meta.now c.node.new.device c.node.new.meta b c.in_ok-rec.ensures.kept c.args.ino c.in_ok-rec.rec is c.in-Dir.is c.hold_entries.new.meta c.in_ok-hold_entries.ensures.there in
    least-of (g.D.Counts.shape c.args.device.now) (running_on g.D.Counts c.args.device.now c.args.meta.now) c.requires.runs.entries c.requires.runs.nodes c.args.ino c.in_ok-rec.rec is c.in-Dir.is c.args.after.now c.least_entry.result
    (subst (λ (es : List EntryRec). IsLeastOf es c.args.after.now c.least_entry.result) has.entries c.least_entry.ensures)

pub returns-clause-kept : goal.returns-clause-kept
returns-clause-kept g c =
    let b = bounds-of (g.D.Counts.shape c.args.device.now) (g.met.D.VirtualPages.numbers c.args.device.now c.requires.formed) in
    kept-then g.D.Counts c.args.device.now c.args.meta.now c.node.new.device c.node.new.meta b c.in_ok-rec.ensures.kept c.hold_entries.new.device c.hold_entries.new.meta c.in_ok-hold_entries.ensures.kept
