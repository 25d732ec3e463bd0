use Rattle.std.proofs.Common.{◌∙◌, IsSome, Some, ap, is_some}
use Rattle.nl_field.specs.declared.inode.InodeRec.{InodeRec}
use Rattle.nl_field.specs.declared.pointer.Tag.{Tag}
use Rattle.nl_iface.specs.declared.counts.Counts.{Ghosts}
use Rattle.nl_inode.specs.Nodes.{page_of_node}
use Rattle.nl_meta.specs.Pages.{Pages, page_of}
use Rattle.nl_meta_running.specs.Running.{PreservesRunning, running_on}
use Rattle.nl_meta_running.proofs.Holds.{bounds-of}
use Rattle.nl_meta_running.proofs.Kept.{kept-then, runs-then}
use Rattle.nl_handler.specs.Handling.{TagsFile}
use Rattle.nl_handler.proofs.Finding.{at-hand, file-on, has-tagged, none-tagged, stamp-spelled}
use Rattle.nl_handler.proofs.Found.{if-some}
use Rattle.nl_handler.proofs.Reading.{reads-over}
use Rattle.nl_handler.proofs.metadata.find.Goals as goal

-- no file has the tag
abbrev NoFile : {D : Type 0} → Ghosts D → D → Pages → Tag → Type 0
NoFile g s p tag = (rec : InodeRec) → TagsFile (g.shape s) (running_on g s p) tag rec → ⊥

pub hold_range-requires-clause-runs : goal.hold_range-requires-clause-runs
hold_range-requires-clause-runs g c =
    let s = c.args.device.now in
    runs-then g.D.Counts s c.args.meta.now c.file_at.new.device c.file_at.new.meta (bounds-of (g.D.Counts.shape s) (g.met.D.VirtualPages.numbers s c.requires.formed)) c.in-Ok-Some.ensures.kept c.requires.runs

pub hold_range-requires-clause-file : goal.hold_range-requires-clause-file
hold_range-requires-clause-file g c =
    let s = c.args.device.now in
    let file = if-some (NoFile g.D.Counts s c.args.meta.now c.args.tag.now) (TagsFile (g.D.Counts.shape s) (running_on g.D.Counts s c.args.meta.now) c.args.tag.now) c.in-Ok-Some.field-0 c.in-Ok-Some.rec c.in-Ok-Some.field-0-is c.in-Ok-Some.ensures.file in
    file-on g.D.Counts s c.args.meta.now (bounds-of (g.D.Counts.shape s) (g.met.D.VirtualPages.numbers s c.requires.formed)) c.requires.runs c.args.tag.now c.in-Ok-Some.rec file
    c.file_at.new.device c.file_at.new.meta c.in-Ok-Some.ensures.kept

pub returns-in-Err-hold_range-clause-kept : goal.returns-in-Err-hold_range-clause-kept
returns-in-Err-hold_range-clause-kept g c =
    let s = c.args.device.now in
    kept-then g.D.Counts s c.args.meta.now c.file_at.new.device c.file_at.new.meta (bounds-of (g.D.Counts.shape s) (g.met.D.VirtualPages.numbers s c.requires.formed)) c.in-Ok-Some.ensures.kept c.hold_range.new.device c.hold_range.new.meta c.in-Err-hold_range.ensures.kept

pub returns-in-Err-hold_range-clause-reads : goal.returns-in-Err-hold_range-clause-reads
returns-in-Err-hold_range-clause-reads g c =
    let on : PreservesRunning g.D.Counts c.args.device.now c.args.meta.now c.file_at.new.device c.file_at.new.meta = c.in-Ok-Some.ensures.kept in
    reads-over g.D.Counts c.args.device.now c.file_at.new.device c.hold_range.new.device on.reads c.in-Ok-Some.ensures.reads (Some c.in-Err-hold_range.stop) c.in-Err-hold_range.ensures.reads

pub returns-then-has_stamp-clause-kept : goal.returns-then-has_stamp-clause-kept
returns-then-has_stamp-clause-kept g c =
    let s = c.args.device.now in
    kept-then g.D.Counts s c.args.meta.now c.file_at.new.device c.file_at.new.meta (bounds-of (g.D.Counts.shape s) (g.met.D.VirtualPages.numbers s c.requires.formed)) c.in-Ok-Some.ensures.kept c.hold_range.new.device c.hold_range.new.meta c.in-Ok.ensures.kept

pub returns-else-has_stamp-clause-kept : goal.returns-else-has_stamp-clause-kept
returns-else-has_stamp-clause-kept g c =
    let s = c.args.device.now in
    kept-then g.D.Counts s c.args.meta.now c.file_at.new.device c.file_at.new.meta (bounds-of (g.D.Counts.shape s) (g.met.D.VirtualPages.numbers s c.requires.formed)) c.in-Ok-Some.ensures.kept c.hold_range.new.device c.hold_range.new.meta c.in-Ok.ensures.kept

pub returns-then-has_stamp-clause-found : goal.returns-then-has_stamp-clause-found
returns-then-has_stamp-clause-found g c =
    let s = c.args.device.now in
    let b = bounds-of (g.D.Counts.shape s) (g.met.D.VirtualPages.numbers s c.requires.formed) in
    let file = if-some (NoFile g.D.Counts s c.args.meta.now c.args.tag.now) (TagsFile (g.D.Counts.shape s) (running_on g.D.Counts s c.args.meta.now) c.args.tag.now) c.in-Ok-Some.field-0 c.in-Ok-Some.rec c.in-Ok-Some.field-0-is c.in-Ok-Some.ensures.file in
    let second : PreservesRunning g.D.Counts c.file_at.new.device c.file_at.new.meta c.hold_range.new.device c.hold_range.new.meta = c.in-Ok.ensures.kept in
    let on = kept-then g.D.Counts s c.args.meta.now c.file_at.new.device c.file_at.new.meta b c.in-Ok-Some.ensures.kept c.hold_range.new.device c.hold_range.new.meta second in
    let node : IsSome (page_of c.hold_range.new.meta (page_of_node c.args.tag.now.ino)) =
    ap is_some (second.stays (page_of_node c.args.tag.now.ino) c.in-Ok-Some.ensures.there) ∙ c.in-Ok-Some.ensures.there in (
      has-tagged g.D.Counts s c.args.meta.now b c.requires.runs c.args.tag.now c.in-Ok-Some.rec file c.hold_range.new.device c.hold_range.new.meta on c.args.stamp c.has_stamp.result c.has_stamp.ensures c.if-has_stamp.true,
      at-hand g.D.Counts s c.args.meta.now b c.requires.runs c.args.tag.now c.in-Ok-Some.rec file c.hold_range.new.device c.hold_range.new.meta on c.args.stamp c.has_stamp.result c.has_stamp.ensures c.if-has_stamp.true node c.in-Ok.ensures.there,
      stamp-spelled g.D.Counts s c.args.meta.now b c.requires.runs c.args.tag.now c.in-Ok-Some.rec file c.hold_range.new.device c.hold_range.new.meta on c.args.stamp c.has_stamp.result c.has_stamp.ensures c.if-has_stamp.true node c.in-Ok.ensures.there,
    )

pub returns-else-has_stamp-clause-found : goal.returns-else-has_stamp-clause-found
returns-else-has_stamp-clause-found g c =
    let s = c.args.device.now in
    let b = bounds-of (g.D.Counts.shape s) (g.met.D.VirtualPages.numbers s c.requires.formed) in
    let file = if-some (NoFile g.D.Counts s c.args.meta.now c.args.tag.now) (TagsFile (g.D.Counts.shape s) (running_on g.D.Counts s c.args.meta.now) c.args.tag.now) c.in-Ok-Some.field-0 c.in-Ok-Some.rec c.in-Ok-Some.field-0-is c.in-Ok-Some.ensures.file in
    let on = kept-then g.D.Counts s c.args.meta.now c.file_at.new.device c.file_at.new.meta b c.in-Ok-Some.ensures.kept c.hold_range.new.device c.hold_range.new.meta c.in-Ok.ensures.kept in
    none-tagged g.D.Counts s c.args.meta.now b c.requires.runs c.args.tag.now c.in-Ok-Some.rec file c.hold_range.new.device c.hold_range.new.meta on c.args.stamp c.has_stamp.result c.has_stamp.ensures c.if-has_stamp.false
