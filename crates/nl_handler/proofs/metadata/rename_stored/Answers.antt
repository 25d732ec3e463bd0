use Rattle.std.proofs.Common.{ℕ, ◌∙◌, sym, subst}
use Rattle.std.specs.Prelude.{IsTrue}
use Rattle.nl_field.specs.Spelling.{is_stamp}
use Rattle.nl_field.specs.declared.inode.InodeRec.{InodeRec}
use Rattle.nl_field.specs.declared.pointer.Tag.{Tag}
use Rattle.nl_iface.specs.declared.counts.Counts.{Ghosts}
use Rattle.nl_meta.specs.Pages.{Pages, has_room}
use Rattle.nl_meta_running.specs.Running.{RunningIsRight, running_on}
use Rattle.nl_meta_running.proofs.Holds.{bounds-of}
use Rattle.nl_meta_running.proofs.Kept.{runs-then}
use Rattle.nl_handler.specs.Changing.{TaggedPointerIsResident}
use Rattle.nl_handler.specs.Handling.{HasTagged, HoldsTagged, page_holding}
use Rattle.nl_handler.proofs.Found.{if-some}
use Rattle.nl_handler.proofs.Physical.{called-physical}
use Rattle.nl_handler.proofs.RenamedOn.{renames-on, runs-on}
use Rattle.nl_handler.proofs.metadata.rename_stored.Goals as goal

-- what is known of the record that is found
abbrev Known : {D : Type 0} → Ghosts D → D → Pages → Pages → Tag → ℕ → InodeRec → Type 0
Known g s p q tag stamp rec = HasTagged (g.shape s) (running_on g s p) tag stamp rec × TaggedPointerIsResident q tag rec × IsTrue (is_stamp stamp)

pub returns-then-rename-clause-runs : goal.returns-then-rename-clause-runs
returns-then-rename-clause-runs g c =
    let s = c.args.device.now in
    let of = c.args.callback.now in
    let known = if-some (HoldsTagged (g.D.Counts.shape s) (running_on g.D.Counts s c.args.meta.now) of.tag of.stamp → ⊥) (Known g.D.Counts s c.args.meta.now c.find.new.meta of.tag of.stamp) c.in-Ok-Some.field-0 c.in-Ok-Some.rec c.in-Ok-Some.field-0-is c.in-Ok-Some.ensures.found in
    let physical = called-physical g.D.Counts s (g.met.D.NamedPages.state s c.requires.formed) (g.met.D.NamedPages.tables s c.requires.formed) of c.requires.pending c.args.to of.stamp c.requires.to in
    runs-on g.D.Counts s c.args.meta.now (bounds-of (g.D.Counts.shape s) (g.met.D.VirtualPages.numbers s c.requires.formed)) c.requires.runs c.find.new.device c.find.new.meta c.in-Ok-Some.ensures.kept of.tag (record { name = c.args.to; stamp = of.stamp }) c.in-Ok-Some.rec
    known.0 known.1 known.2 physical c.rename.new.meta (c.rename.ensures.done c.if-rename.true)

pub returns-then-rename-clause-stored : goal.returns-then-rename-clause-stored
returns-then-rename-clause-stored g c =
    let s = c.args.device.now in
    let of = c.args.callback.now in
    let known = if-some (HoldsTagged (g.D.Counts.shape s) (running_on g.D.Counts s c.args.meta.now) of.tag of.stamp → ⊥) (Known g.D.Counts s c.args.meta.now c.find.new.meta of.tag of.stamp) c.in-Ok-Some.field-0 c.in-Ok-Some.rec c.in-Ok-Some.field-0-is c.in-Ok-Some.ensures.found in
    let physical = called-physical g.D.Counts s (g.met.D.NamedPages.state s c.requires.formed) (g.met.D.NamedPages.tables s c.requires.formed) of c.requires.pending c.args.to of.stamp c.requires.to in
    renames-on g.D.Counts s c.args.meta.now (bounds-of (g.D.Counts.shape s) (g.met.D.VirtualPages.numbers s c.requires.formed)) c.requires.runs c.find.new.device c.find.new.meta c.in-Ok-Some.ensures.kept of.tag (record { name = c.args.to; stamp = of.stamp }) c.in-Ok-Some.rec
    known.0 known.1 known.2 physical c.rename.new.meta (c.rename.ensures.done c.if-rename.true)
    (sym {b = has_room c.find.new.meta (page_holding c.args.callback.now.tag c.in-Ok-Some.rec)} c.rename.ensures.room ∙ c.if-rename.true)

pub returns-else-rename-clause-runs : goal.returns-else-rename-clause-runs
returns-else-rename-clause-runs g c =
    let s = c.args.device.now in
    subst (λ (r : Pages). RunningIsRight g.D.Counts c.find.new.device r) (sym (c.rename.ensures.refused c.if-rename.false))
    (runs-then g.D.Counts s c.args.meta.now c.find.new.device c.find.new.meta (bounds-of (g.D.Counts.shape s) (g.met.D.VirtualPages.numbers s c.requires.formed)) c.in-Ok-Some.ensures.kept c.requires.runs)

pub returns-in-Ok-None-clause-runs : goal.returns-in-Ok-None-clause-runs
returns-in-Ok-None-clause-runs g c =
    let s = c.args.device.now in
    runs-then g.D.Counts s c.args.meta.now c.find.new.device c.find.new.meta (bounds-of (g.D.Counts.shape s) (g.met.D.VirtualPages.numbers s c.requires.formed)) c.in-Ok-None.ensures.kept c.requires.runs

pub returns-in-Err-Fault-clause-runs : goal.returns-in-Err-Fault-clause-runs
returns-in-Err-Fault-clause-runs g c =
    let s = c.args.device.now in
    runs-then g.D.Counts s c.args.meta.now c.find.new.device c.find.new.meta (bounds-of (g.D.Counts.shape s) (g.met.D.VirtualPages.numbers s c.requires.formed)) c.in-Err-Fault.ensures.kept c.requires.runs

pub returns-in-Err-Lost-clause-runs : goal.returns-in-Err-Lost-clause-runs
returns-in-Err-Lost-clause-runs g c =
    let s = c.args.device.now in
    runs-then g.D.Counts s c.args.meta.now c.find.new.device c.find.new.meta (bounds-of (g.D.Counts.shape s) (g.met.D.VirtualPages.numbers s c.requires.formed)) c.in-Err-Lost.ensures.kept c.requires.runs
