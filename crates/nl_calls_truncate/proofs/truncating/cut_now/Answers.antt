use Rattle.std.proofs.Common.{◌≤◌, ◌+◌, ◌/◌, ◌∙◌, ℕ, List, length, is_some, sym, ap, subst, Some}
use Rattle.std.proofs.lemmas.Result.{IfOk-weaker, err_from_is_err_and}
use Rattle.nl_inode.specs.Nodes.{page_of_node}
use Rattle.nl_meta.specs.Pages.{besides_0, most}
use Rattle.nl_meta_running.specs.Reading.{stop_of}
use Rattle.nl_calls_steps.specs.Truncating.{CutsFileTo}
use Rattle.nl_calls_steps.proofs.Early.{early-then}
use Rattle.nl_calls_steps.proofs.Going.{files_on}
use Rattle.nl_calls_steps.proofs.LeavesTree.{reads_go}
use Rattle.nl_calls_steps.proofs.OnlyReads.{file-on}
use Rattle.nl_calls_steps.proofs.ReadCores.{reads-then}
use Rattle.nl_calls_truncate.specs.Truncating.{IsCutInTree, IsUncut}
use Rattle.nl_calls_truncate.proofs.CutReads.{cut_then, err_weaker, partial_read, room_for, uncut_read, uncut_then}
use Rattle.nl_core.proofs.LastCommits.{commit_then}
use Rattle.nl_calls_steps.proofs.LastCommitOn.{reads_commit}
use Rattle.nl_calls_truncate.proofs.truncating.cut_now.Goals as goal

pub open_file-requires-clause-file : goal.open_file-requires-clause-file
open_file-requires-clause-file g c = (c.requires.ready.rec, c.requires.ready.file)

pub returns-in_err-rec-clause-uncut : goal.returns-in_err-rec-clause-uncut
returns-in_err-rec-clause-uncut g c =
    let G = g.D.Counts in
    let u = c.args.core.now in
    let v = c.open_file.new.core in
    let e = c.open_file.ensures in
    let p = err_from_is_err_and c.from_residual.result c.from_residual.ensures.1 in
    rw p.1 (uncut_read G u v c.requires.core e.core e.volume e.stores e.same c.args.worker c.args.ino c.args.size)

pub returns-in_err-hold_end-clause-uncut : goal.returns-in_err-hold_end-clause-uncut
returns-in_err-hold_end-clause-uncut g c =
    let G = g.D.Counts in
    let u = c.args.core.now in
    let v = c.open_file.new.core in
    let w = c.hold_end.new.core in
    let e = c.open_file.ensures in
    let h = c.hold_end.ensures in
    let p = err_from_is_err_and c.from_residual-in_err-hold_end.result c.from_residual-in_err-hold_end.ensures.1 in
    rw p.1 (uncut_read G u w c.requires.core h.core e.volume h.stores (reads-then G u v e.volume e.same w h.same) c.args.worker c.args.ino c.args.size)

pub returns-in_err-hold_end-clause-early : goal.returns-in_err-hold_end-clause-early
returns-in_err-hold_end-clause-early g c =
    let G = g.D.Counts in
    let p = err_from_is_err_and c.from_residual-in_err-hold_end.result c.from_residual-in_err-hold_end.ensures.1 in
    rw (p.1, p.2) (early-then G c.args.core.now c.open_file.new.core c.hold_end.new.core (Some c.in_err-hold_end.field-0.0) c.open_file.ensures.same c.in_err-hold_end.ensures.early)

pub cut_held-requires-clause-hand : goal.cut_held-requires-clause-hand
cut_held-requires-clause-hand g c =
    let G = g.D.Counts in
    let u = c.args.core.now in
    let v = c.open_file.new.core in
    let w = c.hold_end.new.core in
    let e = c.open_file.ensures in
    let h = c.hold_end.ensures in
    let opened = c.in_ok-rec.ensures.opened in
    record {
      file = file-on G u w e.volume (reads-then G u v e.volume e.same w h.same) c.args.ino c.in_ok-rec.rec opened.before;
      there = ap is_some (h.same.runs.stays (page_of_node c.args.ino) opened.there) ∙ opened.there;
      range = c.in_ok-hold_end.ensures.range;
    }

pub cut_held-requires-clause-partial : goal.cut_held-requires-clause-partial
cut_held-requires-clause-partial g c =
    let G = g.D.Counts in
    let u = c.args.core.now in
    let v = c.open_file.new.core in
    let w = c.hold_end.new.core in
    let e = c.open_file.ensures in
    let h = c.hold_end.ensures in
    let both = reads-then G u v e.volume e.same w h.same in
    let rec = c.in_ok-rec.rec in
    partial_read G u w c.requires.core h.core e.volume h.stores both c.args.worker c.args.ino c.args.size c.requires.ready rec (file-on G u w e.volume both c.args.ino rec c.in_ok-rec.ensures.opened.before)

pub cut_held-requires-clause-room : goal.cut_held-requires-clause-room
cut_held-requires-clause-room g c =
    let G = g.D.Counts in
    let u = c.args.core.now in
    let v = c.open_file.new.core in
    let w = c.hold_end.new.core in
    let e = c.open_file.ensures in
    let both = reads-then G u v e.volume e.same w c.hold_end.ensures.same in
    room_for w.meta c.in_ok-rec.rec c.args.ino (c.args.size / 4096) (subst (λ (xs : List ℕ). length (besides_0 xs) + 4 ≤ most) (sym both.runs.dirty) c.requires.room)

pub cut_held-requires-clause-files : goal.cut_held-requires-clause-files
cut_held-requires-clause-files g c =
    let G = g.D.Counts in
    let u = c.args.core.now in
    let v = c.open_file.new.core in
    let w = c.hold_end.new.core in
    let e = c.open_file.ensures in
    let h = c.hold_end.ensures in
    files_on G 0 u w (reads_go G u w c.requires.core e.volume h.core.formed h.stores (reads-then G u v e.volume e.same w h.same)) c.args.files c.requires.files

pub returns-clause-cut : goal.returns-clause-cut
returns-clause-cut g c =
    let G = g.D.Counts in
    let u = c.args.core.now in
    let v = c.open_file.new.core in
    let w = c.hold_end.new.core in
    let x = c.cut_held.new.core in
    let e = c.open_file.ensures in
    let h = c.hold_end.ensures in
    let was = c.in_ok-rec.rec in
    let is = c.cut_held.new.rec in
    IfOk-weaker c.cut_held.result (λ files. CutsFileTo G c.args.worker c.args.ino c.args.size was is w x) (λ files. IsCutInTree G c.args.worker c.args.ino c.args.size u x)
    (λ files cut. cut_then G u w c.requires.core h.core e.volume h.stores (reads-then G u v e.volume e.same w h.same) c.args.worker c.args.ino c.args.size x c.requires.ready was is cut)
    c.cut_held.ensures.cut

pub returns-clause-uncut : goal.returns-clause-uncut
returns-clause-uncut g c =
    let G = g.D.Counts in
    let u = c.args.core.now in
    let v = c.open_file.new.core in
    let w = c.hold_end.new.core in
    let x = c.cut_held.new.core in
    let e = c.open_file.ensures in
    let h = c.hold_end.ensures in
    err_weaker c.cut_held.result (IsUncut G w x) (IsUncut G u x)
    (uncut_then G u w c.requires.core h.core e.volume h.stores (reads-then G u v e.volume e.same w h.same) c.args.worker c.args.ino c.args.size x) c.cut_held.ensures.uncut

pub returns-clause-early : goal.returns-clause-early
returns-clause-early g c =
    let G = g.D.Counts in
    let u = c.args.core.now in
    let w = c.hold_end.new.core in
    let e = c.open_file.ensures in
    early-then G u w c.cut_held.new.core (stop_of c.cut_held.result) (reads-then G u c.open_file.new.core e.volume e.same w c.hold_end.ensures.same) c.cut_held.ensures.early

-- ---- nothing is committed

pub returns-in_err-rec-clause-commit : goal.returns-in_err-rec-clause-commit
returns-in_err-rec-clause-commit g c = reads_commit g.D.Counts c.args.core.now c.open_file.new.core c.open_file.ensures.same

pub returns-in_err-hold_end-clause-commit : goal.returns-in_err-hold_end-clause-commit
returns-in_err-hold_end-clause-commit g c =
    let G = g.D.Counts in
    let u = c.args.core.now in
    let v = c.open_file.new.core in
    let w = c.hold_end.new.core in
    reads_commit G u w (reads-then G u v c.open_file.ensures.volume c.open_file.ensures.same w c.hold_end.ensures.same)

pub returns-clause-commit : goal.returns-clause-commit
returns-clause-commit g c =
    let G = g.D.Counts in
    let u = c.args.core.now in
    let v = c.open_file.new.core in
    let w = c.hold_end.new.core in
    commit_then u w c.cut_held.new.core (reads_commit G u w (reads-then G u v c.open_file.ensures.volume c.open_file.ensures.same w c.hold_end.ensures.same)) c.cut_held.ensures.commit
