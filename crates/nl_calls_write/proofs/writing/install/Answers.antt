use Rattle.std.proofs.Common.{◌≤◌, ◌+◌, List, length, sym, subst, arith, ℕ}
use Rattle.nl_meta.specs.Pages.{besides_0, most}
use Rattle.nl_calls_write.specs.Fitting.{IsFitting}
use Rattle.nl_calls_bytes.specs.Ranges.{from_of, len_of, path_of}
use Rattle.nl_calls_write.specs.declared.answer.Fits.{Fits}
use Rattle.nl_calls_write.specs.declared.answer.Fits.TheVariants as fits
use Rattle.nl_calls_write.proofs.Carried.{all_on, line_of_on, of_record, written_on}
use Rattle.nl_calls_steps.proofs.Going.{files_on, leads_on}
use Rattle.nl_calls_write.proofs.OnePage.{flight_same, reads_first}
use Rattle.nl_calls_write.proofs.Parts.{fitting_of, read_early, read_then, room_refused}
use Rattle.nl_core.proofs.LastCommits.{commit_then}
use Rattle.nl_calls_steps.proofs.LastCommitOn.{reads_commit}
use Rattle.nl_calls_write.proofs.writing.install.Goals as goal

pub install_ready-requires : goal.install_ready-requires
install_ready-requires g c =
    let G = g.D.Counts in
    let u = c.args.core.now in
    let v = c.fits-room.new.core in
    let e = c.fits-room.ensures in
    let d = c.device_stands.ensures in
    let r = c.requires in
    let at = subst (λ (f : Fits). IsFitting G v c.args.ino c.offset_of.result c.length_of.result c.args.files f) c.in-Fits.is c.in-Ok.ensures.fits in
    let ready = fitting_of G v c.args.ino c.args.files c.offset_of.result c.length_of.result (from_of c.args.call.now) (len_of c.args.call.now) (fits.Fits c.in-Fits.rec) c.offset_of.ensures c.length_of.ensures at in
    let first = reads_first G u v r.core d.volume e.core.formed d.pages e.same in
    let flight = flight_same G u v r.core d.volume e.core.formed d.pages e.same in
    record {
      core = e.core;
      known = r.known;
      write = r.write;
      leads = leads_on G 0 u v first (path_of c.args.call.now) c.args.ino r.leads;
      ready = ready;
      files = files_on G 0 u v first c.args.files r.files;
      pages = of_record G v c.args.ino c.args.worker c.args.call.now c.in-Fits.rec (line_of_on G 0 u v first flight c.args.worker c.args.call.now c.args.ino r.line) at.file;
      all = all_on G 0 u v first flight c.args.worker c.args.call.now r.all;
      written = written_on G 0 u v first flight c.args.worker c.args.call.now r.written;
      room = subst (λ (dirty : List ℕ). length (besides_0 dirty) + 4 ≤ most) (sym e.same.runs.dirty) r.room;
    }

pub returns-in-Fits-clause-ends : goal.returns-in-Fits-clause-ends
returns-in-Fits-clause-ends g c =
    let G = g.D.Counts in
    let d = c.device_stands.ensures in
    read_then G c.args.worker c.args.call.now c.args.core.now c.fits-room.new.core c.requires.core d.volume c.fits-room.ensures.core.formed d.pages c.fits-room.ensures.same 0 0 (omega arith) c.install_ready.new.core c.install_ready.result c.install_ready.ensures.ends

pub returns-in-No-clause-ends : goal.returns-in-No-clause-ends
returns-in-No-clause-ends g c =
    let G = g.D.Counts in
    let u = c.args.core.now in
    let v = c.fits-room.new.core in
    let e = c.fits-room.ensures in
    let d = c.device_stands.ensures in
    let r = c.requires in
    let at = subst (λ (f : Fits). IsFitting G v c.args.ino c.offset_of.result c.length_of.result c.args.files f) c.in-No.is c.in-Ok.ensures.fits in
    let first = reads_first G u v r.core d.volume e.core.formed d.pages e.same in
    room_refused G c.args.worker c.args.call.now u v r.core d.volume e.core.formed d.pages e.same 0 e.core c.args.ino c.args.files r.write.writing r.write.short (leads_on G 0 u v first (path_of c.args.call.now) c.args.ino r.leads) c.looks_refuse.ensures
    r.write.some r.write.within (files_on G 0 u v first c.args.files r.files) c.in-No.refusal
    (fitting_of G v c.args.ino c.args.files c.offset_of.result c.length_of.result (from_of c.args.call.now) (len_of c.args.call.now) (fits.No c.in-No.refusal) c.offset_of.ensures c.length_of.ensures at)

pub returns-in-Err-clause-ends : goal.returns-in-Err-clause-ends
returns-in-Err-clause-ends g c =
    let G = g.D.Counts in
    let d = c.device_stands.ensures in
    read_early G c.args.worker c.args.call.now c.args.core.now c.fits-room.new.core c.requires.core d.volume c.fits-room.ensures.core.formed d.pages c.fits-room.ensures.same 0 c.in-Err.stop c.in-Err.ensures.early

pub returns-in-Fits-clause-commit : goal.returns-in-Fits-clause-commit
returns-in-Fits-clause-commit g c =
    let G = g.D.Counts in
    let u = c.args.core.now in
    let v = c.fits-room.new.core in
    commit_then u v c.install_ready.new.core (reads_commit G u v c.fits-room.ensures.same) c.install_ready.ensures.commit

pub returns-in-No-clause-commit : goal.returns-in-No-clause-commit
returns-in-No-clause-commit g c = reads_commit g.D.Counts c.args.core.now c.fits-room.new.core c.fits-room.ensures.same

pub returns-in-Err-clause-commit : goal.returns-in-Err-clause-commit
returns-in-Err-clause-commit g c = reads_commit g.D.Counts c.args.core.now c.fits-room.new.core c.fits-room.ensures.same
