use Rattle.std.proofs.Common.{◌^◌, refl, subst, arith}
use Rattle.nl_calls_write.specs.Calls.{ended_as}
use Rattle.nl_calls_write.specs.Fitting.{IsFitting}
use Rattle.nl_calls_bytes.specs.Ranges.{from_of, len_of, path_of}
use Rattle.nl_calls_write.specs.declared.answer.Fits.{Fits}
use Rattle.nl_calls_write.specs.declared.answer.Fits.TheVariants as fits
use Rattle.nl_calls_write.proofs.Carried.{can_on, stamp_on}
use Rattle.nl_calls_steps.proofs.Going.{files_on, leads_on}
use Rattle.nl_calls_write.proofs.OnePage.{reads_first}
use Rattle.nl_calls_write.proofs.Parts.{fitting_of, read_early, read_then, room_refused}
use Rattle.nl_calls_bytes.specs.Contents.{count_indexes}
use Rattle.nl_calls_steps.proofs.LastCommitOn.{reads_commit, reads_through}
use Rattle.nl_calls_write.proofs.writing.write_some.Goals as goal

pub write_pages-requires : goal.write_pages-requires
write_pages-requires g c =
    let G = g.D.Counts in
    let u = c.args.core.now in
    let v = c.fits-room.new.core in
    let e = c.fits-room.ensures in
    let d = c.device_stands.ensures in
    let r = c.requires in
    let at = subst (λ (f : Fits). IsFitting G v c.args.ino c.offset_of.result c.length_of.result c.args.files f) c.in-Fits.is c.in-Ok.ensures.fits in
    let first = reads_first G u v r.core d.volume e.core.formed d.pages e.same in
    record {
      core = e.core;
      stamp = stamp_on G u v r.core d.volume e.core.formed d.pages e.same (2 ^ 62) r.stamp;
      can = can_on G u v r.core d.volume e.core.formed d.pages e.same c.args.worker c.args.line c.args.call.now c.args.files r.can;
      write = r.write;
      leads = leads_on G 0 u v first (path_of c.args.call.now) c.args.ino r.leads;
      file = (c.in-Fits.rec, at.file, refl);
    }

pub returns-in-Fits-clause-ends : goal.returns-in-Fits-clause-ends
returns-in-Fits-clause-ends g c =
    let G = g.D.Counts in
    let d = c.device_stands.ensures in
    read_then G c.args.worker c.args.call.now c.args.core.now c.fits-room.new.core c.requires.core d.volume c.fits-room.ensures.core.formed d.pages c.fits-room.ensures.same (2 ^ 36) (2 ^ 36) (omega arith) c.write_pages.new.core (ended_as c.write_pages.result) c.write_pages.ensures.ends

pub returns-in-No-clause-ends : goal.returns-in-No-clause-ends
returns-in-No-clause-ends g c =
    let G = g.D.Counts in
    let u = c.args.core.now in
    let v = c.fits-room.new.core in
    let e = c.fits-room.ensures in
    let d = c.device_stands.ensures in
    let r = c.requires in
    let at = subst (λ (f : Fits). IsFitting G v c.args.ino c.offset_of.result c.length_of.result c.args.files f) c.in-No.is c.in-Ok.ensures.fits in
    let first = reads_first G u v r.core d.volume e.core.formed d.pages e.same in
    room_refused G c.args.worker c.args.call.now u v r.core d.volume e.core.formed d.pages e.same (2 ^ 36) e.core c.args.ino c.args.files r.write.writing r.write.short (leads_on G 0 u v first (path_of c.args.call.now) c.args.ino r.leads) c.looks_refuse.ensures
    r.write.some r.write.within (files_on G 0 u v first c.args.files r.can.files_are) c.in-No.refusal
    (fitting_of G v c.args.ino c.args.files c.offset_of.result c.length_of.result (from_of c.args.call.now) (len_of c.args.call.now) (fits.No c.in-No.refusal) c.offset_of.ensures c.length_of.ensures at)

pub returns-in-Err-clause-ends : goal.returns-in-Err-clause-ends
returns-in-Err-clause-ends g c =
    let G = g.D.Counts in
    let d = c.device_stands.ensures in
    read_early G c.args.worker c.args.call.now c.args.core.now c.fits-room.new.core c.requires.core d.volume c.fits-room.ensures.core.formed d.pages c.fits-room.ensures.same (2 ^ 36) c.in-Err.stop c.in-Err.ensures.early

pub returns-in-Fits-clause-commit : goal.returns-in-Fits-clause-commit
returns-in-Fits-clause-commit g c =
    let G = g.D.Counts in
    let u = c.args.core.now in
    let v = c.fits-room.new.core in
    reads_through G u v c.fits-room.ensures.same 4 (count_indexes (from_of c.args.call.now) (len_of c.args.call.now)) c.write_pages.new.core c.write_pages.ensures.commit

pub returns-in-No-clause-commit : goal.returns-in-No-clause-commit
returns-in-No-clause-commit g c room = reads_commit g.D.Counts c.args.core.now c.fits-room.new.core c.fits-room.ensures.same

pub returns-in-Err-clause-commit : goal.returns-in-Err-clause-commit
returns-in-Err-clause-commit g c room = reads_commit g.D.Counts c.args.core.now c.fits-room.new.core c.fits-room.ensures.same
