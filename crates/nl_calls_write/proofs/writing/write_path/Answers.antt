use Rattle.std.proofs.Common.{◌^◌, List, subst, arith, ℕ}
use Rattle.nl_calls_write.specs.Calls.{ended_as}
use Rattle.nl_calls_bytes.specs.Ranges.{from_of, len_of, path_of}
use Rattle.nl_calls_steps.specs.declared.answer.Found.TheVariants as found
use Rattle.nl_calls_steps.specs.Finding.{IsFoundFile}
use Rattle.nl_calls_steps.specs.declared.answer.Found.{Found}
use Rattle.nl_calls_steps.proofs.Going.{file_on, leads_on}
use Rattle.nl_calls_write.proofs.Carried.{can_on, stamp_on}
use Rattle.nl_calls_write.proofs.OnePage.{reads_first}
use Rattle.nl_calls_write.proofs.Parts.{path_refused, read_early, read_then}
use Rattle.nl_calls_bytes.specs.Contents.{count_indexes}
use Rattle.nl_calls_steps.proofs.LastCommitOn.{reads_commit, reads_through}
use Rattle.nl_calls_write.proofs.writing.write_path.Goals as goal

pub write_file-requires : goal.write_file-requires
write_file-requires g c =
    let G = g.D.Counts in
    let u = c.args.core.now in
    let v = c.find_file-found.new.core in
    let e = c.find_file-found.ensures in
    let d = c.device_stands.ensures in
    let r = c.requires in
    let at = subst (λ (f : Found). IsFoundFile G u c.path_written.result.now f) c.in-File.is c.in-Ok.ensures.found in
    let is = subst (λ (p : List (List ℕ)). IsFoundFile G u p (found.File c.in-File.ino)) c.path_written.ensures at in
    let first = reads_first G u v r.core d.volume e.core.formed d.pages e.same in
    record {
      core = e.core;
      stamp = stamp_on G u v r.core d.volume e.core.formed d.pages e.same (2 ^ 62) r.stamp;
      can = can_on G u v r.core d.volume e.core.formed d.pages e.same c.args.worker c.args.line c.args.call.now c.args.files r.can;
      writing = r.writing;
      few = r.few;
      short = is.0;
      leads = leads_on G 0 u v first (path_of c.args.call.now) c.in-File.ino is.1;
      file = file_on G 0 u v first c.in-File.ino is.2;
    }

pub returns-in-File-clause-ends : goal.returns-in-File-clause-ends
returns-in-File-clause-ends g c =
    let G = g.D.Counts in
    let d = c.device_stands.ensures in
    read_then G c.args.worker c.args.call.now c.args.core.now c.find_file-found.new.core c.requires.core d.volume c.find_file-found.ensures.core.formed d.pages c.find_file-found.ensures.same (2 ^ 40) (2 ^ 36) (omega arith) c.write_file.new.core (ended_as c.write_file.result) c.write_file.ensures.ends

pub returns-in-No-clause-ends : goal.returns-in-No-clause-ends
returns-in-No-clause-ends g c =
    let G = g.D.Counts in
    let d = c.device_stands.ensures in
    let at = subst (λ (f : Found). IsFoundFile G c.args.core.now c.path_written.result.now f) c.in-No.is c.in-Ok.ensures.found in
    path_refused G c.args.worker c.args.call.now c.args.core.now c.find_file-found.new.core c.requires.core d.volume c.find_file-found.ensures.core.formed d.pages c.find_file-found.ensures.same (2 ^ 40) c.requires.writing c.in-No.refusal c.path_written.result.now c.path_written.ensures at

pub returns-in-Err-clause-ends : goal.returns-in-Err-clause-ends
returns-in-Err-clause-ends g c =
    let G = g.D.Counts in
    let d = c.device_stands.ensures in
    read_early G c.args.worker c.args.call.now c.args.core.now c.find_file-found.new.core c.requires.core d.volume c.find_file-found.ensures.core.formed d.pages c.find_file-found.ensures.same (2 ^ 40) c.in-Err.stop c.in-Err.ensures.early

pub returns-in-File-clause-commit : goal.returns-in-File-clause-commit
returns-in-File-clause-commit g c =
    let G = g.D.Counts in
    let u = c.args.core.now in
    let v = c.find_file-found.new.core in
    reads_through G u v c.find_file-found.ensures.same 4 (count_indexes (from_of c.args.call.now) (len_of c.args.call.now)) c.write_file.new.core c.write_file.ensures.commit

pub returns-in-No-clause-commit : goal.returns-in-No-clause-commit
returns-in-No-clause-commit g c room = reads_commit g.D.Counts c.args.core.now c.find_file-found.new.core c.find_file-found.ensures.same

pub returns-in-Err-clause-commit : goal.returns-in-Err-clause-commit
returns-in-Err-clause-commit g c room = reads_commit g.D.Counts c.args.core.now c.find_file-found.new.core c.find_file-found.ensures.same
