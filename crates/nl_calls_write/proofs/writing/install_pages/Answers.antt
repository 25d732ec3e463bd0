use Rattle.std.proofs.Common.{arith, sym, subst}
use Rattle.nl_calls_write.specs.Calls.{ended_as}
use Rattle.nl_calls_bytes.specs.Ranges.{path_of}
use Rattle.nl_calls_write.proofs.Carried.{all_on, line_of_on, written_on}
use Rattle.nl_calls_write.proofs.Ends.{ends_after}
use Rattle.nl_calls_steps.proofs.Going.{files_on, leads_on, others_same}
use Rattle.nl_calls_write.proofs.Parts.{part_early}
use Rattle.nl_core.specs.LastCommit.{KeepsCommit}
use Rattle.nl_core.specs.declared.state.Core.{Core}
use Rattle.nl_core.proofs.LastCommits.{commit_none}
use Rattle.nl_calls_write.proofs.writing.install_pages.Goals as goal

pub install-requires : goal.install-requires
install-requires g c =
    let G = g.D.Counts in
    let u = c.args.core.now in
    let v = c.make_room.new.core in
    let e = c.make_room.ensures in
    let r = c.requires in
    record {
      core = e.core;
      known = r.known;
      write = r.write;
      leads = leads_on G 512 u v e.goes (path_of c.args.call.now) c.args.ino r.leads;
      line = line_of_on G 512 u v e.goes e.flight c.args.worker c.args.call.now c.args.ino r.line;
      files = files_on G 512 u v e.goes c.args.files r.files;
      all = all_on G 512 u v e.goes e.flight c.args.worker c.args.call.now r.all;
      written = written_on G 512 u v e.goes e.flight c.args.worker c.args.call.now r.written;
      room = c.in-Ok.ensures.room;
    }

pub returns-in-Ok-clause-ends : goal.returns-in-Ok-clause-ends
returns-in-Ok-clause-ends g c =
    let G = g.D.Counts in
    let u = c.args.core.now in
    let v = c.make_room.new.core in
    let e = c.make_room.ensures in
    ends_after G 512 c.args.worker c.args.call.now u v e.goes (others_same c.args.worker u.flight v.flight e.flight) c.install.new.core 0 512 (omega arith) (ended_as c.install.result) c.install.ensures.ends

pub returns-in-Err-clause-ends : goal.returns-in-Err-clause-ends
returns-in-Err-clause-ends g c =
    let G = g.D.Counts in
    let u = c.args.core.now in
    let v = c.make_room.new.core in
    let e = c.make_room.ensures in
    part_early G 512 c.args.worker c.args.call.now u v e.goes (others_same c.args.worker u.flight v.flight e.flight) 512 (omega arith) c.in-Err.stop c.in-Err.ensures.early

pub returns-in-Ok-clause-commit : goal.returns-in-Ok-clause-commit
returns-in-Ok-clause-commit g c room = subst (λ (x : Core g.row.D.Denot). KeepsCommit x c.install.new.core) (c.make_room.ensures.kept room) c.install.ensures.commit

pub returns-in-Err-clause-commit : goal.returns-in-Err-clause-commit
returns-in-Err-clause-commit g c room = subst (λ (x : Core g.row.D.Denot). KeepsCommit c.args.core.now x) (sym (c.make_room.ensures.kept room)) (commit_none c.args.core.now)
