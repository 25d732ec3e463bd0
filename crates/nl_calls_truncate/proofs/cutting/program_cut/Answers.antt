use Rattle.std.proofs.Common.{◌^◌, ◌∙◌, List, Some, ⊎_elim, ap, refl, arith}
use Rattle.nl_meta_running.specs.declared.answer.Stop.TheVariants as stop
use Rattle.nl_flight.specs.Flight.{InFlight, of_worker}
use Rattle.nl_files.proofs.Filling.{file-size}
use Rattle.nl_core.specs.declared.state.Core.{Core}
use Rattle.nl_core.proofs.Onward.{goes_more}
use Rattle.nl_calls_files.proofs.Fits.{stands}
use Rattle.nl_calls_steps.proofs.Early.{early-then}
use Rattle.nl_calls_steps.proofs.LeavesTree.{reads_go}
use Rattle.nl_calls_truncate.proofs.CutFlight.{others_page}
use Rattle.nl_calls_truncate.proofs.CutPut.{can_put}
use Rattle.nl_calls_truncate.proofs.CutReads.{flight_on, goes_read, others_kept, others_read}
use Rattle.nl_core.proofs.LastCommits.{room_more}
use Rattle.nl_calls_steps.proofs.LastCommitOn.{reads_at_once, reads_room}
use Rattle.nl_calls_truncate.proofs.cutting.program_cut.Goals as goal

pub make_cut-requires-clause-size : goal.make_cut-requires-clause-size
make_cut-requires-clause-size g c =
    let G = g.D.Counts in
    let v = c.args.core.now in
    let most = file-size c.args.rec.now (stands G v.device v.meta c.args.ino c.args.rec.now c.requires.core.journaled.runs c.requires.file).file in
    let shorter = c.requires.shorter in
    omega (arith, most, shorter)

pub returns-in_err-make_cut-clause-goes : goal.returns-in_err-make_cut-clause-goes
returns-in_err-make_cut-clause-goes g c =
    let G = g.D.Counts in
    let u = c.args.core.now in
    let v = c.make_cut.new.core in
    let e = c.make_cut.ensures in
    goes_more G 0 (2 ^ 30) u v (omega arith) (reads_go G u v c.requires.core e.volume e.core.formed e.stores e.same)

pub overflow_cast-tag : goal.overflow_cast-tag
overflow_cast-tag g c =
    let G = g.D.Counts in
    let v = c.args.core.now in
    let most = file-size c.args.rec.now (stands G v.device v.meta c.args.ino c.args.rec.now c.requires.core.journaled.runs c.requires.file).file in
    let shorter = c.requires.shorter in
    omega (arith, most, shorter)

pub unreachable-requires : goal.unreachable-requires
unreachable-requires g c =
    let e = c.make_cut.ensures in
    let same = e.same.runs.reads.medium.next_stamp in
    let low = c.requires.stamp in
    ⊎_elim (λ off. off (ap (λ (x : Core g.row.D.Denot). x.stopped) e.same.others ∙ c.requires.can.writes)) (λ high. omega (arith, same, low, high)) (c.program-answer.ensures.stopped.0 c.in-Stopped.is)

pub returns-in-InFlight-clause-goes : goal.returns-in-InFlight-clause-goes
returns-in-InFlight-clause-goes g c =
    let G = g.D.Counts in
    let e = c.make_cut.ensures in
    goes_read G c.args.core.now c.make_cut.new.core c.program-answer.new.self c.requires.core e.volume e.core.formed e.stores e.same (2 ^ 30) c.program-answer.ensures.goes

pub returns-in-InFlight-clause-ready : goal.returns-in-InFlight-clause-ready
returns-in-InFlight-clause-ready g c =
    let G = g.D.Counts in
    let u = c.args.core.now in
    let v = c.make_cut.new.core in
    let w = c.program-answer.new.self in
    let e = c.make_cut.ensures in
    let worker = c.args.worker in
    let size = c.args.size in
    let rec = c.args.rec.now in
    let most = file-size rec (stands G u.device u.meta c.args.ino rec c.requires.core.journaled.runs c.requires.file).file in
    let shorter = c.requires.shorter in
    can_put G u v w c.requires.core e.core c.program-answer.ensures.core c.device_stands.ensures.names (2 ^ 30)
    (goes_read G u v w c.requires.core e.volume e.core.formed e.stores e.same (2 ^ 30) c.program-answer.ensures.goes)
    worker c.args.line c.args.ino size rec _ c.make_cut.new.page.main c.requires.can.known (ap (λ (f : List InFlight). of_worker f worker) (flight_on G u v e.same) ∙ c.requires.can.none) c.requires.file
    c.in-InFlight.ensures.programs c.in_ok-make_cut.ensures.made c.requires.can.runs refl (omega (arith, most, shorter)) c.requires.within c.requires.had

pub returns-in-InFlight-clause-others : goal.returns-in-InFlight-clause-others
returns-in-InFlight-clause-others g c =
    let G = g.D.Counts in
    let u = c.args.core.now in
    let v = c.make_cut.new.core in
    let w = c.program-answer.new.self in
    let e = c.make_cut.ensures in
    let puts = c.in-InFlight.ensures.programs in
    others_read G u v w c.requires.core e.volume e.core.formed e.stores e.same c.args.worker
    (others_page v.flight w.flight c.args.worker c.args.line _ puts.at e.core.flight c.requires.can.known puts.flight)

pub returns-in-Lost-clause-goes : goal.returns-in-Lost-clause-goes
returns-in-Lost-clause-goes g c =
    let G = g.D.Counts in
    let e = c.make_cut.ensures in
    goes_read G c.args.core.now c.make_cut.new.core c.program-answer.new.self c.requires.core e.volume e.core.formed e.stores e.same (2 ^ 30) c.program-answer.ensures.goes

pub returns-in-Lost-clause-others : goal.returns-in-Lost-clause-others
returns-in-Lost-clause-others g c =
    let G = g.D.Counts in
    let v = c.make_cut.new.core in
    let w = c.program-answer.new.self in
    let e = c.make_cut.ensures in
    others_read G c.args.core.now v w c.requires.core e.volume e.core.formed e.stores e.same c.args.worker (others_kept c.args.worker v.flight w.flight c.in-Lost.ensures.programs.0)

pub returns-in-Fault-clause-goes : goal.returns-in-Fault-clause-goes
returns-in-Fault-clause-goes g c =
    let G = g.D.Counts in
    let e = c.make_cut.ensures in
    goes_read G c.args.core.now c.make_cut.new.core c.program-answer.new.self c.requires.core e.volume e.core.formed e.stores e.same (2 ^ 30) c.program-answer.ensures.goes

pub returns-in-Fault-clause-others : goal.returns-in-Fault-clause-others
returns-in-Fault-clause-others g c =
    let G = g.D.Counts in
    let v = c.make_cut.new.core in
    let w = c.program-answer.new.self in
    let e = c.make_cut.ensures in
    others_read G c.args.core.now v w c.requires.core e.volume e.core.formed e.stores e.same c.args.worker (others_kept c.args.worker v.flight w.flight c.in-Fault.ensures.programs)

pub returns-in-Fault-clause-early : goal.returns-in-Fault-clause-early
returns-in-Fault-clause-early g c =
    let G = g.D.Counts in
    early-then G c.args.core.now c.make_cut.new.core c.program-answer.new.self (Some stop.Fault) c.make_cut.ensures.same (c.program-answer.ensures.faults c.in-Fault.is)

pub returns-in_err-make_cut-clause-at_once : goal.returns-in_err-make_cut-clause-at_once
returns-in_err-make_cut-clause-at_once g c has =
    let G = g.D.Counts in
    let u = c.args.core.now in
    let v = c.make_cut.new.core in
    room_more G 0 1 u v (omega arith) (reads_room G u v c.make_cut.ensures.same)

pub returns-in-InFlight-clause-at_once : goal.returns-in-InFlight-clause-at_once
returns-in-InFlight-clause-at_once g c =
    reads_at_once g.D.Counts c.args.core.now c.make_cut.new.core c.program-answer.new.self c.make_cut.ensures.same c.program-answer.ensures.at_once

pub returns-in-Lost-clause-at_once : goal.returns-in-Lost-clause-at_once
returns-in-Lost-clause-at_once g c =
    reads_at_once g.D.Counts c.args.core.now c.make_cut.new.core c.program-answer.new.self c.make_cut.ensures.same c.program-answer.ensures.at_once

pub returns-in-Fault-clause-at_once : goal.returns-in-Fault-clause-at_once
returns-in-Fault-clause-at_once g c =
    reads_at_once g.D.Counts c.args.core.now c.make_cut.new.core c.program-answer.new.self c.make_cut.ensures.same c.program-answer.ensures.at_once
