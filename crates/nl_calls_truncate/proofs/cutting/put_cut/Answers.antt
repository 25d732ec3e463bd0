use Rattle.std.proofs.Common.{◌^◌, ◌∙◌, List, inl, inr, sym, ap, Some, arith}
use Rattle.std.proofs.lemmas.Result.{err_from_is_err_and}
use Rattle.nl_flight.specs.Flight.{InFlight, of_worker}
use Rattle.nl_meta_running.specs.Reading.{stop_of}
use Rattle.nl_core.proofs.Onward.{goes_more}
use Rattle.nl_calls_truncate.proofs.CutPut.{can_without}
use Rattle.nl_calls_truncate.proofs.CutReads.{can_on, flight_on, goes_read, others_read}
use Rattle.nl_calls_steps.proofs.Early.{early-then}
use Rattle.nl_calls_steps.proofs.LeavesTree.{reads_go}
use Rattle.nl_calls_steps.proofs.OnlyReads.{file-on}
use Rattle.nl_calls_steps.proofs.ReadCores.{reads-then}
use Rattle.nl_core.proofs.LastCommits.{room_more}
use Rattle.nl_calls_steps.proofs.LastCommitOn.{reads_at_once, reads_room}
use Rattle.nl_calls_truncate.proofs.cutting.put_cut.Goals as goal
use Rattle.nl_calls_truncate.proofs.cutting.put_cut.Goals.{then-rec-size-via-then-rec-size, then-rec-size-via-else-rec-size+then-size-eq0}

pub returns-in_err-rec-clause-goes : goal.returns-in_err-rec-clause-goes
returns-in_err-rec-clause-goes g c =
    let G = g.D.Counts in
    let u = c.args.core.now in
    let v = c.open_file.new.core in
    let e = c.open_file.ensures in
    goes_more G 0 (2 ^ 30) u v (omega arith) (reads_go G u v c.requires.core e.volume e.core.formed e.stores e.same)

pub returns-then-rec-size-clause-goes : goal.returns-then-rec-size-clause-goes
returns-then-rec-size-clause-goes g c =
    let G = g.D.Counts in
    let u = c.args.core.now in
    let v = c.open_file.new.core in
    let e = c.open_file.ensures in
    goes_more G 0 (2 ^ 30) u v (omega arith) (reads_go G u v c.requires.core e.volume e.core.formed e.stores e.same)

pub returns-then-rec-size-clause-ready : goal.returns-then-rec-size-clause-ready
returns-then-rec-size-clause-ready g c =
    let G = g.D.Counts in
    let u = c.args.core.now in
    let v = c.open_file.new.core in
    can_without G v c.args.worker c.args.ino c.args.size c.in_ok-rec.rec (ap (λ (f : List InFlight). of_worker f c.args.worker) (flight_on G u v c.open_file.ensures.same) ∙ c.requires.can.none) c.in_ok-rec.ensures.opened.after
    (elim c.then-rec-size.branch [ then-rec-size-via-then-rec-size w ↦ inl w.if-rec-size.true | then-rec-size-via-else-rec-size+then-size-eq0 w ↦ inr (inl w.if-size-eq0.true) ])

pub returns-in_err-has_hole-clause-goes : goal.returns-in_err-has_hole-clause-goes
returns-in_err-has_hole-clause-goes g c =
    let G = g.D.Counts in
    let u = c.args.core.now in
    let v = c.open_file.new.core in
    let w = c.has_hole.new.core in
    let e = c.open_file.ensures in
    let h = c.has_hole.ensures in
    goes_more G 0 (2 ^ 30) u w (omega arith) (reads_go G u w c.requires.core e.volume h.core.formed h.stores (reads-then G u v e.volume e.same w h.same))

pub returns-in_err-has_hole-clause-early : goal.returns-in_err-has_hole-clause-early
returns-in_err-has_hole-clause-early g c =
    let G = g.D.Counts in
    let p = err_from_is_err_and c.from_residual-in_err-has_hole.result c.from_residual-in_err-has_hole.ensures.1 in
    rw (p.1, p.2) (early-then G c.args.core.now c.open_file.new.core c.has_hole.new.core (Some c.in_err-has_hole.field-0.0) c.open_file.ensures.same c.in_err-has_hole.ensures.early)

pub returns-then-branch-clause-goes : goal.returns-then-branch-clause-goes
returns-then-branch-clause-goes g c =
    let G = g.D.Counts in
    let u = c.args.core.now in
    let v = c.open_file.new.core in
    let w = c.has_hole.new.core in
    let e = c.open_file.ensures in
    let h = c.has_hole.ensures in
    goes_more G 0 (2 ^ 30) u w (omega arith) (reads_go G u w c.requires.core e.volume h.core.formed h.stores (reads-then G u v e.volume e.same w h.same))

pub returns-then-branch-clause-ready : goal.returns-then-branch-clause-ready
returns-then-branch-clause-ready g c =
    let G = g.D.Counts in
    let u = c.args.core.now in
    let v = c.open_file.new.core in
    let w = c.has_hole.new.core in
    let e = c.open_file.ensures in
    let rec = c.in_ok-rec.rec in
    let both = reads-then G u v e.volume e.same w c.has_hole.ensures.same in
    can_without G w c.args.worker c.args.ino c.args.size rec (ap (λ (f : List InFlight). of_worker f c.args.worker) (flight_on G u w both) ∙ c.requires.can.none)
    (file-on G u w e.volume both c.args.ino rec c.in_ok-rec.ensures.opened.before) (inr (inr (sym c.in_ok-has_hole.ensures.hole ∙ c.if-branch.true)))

pub program_cut-requires-clause-can : goal.program_cut-requires-clause-can
program_cut-requires-clause-can g c =
    let G = g.D.Counts in
    let u = c.args.core.now in
    let v = c.open_file.new.core in
    let w = c.has_hole.new.core in
    let e = c.open_file.ensures in
    let h = c.has_hole.ensures in
    let both = reads-then G u v e.volume e.same w h.same in
    can_on G u w c.args.worker c.args.line (reads_go G u w c.requires.core e.volume h.core.formed h.stores both) both c.requires.can

pub program_cut-requires-clause-file : goal.program_cut-requires-clause-file
program_cut-requires-clause-file g c =
    let G = g.D.Counts in
    let u = c.args.core.now in
    let w = c.has_hole.new.core in
    let e = c.open_file.ensures in
    file-on G u w e.volume (reads-then G u c.open_file.new.core e.volume e.same w c.has_hole.ensures.same) c.args.ino c.in_ok-rec.rec c.in_ok-rec.ensures.opened.before

pub returns-clause-goes : goal.returns-clause-goes
returns-clause-goes g c =
    let G = g.D.Counts in
    let u = c.args.core.now in
    let w = c.has_hole.new.core in
    let e = c.open_file.ensures in
    let h = c.has_hole.ensures in
    goes_read G u w c.program_cut.new.core c.requires.core e.volume h.core.formed h.stores (reads-then G u c.open_file.new.core e.volume e.same w h.same) (2 ^ 30) c.program_cut.ensures.goes

pub returns-clause-others : goal.returns-clause-others
returns-clause-others g c =
    let G = g.D.Counts in
    let u = c.args.core.now in
    let w = c.has_hole.new.core in
    let e = c.open_file.ensures in
    let h = c.has_hole.ensures in
    others_read G u w c.program_cut.new.core c.requires.core e.volume h.core.formed h.stores (reads-then G u c.open_file.new.core e.volume e.same w h.same) c.args.worker c.program_cut.ensures.others

pub returns-clause-early : goal.returns-clause-early
returns-clause-early g c =
    let G = g.D.Counts in
    let u = c.args.core.now in
    let w = c.has_hole.new.core in
    let e = c.open_file.ensures in
    early-then G u w c.program_cut.new.core (stop_of c.program_cut.result) (reads-then G u c.open_file.new.core e.volume e.same w c.has_hole.ensures.same) c.program_cut.ensures.early

pub returns-in_err-rec-clause-at_once : goal.returns-in_err-rec-clause-at_once
returns-in_err-rec-clause-at_once g c has =
    let G = g.D.Counts in
    let u = c.args.core.now in
    let v = c.open_file.new.core in
    room_more G 0 1 u v (omega arith) (reads_room G u v c.open_file.ensures.same)

pub returns-then-rec-size-clause-at_once : goal.returns-then-rec-size-clause-at_once
returns-then-rec-size-clause-at_once g c has =
    let G = g.D.Counts in
    let u = c.args.core.now in
    let v = c.open_file.new.core in
    room_more G 0 1 u v (omega arith) (reads_room G u v c.open_file.ensures.same)

pub returns-in_err-has_hole-clause-at_once : goal.returns-in_err-has_hole-clause-at_once
returns-in_err-has_hole-clause-at_once g c has =
    let G = g.D.Counts in
    let u = c.args.core.now in
    let v = c.open_file.new.core in
    let w = c.has_hole.new.core in
    room_more G 0 1 u w (omega arith) (reads_room G u w (reads-then G u v c.open_file.ensures.volume c.open_file.ensures.same w c.has_hole.ensures.same))

pub returns-then-branch-clause-at_once : goal.returns-then-branch-clause-at_once
returns-then-branch-clause-at_once g c has =
    let G = g.D.Counts in
    let u = c.args.core.now in
    let v = c.open_file.new.core in
    let w = c.has_hole.new.core in
    room_more G 0 1 u w (omega arith) (reads_room G u w (reads-then G u v c.open_file.ensures.volume c.open_file.ensures.same w c.has_hole.ensures.same))

pub returns-clause-at_once : goal.returns-clause-at_once
returns-clause-at_once g c =
    let G = g.D.Counts in
    let u = c.args.core.now in
    let v = c.open_file.new.core in
    let w = c.has_hole.new.core in
    reads_at_once G u w c.program_cut.new.core (reads-then G u v c.open_file.ensures.volume c.open_file.ensures.same w c.has_hole.ensures.same) c.program_cut.ensures.at_once
