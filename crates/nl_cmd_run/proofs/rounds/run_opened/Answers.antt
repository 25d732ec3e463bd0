use Rattle.std.proofs.Common.{◌≡◌, ◌∙◌, ◌||◌, ◌≤◌, Bool, true, false, ap, refl, sym, subst, arith}
use Rattle.nl_device.specs.Medium.{medium_of}
use Rattle.nl_device.specs.contracts.counts.DeviceCounts.TheImpl.{ghosts}
use Rattle.nl_field.specs.CrashStates.{top}
use Rattle.nl_spec_image.specs.Crash.{CrashesSafely}
use Rattle.nl_spec_image.specs.Stands.{ConsistentAs}
use Rattle.nl_turns.specs.History.{Opening}
use Rattle.nl_turns.specs.Seat.{SeatState, entries}
use Rattle.nl_spec_headline.specs.Streams.{medium}
use Rattle.nl_volume.specs.Opening.{opening_of}
use Rattle.nl_volume.specs.Standing.{VolumeRepresents}
use Rattle.nl_volume.specs.declared.volume.Volume.{Volume}
use Rattle.nl_cmd_course.specs.Rounds.{course_of}
use Rattle.nl_cmd_run.proofs.Running.{rounds_and_end}
use Rattle.nl_cmd_run.proofs.rounds.run_opened.Goals as goal

-- the value of the box is the volume
pub report-requires : goal.report-requires
report-requires g c =
    let G = ghosts g.row.M g.M.Nand g.M.Nand-dict in
    let origin = c.in-Ok.made.0.origin.value in
    let seat = c.run_rounds.new.seat in (
      origin,
      seat.opening,
      entries seat.seen,
      subst (λ (v : Volume _). VolumeRepresents G origin seat.opening (entries seat.seen) v) (sym c.into_inner-volume.ensures) c.close-boxed.ensures,
    )

pub close-closed-requires : goal.close-closed-requires
close-closed-requires g c =
    let G = ghosts g.row.M g.M.Nand g.M.Nand-dict in
    let origin = c.in-Ok.made.0.origin.value in
    let seat = c.run_rounds.new.seat in (
      origin,
      seat.opening,
      entries seat.seen,
      subst (λ (v : Volume _). VolumeRepresents G origin seat.opening (entries seat.seen) v) (sym c.into_inner-volume.ensures) c.close-boxed.ensures,
    )

pub returns-clause-lost : goal.returns-clause-lost
returns-clause-lost g c is =
    let closing = c.close-closed.result.lost in
    c.any_lost.ensures ∙ (ap (λ (b : Bool). closing || b) (c.lost.ensures ∙ is) ∙ or_true closing)
  where
    or_true : (b : Bool) → (b || true) ≡ true
    or_true true = refl
    or_true false = refl

pub returns-clause-ran : goal.returns-clause-ran
returns-clause-ran g c =
    let G = ghosts g.row.M g.M.Nand g.M.Nand-dict in
    let N = g.M.Nand in
    let v0 = c.args.volume.core in
    let old = medium_of v0.device in
    let opening = c.in-Ok.ensures.opening in
    let after = c.run_rounds.new.seat in
    let ran = c.run_rounds.ensures.ran in
    let rows = c.run_rounds.new.answers.rows in
    let last = c.into_inner-volume.result in
    let v = last.core in
    let media = c.close-closed.result.media in
    let e = c.close-closed.ensures in
    let o = opening_of G v0 opening.0 c.args.lines.now in
    let h = entries after.seen in
    let stands = subst (λ (x : Volume _ × Opening × Volume _). VolumeRepresents G x.0 x.1 h x.2)
    (λ k. (c.in-Ok.ensures.lock.2 k, (ap (λ (z : SeatState). z.opening) ran.same ∙ opening.2) k, (sym c.into_inner-volume.ensures) k)) c.close-boxed.ensures in
    let told = c.charges_of-charges.ensures in
    let clock = c.clock-clock.ensures in
    let clock_fits = c.clock-clock.type_inv in
    let faults = c.write_faults-faults.ensures in
    let faults_fit = c.write_faults-faults.type_inv in
    let few : N.clock media ≤ top = omega (arith, clock, clock_fits) in
    let writes : N.write_faults media ≤ top = omega (arith, faults, faults_fit) in (
      course_of o rows,
      c.calls-count.ensures,
      rounds_and_end G v0 v last.done opening.0 c.args.lines.now c.in-Ok.made.1 after rows opening.2 c.as_slice-lines.ensures.each c.as_slice-lines.ensures.small ran stands.0
          (CrashesSafely ConsistentAs (λ m i. N.left old m i) (λ m i. N.left media m i) (N.clock old) (N.clock media))
          (medium (N.geometry old) (N.contents old) (N.clock old) (N.read_faults old) (N.write_faults old)) (medium (N.geometry media) (N.contents media) (N.clock media) (N.read_faults media) (N.write_faults media))
          c.any_lost.result c.close-closed.result.worn c.charges_of-charges.result refl e.counts few writes c.requires.opened opening.1
          (λ young. e.stops c.args.volume o h stands young)
          (λ young none unworn. e.ends_well c.args.volume o h stands young none unworn)
          (λ t. c.any_lost.ensures ∙ (λ k. e.lost t k || (c.lost.ensures ∙ c.run_rounds.ensures.lost t) k))
          e.worn.0
          (λ page_of_stamp tree runs. let k = c.report.ensures.charges page_of_stamp tree runs in record { pages = told.pages ∙ k.pages; nodes = told.nodes ∙ k.nodes; meta = told.meta ∙ k.meta }),
    )

-- the history is that of the lock, and the closing that of the volume which it gave back
pub returns-clause-closing : goal.returns-clause-closing
returns-clause-closing g c =
    let G = ghosts g.row.M g.M.Nand g.M.Nand-dict in
    let v0 = c.args.volume.core in
    let opening = c.in-Ok.ensures.opening in
    let after = c.run_rounds.new.seat in
    let last = c.into_inner-volume.result in
    let closed = c.close-closed.result in
    let e = c.close-closed.ensures in
    let h = entries after.seen in
    let stands = subst (λ (x : Volume _ × Opening × Volume _). VolumeRepresents G x.0 x.1 h x.2)
    (λ k. (c.in-Ok.ensures.lock.2 k, (ap (λ (z : SeatState). z.opening) c.run_rounds.ensures.ran.same ∙ opening.2) k, (sym c.into_inner-volume.ensures) k)) c.close-boxed.ensures in
    record {
      origin = v0;
      opening = opening_of G v0 opening.0 c.args.lines.now;
      history = h;
      core = last.core;
      done = last.done;
      stands = stands.0;
      lines_are = refl;
      count_is = c.calls-count.ensures;
      closed = closed;
      closes = record { commits = e.commits; fault = e.fault; meets = e.meets; worn = e.worn };
      media_is = refl;
      worn_is = refl;
      lost_is = c.any_lost.ensures ∙ ap (λ (b : Bool). closed.lost || b) (c.lost.ensures ∙ c.run_rounds.ensures.found);
    }

pub returns-clause-heard : goal.returns-clause-heard
returns-clause-heard g c = c.run_rounds.ensures.heard.around
