use Rattle.std.proofs.Common.{◌≤◌, ◌++◌, [], sym, arith}
use Rattle.nl_device.specs.Medium.{medium_of}
use Rattle.nl_device.specs.contracts.counts.DeviceCounts.TheImpl.{ghosts as device}
use Rattle.nl_field.specs.CrashStates.{top}
use Rattle.nl_spec_headline.specs.Streams.{medium}
use Rattle.nl_spec_image.specs.Crash.{CrashesSafely}
use Rattle.nl_spec_image.specs.Stands.{ConsistentAs}
use Rattle.nl_turns.specs.History.{with_lines}
use Rattle.nl_volume.specs.Opening.{opening_of}
use Rattle.nl_cmd_course.proofs.Reading.{stops_from}
use Rattle.nl_cmd_put.specs.Asking.{course_of}
use Rattle.nl_cmd_course.specs.Asking.{entries_from, lines_from}
use Rattle.nl_cmd_put.specs.Phases.{joined}
use Rattle.nl_cmd_course.proofs.Asked.{all_lines}
use Rattle.nl_cmd_put.proofs.Course.{fits_so, runs_put}
use Rattle.nl_cmd_put.proofs.on_volume.put_file.Goals as goal

pub put_on-end-requires-clause-may : goal.put_on-end-requires-clause-may
put_on-end-requires-clause-may g c =
    let G = device g.row.M g.M.Nand g.M.Nand-dict in
    let v = c.in_ok-volume.volume in
    let e = c.in_ok-volume.ensures in
    let tree = e.opened.tree in (
      v,
      opening_of G v.core tree [],
      [],
      record { bounded = tt; follows = λ later each. e.stands tree later each (λ t. (e.opened.opens t).sound); due = λ t. tt },
      omega arith,
    )

pub close-closed-requires : goal.close-closed-requires
close-closed-requires g c =
    let G = device g.row.M g.M.Nand g.M.Nand-dict in
    let v = c.in_ok-volume.volume in
    let e = c.in_ok-volume.ensures in
    let tree = e.opened.tree in
    let o = opening_of G v.core tree [] in
    let p = c.put_on-end.ensures.ended v o (record { bounded = tt; follows = λ later each. e.stands tree later each (λ t. (e.opened.opens t).sound); due = λ t. tt })
    (λ t. record { is_tree = (e.opened.opens t).sound.stands.is_tree; room = fits_so G v.core v.core tree [] v.done (e.stands tree [] (λ l none. absurd none) (λ s. (e.opened.opens s).sound)).0 t }) in (
      v,
      with_lines o (lines_from 1 p.asked ++ []),
      entries_from 1 p.asked,
      p.putting.so_far.follows [] (all_lines p.asked p.putting.so_far.bounded),
    )

pub returns-clause-ran : goal.returns-clause-ran
returns-clause-ran g c =
    let G = device g.row.M g.M.Nand g.M.Nand-dict in
    let N = g.M.Nand in
    let media = c.args.media in
    let v = c.in_ok-volume.volume in
    let e = c.in_ok-volume.ensures in
    let only = e.only_read in
    let tree = e.opened.tree in
    let sound : N.tells → ConsistentAs (N.contents media) v.core.count tree = λ t. (e.opened.opens t).sound in
    let o = opening_of G v.core tree [] in
    let p = c.put_on-end.ensures.ended v o (record { bounded = tt; follows = λ later each. e.stands tree later each sound; due = λ t. tt })
    (λ t. record { is_tree = (sound t).stands.is_tree; room = fits_so G v.core v.core tree [] v.done (e.stands tree [] (λ l none. absurd none) sound).0 t }) in
    let v1 = c.put_on-end.new.volume in
    let stood = p.putting.so_far.follows [] (all_lines p.asked p.putting.so_far.bounded) in
    let lines = with_lines o (lines_from 1 p.asked ++ []) in
    let h = entries_from 1 p.asked in
    let closed = c.close-closed.result in
    let end = closed.media in
    let k = c.close-closed.ensures in
    let opened = medium_of v.core.device in
    let clock = c.clock-clock.ensures in
    let clock_fits = c.clock-clock.type_inv in
    let faults = c.write_faults-faults.ensures in
    let faults_fit = c.write_faults-faults.type_inv in
    let few : N.clock end ≤ top = omega (arith, clock, clock_fits) in
    let writes : N.write_faults end ≤ top = omega (arith, faults, faults_fit) in (
      course_of o p.asked,
      runs_put G v.core v1.core v1.done tree p.asked stood.0 c.args.path (joined c.args.pieces.items)
          (CrashesSafely ConsistentAs (λ m i. N.left media m i) (λ m i. N.left end m i) (N.clock media) (N.clock end))
          (medium (N.geometry media) (N.contents media) (N.clock media) (N.read_faults media) (N.write_faults media))
          (medium (N.geometry end) (N.contents end) (N.clock end) (N.read_faults end) (N.write_faults end))
          c.put_on-end.result closed.lost closed.worn p.own p.beside p.putting.under_way p.is_end
          (λ i. record { clock = sym only.same_clock i; read_faults = sym e.no_fault i; write_faults = sym only.same_write_faults i })
          k.counts few writes e.opened sound p.few
          (λ young. stops_from ConsistentAs (λ m i. N.left media m i) (λ m i. N.left opened m i) (λ m i. N.left end m i) (N.clock opened) (N.clock media) (N.clock end) _ (λ m i l. only.no_more_left young.told m i l) (sym only.same_clock)
          (k.stops v lines h stood young))
          (λ young none unworn. k.ends_well v lines h stood young none unworn)
          k.lost k.worn.0,
    )
