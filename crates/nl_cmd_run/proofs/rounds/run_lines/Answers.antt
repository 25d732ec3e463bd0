use Rattle.std.proofs.Common.{◌∙◌, ap, sym, subst}
use Rattle.nl_device.specs.Medium.{medium_of}
use Rattle.nl_device.specs.contracts.counts.DeviceCounts.TheImpl.{ghosts}
use Rattle.nl_field.specs.Page.{Image}
use Rattle.nl_spec_headline.specs.Streams.{medium}
use Rattle.nl_spec_image.specs.Crash.{CrashesSafely}
use Rattle.nl_spec_image.specs.Stands.{ConsistentAs}
use Rattle.nl_tree.specs.Calls.{IsLine}
use Rattle.nl_volume.specs.declared.volume.Volume.{Volume}
use Rattle.nl_cmd_course.proofs.Lists.{holds_of}
use Rattle.nl_volume.proofs.Opens.{opens_on_same}
use Rattle.nl_cmd_course.proofs.Reading.{as_many_rows, ran_from, stops_from}
use Rattle.nl_cmd_run.proofs.rounds.run_lines.Goals as goal

pub run_opened-requires-clause-opened : goal.run_opened-requires-clause-opened
run_opened-requires-clause-opened g c = λ lifetimes outlives.
    let v = c.in-Ok.volume.core in
    opens_on_same (ghosts g.row.M g.M.Nand g.M.Nand-dict) (g.M.Nand.contents c.args.media) (g.M.Nand.contents (medium_of v.device)) v c.in-Ok.ensures.only_read.same_contents c.in-Ok.ensures.opened

pub run_opened-requires-clause-stands : goal.run_opened-requires-clause-stands
run_opened-requires-clause-stands g c = λ lifetimes outlives tree sound.
    c.in-Ok.ensures.stands tree c.args.lines.now (λ l has. holds_of IsLine c.args.lines.now l c.as_slice-lines.ensures.each.each has)
    (λ told. subst (λ (i : Image). ConsistentAs i c.in-Ok.volume.core.count tree) (c.in-Ok.ensures.only_read.same_contents told) (sound told))

-- the lines were run: what is said from the opened medium on is said from the medium on
pub returns-in-Ok-run_opened-clause-ran : goal.returns-in-Ok-run_opened-clause-ran
returns-in-Ok-run_opened-clause-ran g c =
    let m = g.M.Nand in
    let media = c.args.media in
    let opened = medium_of c.in-Ok.volume.core.device in
    let ran = c.in-Ok-run_opened.ran in
    let end = ran.media in
    let only = c.in-Ok.ensures.only_read in
    let r = c.in-Ok-run_opened.ensures.ran in (
      r.0,
      r.1,
      ran_from m.tells c.args.lines.now
          (CrashesSafely ConsistentAs (λ t i. m.left opened t i) (λ t i. m.left end t i) (m.clock opened) (m.clock end))
          (CrashesSafely ConsistentAs (λ t i. m.left media t i) (λ t i. m.left end t i) (m.clock media) (m.clock end))
          (medium (m.geometry media) (m.contents media) (m.clock media) (m.read_faults media) (m.write_faults media))
          (medium (m.geometry opened) (m.contents opened) (m.clock opened) (m.read_faults opened) (m.write_faults opened))
          (medium (m.geometry end) (m.contents end) (m.clock end) (m.read_faults end) (m.write_faults end))
          c.run_opened.new.tables.answers.rows ran.lost ran.worn ran.charges r.0 (λ told. only.same_contents told)
          (λ i. record { clock = only.same_clock i; read_faults = c.in-Ok.ensures.no_fault i; write_faults = only.same_write_faults i })
          (λ told run safe.
          stops_from ConsistentAs (λ t i. m.left media t i) (λ t i. m.left opened t i) (λ t i. m.left end t i) (m.clock opened) (m.clock media) (m.clock end) run (λ t i l. only.no_more_left told t i l)
          (sym only.same_clock) safe)
          r.2,
    )

pub returns-in-Ok-run_opened-clause-closing : goal.returns-in-Ok-run_opened-clause-closing
returns-in-Ok-run_opened-clause-closing g c = c.in-Ok-run_opened.ensures.closing

pub returns-in-Ok-run_opened-clause-rows : goal.returns-in-Ok-run_opened-clause-rows
returns-in-Ok-run_opened-clause-rows g c =
    let m = g.M.Nand in
    let opened = medium_of c.in-Ok.volume.core.device in
    let ran = c.in-Ok-run_opened.ran in
    let end = ran.media in
    let r = c.in-Ok-run_opened.ensures.ran in
    as_many_rows m.tells c.args.lines.now
    (CrashesSafely ConsistentAs (λ t i. m.left opened t i) (λ t i. m.left end t i) (m.clock opened) (m.clock end))
    (medium (m.geometry opened) (m.contents opened) (m.clock opened) (m.read_faults opened) (m.write_faults opened))
    (medium (m.geometry end) (m.contents end) (m.clock end) (m.read_faults end) (m.write_faults end))
    c.run_opened.new.tables.answers.rows ran.lost ran.worn ran.charges r.0 r.2

-- no memory for the lock
pub returns-in-Err-run_opened-clause-left : goal.returns-in-Err-run_opened-clause-left
returns-in-Err-run_opened-clause-left g c =
    let m = g.M.Nand in
    let only = c.in-Ok.ensures.only_read in
    let same = c.into_media.ensures ∙ ap (λ (v : Volume g.row.M.Denot). medium_of v.core.device) c.in-Err-run_opened.ensures.memory in
    record {
      same_contents = λ told. ap m.contents same ∙ only.same_contents told;
      no_more_left = λ told t i was. only.no_more_left told t i (subst (λ (x : g.row.M.Denot). m.left x t i) same was);
      same_clock = ap m.clock same ∙ only.same_clock;
      same_write_faults = ap m.write_faults same ∙ only.same_write_faults;
    }

pub returns-in-Ok-run_opened-clause-heard : goal.returns-in-Ok-run_opened-clause-heard
returns-in-Ok-run_opened-clause-heard g c = c.in-Ok-run_opened.ensures.heard
