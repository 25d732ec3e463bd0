use Rattle.std.proofs.Common.{◌+◌, ◌<◌, ◌≤◌, is_some, inl, refl, sym, ap, ◌∙◌, Some, arith}
use Rattle.std.proofs.lemmas.Result.{err_from_is_err_and}
use Rattle.nl_field.specs.declared.shape.Shape.{Shape}
use Rattle.nl_inode.specs.Nodes.{page_of_node}
use Rattle.nl_meta_running.specs.Running.{stored_on}
use Rattle.nl_meta_running.specs.declared.answer.Stop.TheVariants as stop
use Rattle.nl_calls_bytes.specs.Contents.{count_indexes, first_index}
use Rattle.nl_calls_bytes.proofs.TwoRanges.{few-counted}
use Rattle.nl_calls_steps.proofs.Early.{early-then, read-early}
use Rattle.nl_calls_steps.proofs.OnlyReads.{file-on, opened-file}
use Rattle.nl_calls_steps.proofs.ReadCores.{reads-then}
use Rattle.nl_calls_write.proofs.Fitted.{is-room, looked-core, looked-on, no-address, no-page-left}
use Rattle.nl_calls_write.proofs.fitting.fits.Goals as goal

pub returns-in_err-rec-clause-early : goal.returns-in_err-rec-clause-early
returns-in_err-rec-clause-early g c =
    let p = err_from_is_err_and c.from_residual.result c.from_residual.ensures.1 in
    rw (p.1, p.2) (read-early g.D.Counts c.args.core.now c.open_node.new.core (Some c.in_err-rec.field-0.0) c.in_err-rec.ensures.reads)

pub prepare_file-requires-clause-file : goal.prepare_file-requires-clause-file
prepare_file-requires-clause-file g c =
    (c.args.ino, opened-file g.D.Counts c.args.core.now c.open_node.new.core c.args.ino c.in_ok-rec.rec c.requires.file c.in_ok-rec.ensures.node)

pub returns-in-Fault-clause-same : goal.returns-in-Fault-clause-same
returns-in-Fault-clause-same g c =
    reads-then g.D.Counts c.args.core.now c.open_node.new.core c.device_stands.ensures.volume c.in_ok-rec.ensures.same c.prepare_file.new.core c.prepare_file.ensures.same

pub returns-in-Fault-clause-early : goal.returns-in-Fault-clause-early
returns-in-Fault-clause-early g c =
    early-then g.D.Counts c.args.core.now c.open_node.new.core c.prepare_file.new.core (Some stop.Fault) c.in_ok-rec.ensures.same (inl (c.in-Fault.ensures.faults.cause refl))

pub returns-in-Lost-clause-same : goal.returns-in-Lost-clause-same
returns-in-Lost-clause-same g c =
    reads-then g.D.Counts c.args.core.now c.open_node.new.core c.device_stands.ensures.volume c.in_ok-rec.ensures.same c.prepare_file.new.core c.prepare_file.ensures.same

pub returns-in-Lost-clause-early : goal.returns-in-Lost-clause-early
returns-in-Lost-clause-early g c = (c.in-Lost.ensures.lost.1, λ tells. c.in-Lost.ensures.told tells tt)

pub count_pointers-pages-requires-clause-ranges : goal.count_pointers-pages-requires-clause-ranges
count_pointers-pages-requires-clause-ranges g c = λ i low high. c.in-Done.ensures.ready refl i low (omega (arith, low, high))

pub has_free-requires : goal.has_free-requires
has_free-requires g c =
    let some = c.requires.some in
    let few = c.requires.few in
    few-counted c.in_ok-rec.rec (first_index c.args.from) (count_indexes c.args.from c.args.len) c.count_ranges-ranges.result (omega (arith, some, few)) c.count_ranges-ranges.ensures

pub returns-then-not-has_free-clause-core : goal.returns-then-not-has_free-clause-core
returns-then-not-has_free-clause-core g c = looked-core g.D.Counts c.prepare_file.new.core c.has_free.new.nodes c.has_free.ensures.same c.prepare_file.ensures.core

pub returns-then-not-has_free-clause-same : goal.returns-then-not-has_free-clause-same
returns-then-not-has_free-clause-same g c =
    let G = g.D.Counts in
    let w = c.prepare_file.new.core in
    looked-on G w c.has_free.new.nodes c.has_free.ensures.same c.args.core.now
    (reads-then G c.args.core.now c.open_node.new.core c.device_stands.ensures.volume c.in_ok-rec.ensures.same w c.prepare_file.ensures.same)

pub returns-then-not-has_free-clause-fits : goal.returns-then-not-has_free-clause-fits
returns-then-not-has_free-clause-fits g c =
    let G = g.D.Counts in
    let v = c.args.core.now in
    let w = c.prepare_file.new.core in
    let rec = c.in_ok-rec.rec in
    let opened = c.in_ok-rec.ensures.node in
    let on = reads-then G v c.open_node.new.core c.device_stands.ensures.volume c.in_ok-rec.ensures.same w c.prepare_file.ensures.same in
    let file = file-on G v w c.device_stands.ensures.volume on c.args.ino rec (record { is_node = opened.before; is_file = (opened-file G v c.open_node.new.core c.args.ino rec c.requires.file opened).is_file }) in (
      rec,
      file,
      no-address G w c.has_free.new.nodes rec c.args.from c.args.len c.args.files c.count_ranges-ranges.result c.count_pointers-pages.result c.has_free.ensures.same c.count_ranges-ranges.ensures
          (c.count_pointers-pages.ensures (stored_on G w.device)) (sym c.has_free.ensures.free ∙ c.if-not-has_free.true),
    )

pub returns-then-from-clause-core : goal.returns-then-from-clause-core
returns-then-from-clause-core g c = looked-core g.D.Counts c.prepare_file.new.core c.has_free.new.nodes c.has_free.ensures.same c.prepare_file.ensures.core

pub returns-then-from-clause-same : goal.returns-then-from-clause-same
returns-then-from-clause-same g c =
    let G = g.D.Counts in
    let w = c.prepare_file.new.core in
    looked-on G w c.has_free.new.nodes c.has_free.ensures.same c.args.core.now
    (reads-then G c.args.core.now c.open_node.new.core c.device_stands.ensures.volume c.in_ok-rec.ensures.same w c.prepare_file.ensures.same)

pub returns-then-from-clause-fits : goal.returns-then-from-clause-fits
returns-then-from-clause-fits g c =
    let G = g.D.Counts in
    let v = c.args.core.now in
    let w = c.prepare_file.new.core in
    let rec = c.in_ok-rec.rec in
    let opened = c.in_ok-rec.ensures.node in
    let on = reads-then G v c.open_node.new.core c.device_stands.ensures.volume c.in_ok-rec.ensures.same w c.prepare_file.ensures.same in
    let file = file-on G v w c.device_stands.ensures.volume on c.args.ino rec (record { is_node = opened.before; is_file = (opened-file G v c.open_node.new.core c.args.ino rec c.requires.file opened).is_file }) in
    let cap = ap (λ (x : Shape). x.cap) c.prepare_file.ensures.core.shape in
    let full : (G.shape w.device).cap < c.args.files + c.count_pointers-pages.result = omega (arith, cap, c.from.ensures, c.from-2.ensures, c.from-3.ensures, c.if-from.true) in (
      rec,
      file,
      no-page-left G w c.has_free.new.nodes rec c.args.from c.args.len c.args.files c.count_ranges-ranges.result c.count_pointers-pages.result c.has_free.ensures.same c.count_ranges-ranges.ensures
          (c.count_pointers-pages.ensures (stored_on G w.device)) (sym c.has_free.ensures.free ∙ c.if-not-has_free.false) full,
    )

pub returns-clause-core : goal.returns-clause-core
returns-clause-core g c = looked-core g.D.Counts c.prepare_file.new.core c.has_free.new.nodes c.has_free.ensures.same c.prepare_file.ensures.core

pub returns-clause-same : goal.returns-clause-same
returns-clause-same g c =
    let G = g.D.Counts in
    let w = c.prepare_file.new.core in
    looked-on G w c.has_free.new.nodes c.has_free.ensures.same c.args.core.now
    (reads-then G c.args.core.now c.open_node.new.core c.device_stands.ensures.volume c.in_ok-rec.ensures.same w c.prepare_file.ensures.same)

pub returns-clause-fits : goal.returns-clause-fits
returns-clause-fits g c =
    let G = g.D.Counts in
    let v = c.args.core.now in
    let w = c.prepare_file.new.core in
    let rec = c.in_ok-rec.rec in
    let opened = c.in_ok-rec.ensures.node in
    let on = reads-then G v c.open_node.new.core c.device_stands.ensures.volume c.in_ok-rec.ensures.same w c.prepare_file.ensures.same in
    let cap = ap (λ (x : Shape). x.cap) c.prepare_file.ensures.core.shape in
    let room : c.args.files + c.count_pointers-pages.result ≤ (G.shape w.device).cap = omega (arith, cap, c.from.ensures, c.from-2.ensures, c.from-3.ensures, c.if-from.false) in
    record {
      file = file-on G v w c.device_stands.ensures.volume on c.args.ino rec (record { is_node = opened.before; is_file = (opened-file G v c.open_node.new.core c.args.ino rec c.requires.file opened).is_file });
      there = ap is_some (c.prepare_file.ensures.same.runs.stays (page_of_node c.args.ino) opened.there) ∙ opened.there;
      ranges = λ i low high. c.in-Done.ensures.ready refl i low (omega (arith, low, high));
      room = is-room G w c.has_free.new.nodes rec c.args.from c.args.len c.args.files c.count_ranges-ranges.result c.count_pointers-pages.result c.has_free.ensures.same c.count_ranges-ranges.ensures
          (c.count_pointers-pages.ensures (stored_on G w.device)) (sym c.has_free.ensures.free ∙ c.if-not-has_free.false) room;
    }
