use Rattle.std.proofs.Common.{◌++◌, [], ◌∙◌, ap, arith, le_trans, refl}
use Rattle.nl_field.specs.declared.shape.Shape.{Shape}
use Rattle.nl_calls_steps.proofs.ReadCores.{reads-none, reads-then, runs-then}
use Rattle.nl_cmd_print.proofs.Ending.{reads_for_after}
use Rattle.nl_cmd_print.proofs.Lines.{ends_with, none_left, so_far_all, so_far_next, so_far_none, took_nothing}
use Rattle.nl_cmd_print.specs.Showing.{sink_answer}
use Rattle.nl_io.proofs.StreamsLaws.{then_write}
use Rattle.nl_io.specs.declared.sink.SinkAnswer.TheVariants as sink
use Rattle.nl_cmd_print.proofs.paths.print_paths.Goals as goal

pub paths-init : goal.paths-init
paths-init g c =
    let G = g.D.Counts in
    record {
      core = c.requires.core;
      same = reads-none G c.args.core.now c.requires.core;
      way = c.requires.way;
      faults = refl;
      later = omega arith;
      lines = record { text = []; taken = took_nothing (g.K.Sink.taken c.args.sink.now); of_tree = λ tells page_of_stamp tree runs. so_far_none tree c.args.walk.now c.requires.before };
    }

pub paths-preserved : goal.paths-preserved
paths-preserved g c =
    let G = g.D.Counts in
    let old = g.K.Sink.taken c.args.sink.now in
    let mid = g.K.Sink.taken c.paths.sink in
    let new = g.K.Sink.taken c.print_next.new.sink in
    let i = c.paths.invariant in
    let e = c.in-None.ensures in
    record {
      core = e.core;
      same = reads-then G c.args.core.now c.paths.core c.device_stands.ensures.volume i.same c.print_next.new.core e.same;
      way = e.way;
      faults = e.reads ∙ i.faults;
      later = le_trans i.later e.never_falls;
      lines = record {
        text = i.lines.text ++ e.shows.line;
        taken = then_write old mid new sink.Took i.lines.text e.shows.line i.lines.taken e.shows.taken;
        of_tree = λ tells page_of_stamp tree runs. so_far_next tree c.paths.walk c.paths.at i.lines.text (i.lines.of_tree tells page_of_stamp tree runs) c.print_next.new.walk e.shows.line
            (e.shows.of_tree page_of_stamp tree (runs-then G c.args.core.now c.paths.core i.same tells page_of_stamp tree runs));
      };
    }

pub returns-in-Some-clause-same : goal.returns-in-Some-clause-same
returns-in-Some-clause-same g c =
    let G = g.D.Counts in
    reads-then G c.args.core.now c.paths.core c.device_stands.ensures.volume c.paths.invariant.same c.print_next.new.core c.in-Some.ensures.same

pub returns-in-Some-clause-shows : goal.returns-in-Some-clause-shows
returns-in-Some-clause-shows g c =
    let G = g.D.Counts in
    let old = g.K.Sink.taken c.args.sink.now in
    let mid = g.K.Sink.taken c.paths.sink in
    let new = g.K.Sink.taken c.print_next.new.sink in
    let i = c.paths.invariant in
    let e = c.in-Some.ensures in
    record {
      text = i.lines.text ++ e.shows.line;
      taken = then_write old mid new (sink_answer c.in-Some.shown) i.lines.text e.shows.line i.lines.taken e.shows.taken;
      of_tree = λ tells page_of_stamp tree runs. ends_with tree c.paths.walk c.paths.at i.lines.text (i.lines.of_tree tells page_of_stamp tree runs) c.print_next.new.walk e.shows.line c.in-Some.shown
          (e.shows.of_tree page_of_stamp tree (runs-then G c.args.core.now c.paths.core i.same tells page_of_stamp tree runs));
    }

pub returns-in-Some-clause-reads : goal.returns-in-Some-clause-reads
returns-in-Some-clause-reads g c =
    let G = g.D.Counts in
    reads_for_after G c.args.core.now.device c.paths.core.device c.print_next.new.core.device c.in-Some.shown c.paths.invariant.faults c.in-Some.ensures.reads

pub returns-clause-shows : goal.returns-clause-shows
returns-clause-shows g c =
    let i = c.paths.invariant in
    let shape = ap (λ (s : Shape). s.nodes) c.requires.core.shape in
    record {
      text = i.lines.text;
      taken = i.lines.taken;
      of_tree = λ tells page_of_stamp tree runs. (
          let few = c.walks_begin.ensures.few c.args.core.now page_of_stamp tree runs in
          let f = i.lines.of_tree tells page_of_stamp tree runs in
          so_far_all tree c.paths.walk c.paths.at i.lines.text f (none_left tree c.paths.walk c.paths.at i.lines.text f (omega (arith, few, shape, c.paths-test.false, c.paths.auto.at-end)))
          );
    }
