use Rattle.std.proofs.Common.{ap, subst, List, ℕ}
use Rattle.nl_spec_headline.specs.Streams.{Prints, stream}
use Rattle.nl_print.specs.Texts.{refused_text}
use Rattle.nl_top.specs.RunEnds.{runs_script, script_refused, source_fault, source_no_memory}
use Rattle.nl_top.proofs.Left.{same_leaves}
use Rattle.nl_top.proofs.running.run.Goals as goal

pub returns-in-Lines-clause-ended : goal.returns-in-Lines-clause-ended
returns-in-Lines-clause-ended g c = runs_script c.in-Lines.lines c.in-Lines.ensures.script c.run_on.ensures.ended

pub returns-in-Refused-clause-ended : goal.returns-in-Refused-clause-ended
returns-in-Refused-clause-ended g c =
    let k = g.K.Sink in
    let media = c.without_lines.ensures.media in
    let m = g.M.Nand in
    script_refused c.in-Refused.line c.in-Refused.column c.in-Refused.why c.without_lines.ensures.status c.in-Refused.ensures.script (same_leaves m c.args.media c.without_lines.result.media media)
    (record {
      prints = subst (λ (w : List ℕ). Prints (stream (k.taken c.args.sink.now) (k.faults c.args.sink.now)) (stream (k.taken c.refused_line.new.sink) (k.faults c.refused_line.new.sink)) (refused_text c.in-Refused.line c.in-Refused.column w))
          c.word.ensures.word
          (record {
            answer = c.refused_line.result;
            taken = c.refused_line.ensures.text;
            never_falls = c.refused_line.ensures.never_falls;
            cause = c.refused_line.ensures.cause;
          });
      untouched = record {
        same_contents = λ told. ap m.contents media;
        same_clock = ap m.clock media;
        same_write_faults = ap m.write_faults media;
      };
      no_lines = c.without_lines.ensures.order;
      no_syncs = c.without_lines.ensures.syncs;
    })

pub returns-in-Failed-clause-ended : goal.returns-in-Failed-clause-ended
returns-in-Failed-clause-ended g c =
    let m = g.M.Nand in
    source_fault c.ended.ensures.status c.in-Failed.ensures.script (same_leaves m c.args.media c.ended.result.media c.ended.ensures.media)
    (record {
      prints = c.ended.ensures.prints;
      untouched = record {
        same_contents = λ told. ap m.contents c.ended.ensures.media;
        same_clock = ap m.clock c.ended.ensures.media;
        same_write_faults = ap m.write_faults c.ended.ensures.media;
      };
      no_lines = c.ended.ensures.order;
      no_syncs = c.ended.ensures.syncs;
    })

pub returns-in-Memory-clause-ended : goal.returns-in-Memory-clause-ended
returns-in-Memory-clause-ended g c =
    let m = g.M.Nand in
    source_no_memory c.ended-in-Memory.ensures.status (same_leaves m c.args.media c.ended-in-Memory.result.media c.ended-in-Memory.ensures.media)
    (record {
      prints = c.ended-in-Memory.ensures.prints;
      untouched = record {
        same_contents = λ told. ap m.contents c.ended-in-Memory.ensures.media;
        same_clock = ap m.clock c.ended-in-Memory.ensures.media;
        same_write_faults = ap m.write_faults c.ended-in-Memory.ensures.media;
      };
      no_lines = c.ended-in-Memory.ensures.order;
      no_syncs = c.ended-in-Memory.ensures.syncs;
    })
