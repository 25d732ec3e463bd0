use Rattle.nl_print.specs.Texts.{opened_line}
use Rattle.nl_io.proofs.StreamsLaws.{stopped}
use Rattle.nl_bench.specs.Played.{lines_text, new_state}
use Rattle.nl_bench.proofs.Texts.{behind_opening, left_behind_opening}
use Rattle.nl_bench.proofs.playing.play_lines.Goals as goal

pub returns-in-Took-clause-text : goal.returns-in-Took-clause-text
returns-in-Took-clause-text g c =
    behind_opening (g.K.Sink.taken c.args.sink.now) (g.K.Sink.taken c.number_line.new.sink) (g.K.Sink.taken c.run_lines.new.sink) c.args.shape c.in_ok-plain.plain c.args.lines.now c.run_lines.result
    c.in_ok-plain.ensures c.in-Took.ensures.text c.run_lines.ensures.text

pub returns-in-Took-clause-memory : goal.returns-in-Took-clause-memory
returns-in-Took-clause-memory g c =
    left_behind_opening (g.K.Sink.taken c.args.sink.now) (g.K.Sink.taken c.number_line.new.sink) (g.K.Sink.taken c.run_lines.new.sink) c.args.shape c.in_ok-plain.plain c.args.lines.now c.run_lines.result
    c.in_ok-plain.ensures c.in-Took.ensures.text c.run_lines.ensures.memory

pub returns-clause-text : goal.returns-clause-text
returns-clause-text g c =
    stopped (g.K.Sink.taken c.args.sink.now) (g.K.Sink.taken c.number_line.new.sink) (opened_line 0) (lines_text (new_state c.args.shape) c.args.lines.now) c.in-Failed.ensures.text
