use Rattle.std.proofs.Common.{flat_map}
use Rattle.nl_print.specs.Texts.{opened_line}
use Rattle.nl_io.proofs.StreamsLaws.{stopped, then_write}
use Rattle.nl_cmd_answers.specs.Rows.{row_line}
use Rattle.nl_cmd_answers.proofs.answers.print_answers.Goals as goal

pub returns-in-Took-clause-text : goal.returns-in-Took-clause-text
returns-in-Took-clause-text g c =
    then_write (g.K.Sink.taken c.args.sink.now) (g.K.Sink.taken c.number_line.new.sink) (g.K.Sink.taken c.print_rows.new.sink) c.print_rows.result (opened_line c.args.count)
    (flat_map row_line c.args.answers.now.rows) c.in-Took.ensures.text c.print_rows.ensures.text

pub returns-in-Failed-clause-text : goal.returns-in-Failed-clause-text
returns-in-Failed-clause-text g c =
    stopped (g.K.Sink.taken c.args.sink.now) (g.K.Sink.taken c.number_line.new.sink) (opened_line c.args.count) (flat_map row_line c.args.answers.now.rows) c.in-Failed.ensures.text
