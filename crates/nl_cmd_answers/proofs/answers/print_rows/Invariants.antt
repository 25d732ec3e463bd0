use Rattle.std.proofs.Common.{◌≤◌, flat_map, take}
use Rattle.nl_cmd_answers.specs.Gathering.{WritesFront}
use Rattle.nl_cmd_answers.specs.Rows.{row_line}
use Rattle.nl_cmd_answers.proofs.answers.print_rows.Given as goal

-- the lines so far are written, or wait
abbrev pub invariant-rows : goal.invariant-rows
invariant-rows g l =
    record {
      front : WritesFront (g.K.Sink.taken l.initial.sink) (g.K.Sink.taken l.sink) (flat_map row_line (take l.at l.answers.rows)) l.waiting.text;
      later : g.K.Sink.faults l.initial.sink ≤ g.K.Sink.faults l.sink;
    }
