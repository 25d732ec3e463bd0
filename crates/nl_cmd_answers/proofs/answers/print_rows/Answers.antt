use Rattle.std.proofs.Common.{le_trans, refl, [], arith}
use Rattle.nl_cmd_answers.proofs.Gathering.{failed_lines, last_lines, one_line}
use Rattle.nl_cmd_answers.proofs.Texts.{took_nothing}
use Rattle.nl_cmd_answers.proofs.answers.print_rows.Goals as goal

pub rows-init : goal.rows-init
rows-init g c =
    record {
      front = ([], c.new-waiting.ensures, took_nothing (g.K.Sink.taken c.args.sink.now));
      later = omega arith;
    }

pub rows-preserved : goal.rows-preserved
rows-preserved g c =
    let rows = c.args.answers.now.rows in
    record {
      front = one_line (g.K.Sink.taken c.args.sink.now) (g.K.Sink.taken c.rows.sink) (g.K.Sink.taken c.print_next.new.sink) rows c.rows.at (omega (arith, c.rows-test.true, c.len-at-end.ensures))
          c.rows.waiting.text c.print_next.new.waiting.text c.rows.invariant.front (c.in-Took.ensures.took refl);
      later = le_trans c.rows.invariant.later c.print_next.ensures.never_falls;
    }

pub returns-in-Failed-clause-text : goal.returns-in-Failed-clause-text
returns-in-Failed-clause-text g c =
    let rows = c.args.answers.now.rows in
    failed_lines (g.K.Sink.taken c.args.sink.now) (g.K.Sink.taken c.rows.sink) (g.K.Sink.taken c.print_next.new.sink) rows c.rows.at (omega (arith, c.rows-test.true, c.len-at-end.ensures))
    c.rows.waiting.text c.rows.invariant.front (c.in-Failed.ensures.failed refl)

pub returns-clause-text : goal.returns-clause-text
returns-clause-text g c =
    let rows = c.args.answers.now.rows in
    last_lines (g.K.Sink.taken c.args.sink.now) (g.K.Sink.taken c.rows.sink) (g.K.Sink.taken c.hand_on.new.sink) c.hand_on.result rows c.rows.at (omega (arith, c.rows-test.false, c.len-at-end.ensures))
    c.rows.waiting.text c.rows.invariant.front c.hand_on.ensures.text
