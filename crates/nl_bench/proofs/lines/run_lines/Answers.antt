use Rattle.std.proofs.Common.{arith, le_trans, subst, ap, sym, ◌≡◌, ◌+◌}
use Rattle.nl_io.specs.Streams.{WritesStream}
use Rattle.nl_io.specs.declared.sink.SinkAnswer.{SinkAnswer}
use Rattle.nl_print.specs.Texts.{answer_line}
use Rattle.nl_tree_model.specs.PlainTree.{PlainState}
use Rattle.nl_bench.specs.Played.{answered_by, lines_text}
use Rattle.nl_bench.proofs.Texts.{failed_in, left_off, on_err, ran_one}
use Rattle.nl_bench.proofs.lines.run_lines.Goals as goal

pub returns-in_err-run_line-clause-memory : goal.returns-in_err-run_line-clause-memory
returns-in_err-run_line-clause-memory g c =
    let whole = lines_text c.args.plain.now c.args.lines.now in
    let before = left_off (g.K.Sink.taken c.args.sink.now) (g.K.Sink.taken c.lines.sink) c.lines.plain c.args.lines.now c.lines.at whole c.lines.invariant.told in
    on_err c.from_residual.result (subst (λ s. WritesStream (g.K.Sink.taken c.args.sink.now) (g.K.Sink.taken s) SinkAnswer.Failed whole) (sym c.in_err-run_line.ensures.untouched) before)

pub returns-in-Failed-clause-text : goal.returns-in-Failed-clause-text
returns-in-Failed-clause-text g c =
    let line = c.get.result.now in
    let place = c.from.result + 1 in
    let old = g.K.Sink.taken c.args.sink.now in
    let mid = g.K.Sink.taken c.lines.sink in
    let new = g.K.Sink.taken c.run_line.new.sink in
    let there : place ≡ c.lines.plain.calls + 1 = omega (arith, c.lines.invariant.calls, c.from.ensures) in
    let text = subst (λ (a : SinkAnswer). WritesStream mid new a (answer_line place (answered_by c.lines.plain line))) c.in-Failed.is c.in_ok-run_line.ensures.text in
    failed_in old mid new c.lines.plain c.args.lines.now c.lines.at place line (lines_text c.args.plain.now c.args.lines.now) c.lines.invariant.told c.get.ensures.line there text

pub lines-preserved : goal.lines-preserved
lines-preserved g c =
    let line = c.get.result.now in
    let place = c.from.result + 1 in
    let old = g.K.Sink.taken c.args.sink.now in
    let mid = g.K.Sink.taken c.lines.sink in
    let new = g.K.Sink.taken c.run_line.new.sink in
    let there : place ≡ c.lines.plain.calls + 1 = omega (arith, c.lines.invariant.calls, c.from.ensures) in
    let text = subst (λ (a : SinkAnswer). WritesStream mid new a (answer_line place (answered_by c.lines.plain line))) c.in-Took.is c.in_ok-run_line.ensures.text in
    record {
      told = ran_one old mid new c.lines.plain c.run_line.new.plain c.args.lines.now c.lines.at place line (lines_text c.args.plain.now c.args.lines.now) c.lines.invariant.told c.get.ensures.line there
          c.in_ok-run_line.ensures.after text;
      calls = omega (arith, c.lines.invariant.calls, ap (λ (s : PlainState). s.calls) c.in_ok-run_line.ensures.after);
      later = le_trans c.lines.invariant.later c.run_line.ensures.never_falls;
    }
