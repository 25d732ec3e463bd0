use Rattle.std.proofs.Common.{◌++◌, ◌∷◌, [], ℕ, codes, subst}
use Rattle.nl_io.proofs.StreamsLaws.{stopped, then_write}
use Rattle.nl_io.specs.Streams.{WritesStream}
use Rattle.nl_io.specs.declared.sink.SinkAnswer.{SinkAnswer}
use Rattle.nl_print.specs.Texts.{field}
use Rattle.nl_cmd_compare.specs.Ends.{tables_text}
use Rattle.nl_cmd_compare.proofs.comparing.print_numbers.Goals as goal

pub returns-in-Took-clause-text : goal.returns-in-Took-clause-text
returns-in-Took-clause-text g c =
    let old = g.K.Sink.taken c.args.sink.now in
    let mid = g.K.Sink.taken c.number_line.new.sink in
    then_write old mid (g.K.Sink.taken c.print_tables.new.sink) c.print_tables.result
    (field (codes "calls") c.args.numbers.calls ++ 10 ∷ []) (tables_text c.args.numbers)
    (subst (λ (n : ℕ). WritesStream old mid SinkAnswer.Took (field (codes "calls") n ++ 10 ∷ [])) c.from.ensures c.in-Took.ensures.text)
    c.print_tables.ensures.text

pub returns-in-Failed-clause-text : goal.returns-in-Failed-clause-text
returns-in-Failed-clause-text g c =
    let old = g.K.Sink.taken c.args.sink.now in
    let new = g.K.Sink.taken c.number_line.new.sink in
    stopped old new (field (codes "calls") c.args.numbers.calls ++ 10 ∷ []) (tables_text c.args.numbers)
    (subst (λ (n : ℕ). WritesStream old new SinkAnswer.Failed (field (codes "calls") n ++ 10 ∷ [])) c.from.ensures c.in-Failed.ensures.text)
