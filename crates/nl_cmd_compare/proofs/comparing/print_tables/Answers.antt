use Rattle.std.proofs.Common.{◌++◌, ◌∷◌, [], ℕ, codes, subst}
use Rattle.nl_io.proofs.StreamsLaws.{stopped, then_write}
use Rattle.nl_io.specs.Streams.{WritesStream}
use Rattle.nl_io.specs.declared.sink.SinkAnswer.{SinkAnswer}
use Rattle.nl_print.specs.Texts.{field}
use Rattle.nl_cmd_compare.proofs.comparing.print_tables.Goals as goal

pub returns-in-Took-clause-text : goal.returns-in-Took-clause-text
returns-in-Took-clause-text g c =
    let old = g.K.Sink.taken c.args.sink.now in
    let mid = g.K.Sink.taken c.number_line.new.sink in
    let new = g.K.Sink.taken c.number_line-in-Took.new.sink in
    then_write old mid new c.number_line-in-Took.result
    (field (codes "remap most") c.args.numbers.pairs ++ 10 ∷ []) (field (codes "map most") c.args.numbers.entries ++ 10 ∷ [])
    (subst (λ (n : ℕ). WritesStream old mid SinkAnswer.Took (field (codes "remap most") n ++ 10 ∷ [])) c.from.ensures c.in-Took.ensures.text)
    (subst (λ (n : ℕ). WritesStream mid new c.number_line-in-Took.result (field (codes "map most") n ++ 10 ∷ [])) c.from-in-Took.ensures c.number_line-in-Took.ensures.text)

pub returns-in-Failed-clause-text : goal.returns-in-Failed-clause-text
returns-in-Failed-clause-text g c =
    let old = g.K.Sink.taken c.args.sink.now in
    let new = g.K.Sink.taken c.number_line.new.sink in
    stopped old new (field (codes "remap most") c.args.numbers.pairs ++ 10 ∷ []) (field (codes "map most") c.args.numbers.entries ++ 10 ∷ [])
    (subst (λ (n : ℕ). WritesStream old new SinkAnswer.Failed (field (codes "remap most") n ++ 10 ∷ [])) c.from.ensures c.in-Failed.ensures.text)
