use Rattle.std.proofs.Common.{◌≡◌, ℕ, List, [], ◌∷◌, ◌++◌, subst, sym, ◌∙◌, ap, append_assoc, arith}
use Rattle.std.specs.Prelude.{codes}
use Rattle.std.proofs.lemmas.Grind.{common_steps}
use Rattle.nl_io.specs.Streams.{WritesStream}
use Rattle.nl_io.specs.declared.sink.SinkAnswer.TheVariants as sink
use Rattle.nl_print.specs.Texts.{then_number, refused_text}
use Rattle.nl_io.proofs.StreamsLaws.{then_write, stopped}
use Rattle.nl_print.proofs.status.refused_line.Goals as goal

whole : (front why : List ℕ) (line column : ℕ) → front ≡ codes "script" ++ then_number line ++ then_number column ++ 32 ∷ [] → front ++ (why ++ 10 ∷ []) ≡ refused_text line column why
whole front why line column is =
    ap (λ (f : List ℕ). f ++ (why ++ 10 ∷ [])) is ∙ append_assoc (codes "script" ++ then_number line ++ then_number column) (32 ∷ []) (why ++ 10 ∷ [])
    ∙ sym (append_assoc (codes "script" ++ then_number line ++ then_number column) (32 ∷ why) (10 ∷ []))

pub returns-in-Failed-clause-text : goal.returns-in-Failed-clause-text
returns-in-Failed-clause-text g c =
    let front : c.bytes-2.result.now ≡ codes "script" ++ then_number c.args.line ++ then_number c.args.column ++ 32 ∷ [] = grind (arith, common_steps) in
    let rest = c.args.why.now ++ 10 ∷ [] in
    subst (λ (t : List ℕ). WritesStream (g.K.Sink.taken c.args.sink.now) (g.K.Sink.taken c.write-2.new.self) sink.Failed t)
    (whole c.bytes-2.result.now c.args.why.now c.args.line c.args.column front)
    (stopped _ _ c.bytes-2.result.now rest c.in-Failed.ensures.bytes)

pub returns-clause-text : goal.returns-clause-text
returns-clause-text g c =
    let front : c.bytes-2.result.now ≡ codes "script" ++ then_number c.args.line ++ then_number c.args.column ++ 32 ∷ [] = grind (arith, common_steps) in
    let rest = c.args.why.now ++ 10 ∷ [] in
    subst (λ (t : List ℕ). WritesStream (g.K.Sink.taken c.args.sink.now) (g.K.Sink.taken c.word_line.new.sink) c.word_line.result t)
    (whole c.bytes-2.result.now c.args.why.now c.args.line c.args.column front)
    (then_write _ (g.K.Sink.taken c.write-2.new.self) _ _ c.bytes-2.result.now rest c.in-Took.ensures.bytes c.word_line.ensures.text)
