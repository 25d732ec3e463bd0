use Rattle.std.proofs.Common.{ℕ, List, [], ◌∷◌, ◌++◌, ◌∙◌, ap, subst}
use Rattle.std.specs.Prelude.{codes}
use Rattle.nl_io.specs.Streams.{WritesStream}
use Rattle.nl_print.specs.Texts.{field}
use Rattle.nl_print.proofs.Fields.{six_from_none}
use Rattle.nl_print.proofs.report.formatted_line.Goals as goal

pub returns-clause-text : goal.returns-clause-text
returns-clause-text g c =
    let shape = c.args.shape.now in
    let n0 = c.new-line.result in
    let n1 = c.push_field.new.self in
    let n2 = c.push_field-2.new.self in
    let n3 = c.push_field-3.new.self in
    let n4 = c.push_field-4.new.self in
    let n5 = c.push_field-5.new.self in
    let a = codes "formatted blocks" in
    let b = codes " pages" in
    let d = codes " data" in
    let e = codes " nodes" in
    let f = codes " meta" in
    let text = six_from_none n0 n1 n2 n3 n4 n5 c.push.new.self (field a shape.blocks) (field b shape.pages) (field d shape.cap) (field e shape.nodes) (field f shape.meta) (10 ∷ [])
    c.new-line.ensures
    (c.push_field.ensures.bytes ∙ ap (λ (n : ℕ). n0 ++ field a n) c.from.ensures)
    (c.push_field-2.ensures.bytes ∙ ap (λ (n : ℕ). n1 ++ field b n) c.from-2.ensures)
    (c.push_field-3.ensures.bytes ∙ ap (λ (n : ℕ). n2 ++ field d n) c.from-3.ensures)
    (c.push_field-4.ensures.bytes ∙ ap (λ (n : ℕ). n3 ++ field e n) c.from-4.ensures)
    (c.push_field-5.ensures.bytes ∙ ap (λ (n : ℕ). n4 ++ field f n) c.from-5.ensures)
    c.push.ensures.bytes in
    subst (λ (t : List ℕ). WritesStream (g.K.Sink.taken c.args.sink.now) (g.K.Sink.taken c.write.new.self) c.write.result t) (c.bytes.ensures ∙ text) c.write.ensures.bytes
