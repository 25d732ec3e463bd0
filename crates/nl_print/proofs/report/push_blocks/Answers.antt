use Rattle.std.proofs.Common.{ℕ, [], ◌∷◌, ◌++◌, ◌∙◌, ap}
use Rattle.std.specs.Prelude.{codes}
use Rattle.nl_print.specs.Texts.{field}
use Rattle.nl_print.proofs.Fields.{three_parts}
use Rattle.nl_print.proofs.report.push_blocks.Goals as goal

pub returns-clause-text : goal.returns-clause-text
returns-clause-text c =
    let old = c.args.line.now in
    let n1 = c.push_field.new.self in
    let a = codes "blocks virtual" in
    let b = codes " physical" in
    three_parts old n1 c.push_field-2.new.self c.push.new.self (field a c.args.vblocks) (field b c.args.pblocks) (10 ∷ [])
    (c.push_field.ensures.bytes ∙ ap (λ (n : ℕ). old ++ field a n) c.from.ensures)
    (c.push_field-2.ensures.bytes ∙ ap (λ (n : ℕ). n1 ++ field b n) c.from-2.ensures)
    c.push.ensures.bytes
