use Rattle.std.proofs.Common.{◌≡◌, ℕ, List, [], ◌∷◌, ◌++◌, ◌∙◌, ap, refl}
use Rattle.std.specs.Prelude.{codes}
use Rattle.nl_print.specs.Texts.{share}
use Rattle.nl_print.proofs.Fields.{four_parts}
use Rattle.nl_print.proofs.report.push_pages.Goals as goal

with_share : (old word : List ℕ) (n m p q : ℕ) → n ≡ p → m ≡ q → old ++ share word n m ≡ old ++ share word p q
with_share old word n m p q e f = ap (λ (k : ℕ). old ++ share word k m) e ∙ ap (λ (k : ℕ). old ++ share word p k) f

pub returns-clause-text : goal.returns-clause-text
returns-clause-text c =
    let shape = c.args.shape.now in
    let old = c.args.line.now in
    let n1 = c.push_share.new.self in
    let n2 = c.push_share-2.new.self in
    let n3 = c.push_share-3.new.self in
    let w1 = codes "pages data" in
    let w2 = codes " nodes" in
    let w3 = codes " meta" in
    four_parts old n1 n2 n3 c.push.new.self (share w1 c.args.data shape.cap) (share w2 c.args.nodes shape.nodes) (share w3 c.args.meta shape.meta) (10 ∷ [])
    (c.push_share.ensures.bytes ∙ with_share old w1 _ _ _ _ refl c.from.ensures)
    (c.push_share-2.ensures.bytes ∙ with_share n1 w2 _ _ _ _ c.from-2.ensures c.from-3.ensures)
    (c.push_share-3.ensures.bytes ∙ with_share n2 w3 _ _ _ _ c.from-4.ensures c.from-5.ensures)
    c.push.ensures.bytes
