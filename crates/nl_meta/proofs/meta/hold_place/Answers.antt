use Rattle.std.proofs.Common.{◌≡◌, ◌+◌, ap, subst, sym, ◌∙◌, arith, false, get_or, ℕ, Bool}
use Rattle.nl_meta.proofs.Kept.{count-more, count-most}
use Rattle.nl_meta.proofs.meta.hold_place.Goals as goal

pub overflow_add-count : goal.overflow_add-count
overflow_add-count c =
    let absent : get_or c.args.resident.now.items c.args.at false ≡ false = sym (subst (λ (b : Bool). b ≡ get_or c.args.resident.now.items c.args.at b) c.if-not-index.true c.index.ensures) in
    let few = count-most c.args.resident.now.items c.args.at c.requires.below absent in
    let e = c.requires.counted in
    let f = c.requires.fits in
    omega (arith, few, e, f)

pub returns-then-not-index-clause-counted : goal.returns-then-not-index-clause-counted
returns-then-not-index-clause-counted c =
    let absent : get_or c.args.resident.now.items c.args.at false ≡ false = sym (subst (λ (b : Bool). b ≡ get_or c.args.resident.now.items c.args.at b) c.if-not-index.true c.index.ensures) in
    ap (λ (n : ℕ). n + 1) c.requires.counted ∙ sym (count-more c.args.resident.now.items c.args.at c.requires.below absent)
