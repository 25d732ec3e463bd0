use Rattle.std.proofs.Common.{◌≡◌, ◌≤◌, ◌+◌, ◌-◌, ◌∷◌, ◌++◌, [], List, ℕ, length, take, drop, sym, ap, subst, ◌∙◌, arith}
use Rattle.std.proofs.lemmas.List.{length-append, length-take}
use Rattle.std.specs.List.{AllByRecursion}
use Rattle.nl_field.specs.Numbers.{max_bytes}
use Rattle.nl_cmd_put.specs.Phases.{joined}
use Rattle.nl_cmd_put.proofs.Pieces.{each_more, joined_more, taken_on}
use Rattle.nl_cmd_put.proofs.cutting.cut.Goals as goal

pub cut-preserved : goal.cut-preserved
cut-preserved c =
    let bytes = c.args.bytes.now in
    let from = c.cut.from in
    let to = c.min-to.result in
    let least = c.min-to.ensures in
    let more = c.cut-test.true in
    let piece = c.in_ok-piece.piece in
    let is : piece ≡ take (to - from) (drop from bytes) = c.in_ok-piece.ensures in
    let grown = c.in_ok-push.ensures.items in
    let old = c.cut.pieces.items in
    let few = c.cut.invariant.few in
    let within = c.cut.invariant.within in
    let short : length piece ≤ max_bytes = (let l = ap length is in let t = length-take (to - from) (drop from bytes) in omega (arith, l, t, least)) in
    let same : from + (to - from) ≡ to = omega (arith, least, within) in
    record {
      so_far = ap joined grown ∙ (joined_more old piece ∙ ((λ i. c.cut.invariant.so_far i ++ is i) ∙ (taken_on bytes from (to - from) ∙ (λ i. take (same i) bytes))));
      each = subst (λ (ps : List (List ℕ)). AllByRecursion (λ p. length p ≤ max_bytes) ps) (sym grown) (each_more max_bytes old piece c.cut.invariant.each short);
      few = (let l = ap length grown in let a = length-append old (piece ∷ []) in omega (arith, l, a, few, least, more, within));
      within = omega (arith, least);
    }
