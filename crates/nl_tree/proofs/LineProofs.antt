-- In lines with rising numbers each is found by its number.
use Rattle.std.proofs.Common.{◌≡◌, ◌==◌, ℕ, zero, suc, ◌<◌, Bool, cond, List, [], ◌∷◌, length, get_or, Some, sym, ap, ◌∙◌, subst, arith, ne_eqb, eq-eqb, ◌++◌, ◌+◌, ◌≤◌, ◌^◌, length-append, All}
use Rattle.std.proofs.lemmas.List.Elements.{All-push}
use Rattle.std.proofs.lemmas.List.Quantifiers.{all_pairs_push}
use Rattle.std.specs.Prelude.{AllPairs, find}
use Rattle.nl_tree.specs.Calls.{AreLines, IsLine}
use Rattle.nl_tree.specs.declared.call.Line.{Line}

found : (lines : List Line) (i : ℕ) (l : Line) → AllPairs (λ a b. a.line < b.line) lines → i < length lines → l ≡ get_or lines i l → find (λ x. x.line == l.line) lines ≡ Some l
found [] i l rising within is = absurd (omega arith)
found (x ∷ xs) zero l rising within is =
    ap (λ (b : Bool). cond b (Some x) (find (λ y. y.line == l.line) xs)) (eq-eqb x.line l.line (ap (λ (z : Line). z.line) (sym is))) ∙ ap Some (sym is)
found (x ∷ xs) (suc i) l rising within is =
    let below : x.line < l.line = subst (λ (z : Line). x.line < z.line) (sym is) (rising 0 (suc i) l (omega arith) within) in
    ap (λ (b : Bool). cond b (Some x) (find (λ y. y.line == l.line) xs)) (ne_eqb x.line l.line (λ same. omega arith))
    ∙ found xs i l (λ j k d lt up. rising (suc j) (suc k) d (omega arith) (omega arith)) (omega arith) is

pub line_found : (lines : List Line) (i : ℕ) (l : Line) → AreLines lines → i < length lines → l ≡ get_or lines i l → find (λ x. x.line == l.line) lines ≡ Some l
line_found lines i l are within is = found lines i l (λ j k d lt up. (are.rising j k d lt up).0) within is

-- a line behind others, of a number above theirs and no earlier round
pub lines_push : (lines next : List Line) (line : Line) → next ≡ lines ++ line ∷ [] → length lines + 1 < 2 ^ 32 → IsLine line
    → All (λ l. (l.line < line.line) × (l.round ≤ line.round)) lines → AreLines lines → (length next < 2 ^ 32) × AreLines next
lines_push lines next line grown room is later are =
    subst (λ (ls : List Line). (length ls < 2 ^ 32) × AreLines ls) (sym grown) (
      subst (λ (n : ℕ). n < 2 ^ 32) (sym (length-append lines (line ∷ []))) room,
      record {
        each = All-push IsLine lines line are.each is;
        rising = all_pairs_push (λ a b. (a.line < b.line) × (a.round ≤ b.round)) lines line are.rising later;
      },
    )
