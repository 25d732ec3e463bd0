-- In lines with rising numbers each is found by its number.
use Rattle.std.proofs.Common.{◌≡◌, ℕ, zero, suc, ◌<◌, Bool, cond, List, [], ◌∷◌, length, Some, ap, ◌∙◌, subst, arith, ne_eqb, eq-eqb}
use Rattle.std.specs.Prelude.{AllPairs, slice_get, slice_index_or}
use Rattle.nl_tree.specs.declared.call.Line.{Line}
use Rattle.nl_turns.specs.History.{line_at}

-- the line at an index
pub get_at : (xs : List Line) (i : ℕ) (l d : Line) → slice_get xs i ≡ Some l → (i < length xs) × (slice_index_or xs i d ≡ l)
get_at [] i l d e = absurd (cc e)
get_at (x ∷ xs) zero l d e = (omega arith, cc e)
get_at (x ∷ xs) (suc i) l d e = let h = get_at xs i l d e in (omega arith, h.1)

pub line_found : (lines : List Line) (i : ℕ) (l : Line) → AllPairs (λ a b. a.line < b.line) lines → slice_get lines i ≡ Some l → line_at lines l.line ≡ Some l
line_found [] i l rising e = absurd (cc e)
line_found (x ∷ xs) zero l rising e =
    let is : x ≡ l = cc e in
    ap (λ (b : Bool). cond b (Some x) (line_at xs l.line)) (eq-eqb x.line l.line (ap (λ (z : Line). z.line) is)) ∙ ap Some is
line_found (x ∷ xs) (suc i) l rising e =
    let at = get_at xs i l l e in
    let below : x.line < l.line = subst (λ (z : Line). x.line < z.line) at.1 (rising 0 (suc i) l (omega arith) (omega arith)) in
    ap (λ (b : Bool). cond b (Some x) (line_at xs l.line)) (ne_eqb x.line l.line (λ same. omega arith))
    ∙ line_found xs i l (λ j k d lt up. rising (suc j) (suc k) d (omega arith) (omega arith)) e
