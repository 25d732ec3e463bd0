-- Texts that grow by one item at a time.
use Rattle.std.proofs.Common.{◌≡◌, ℕ, suc, zero, ◌+◌, ◌∙◌, List, [], ◌∷◌, ◌++◌, refl, sym, ap, arith}
use Rattle.std.specs.Prelude.{flat_map}
use Rattle.std.specs.List.{range_with_len}
use Rattle.std.proofs.lemmas.List.{append-nil, append_assoc}

range_more : (first count : ℕ) → range_with_len first (suc count) ≡ range_with_len first count ++ (first + count) ∷ []
range_more first zero = let e : first ≡ first + 0 = omega arith in ap (λ (n : ℕ). n ∷ []) e
range_more first (suc n) =
    let e : first + 1 + n ≡ first + suc n = omega arith in
    ap (λ (ns : List ℕ). first ∷ ns) (range_more (first + 1) n ∙ ap (λ (m : ℕ). range_with_len (first + 1) n ++ m ∷ []) e)

flat_append : {X Y : Type 0} (f : X → List Y) (xs ys : List X) → flat_map f (xs ++ ys) ≡ flat_map f xs ++ flat_map f ys
flat_append f [] ys = refl
flat_append f (x ∷ xs) ys = ap (λ l. f x ++ l) (flat_append f xs ys) ∙ sym (append_assoc (f x) (flat_map f xs) (flat_map f ys))

-- the texts of the numbers in a row, with that of the next number
pub flat_more : {Y : Type 0} (f : ℕ → List Y) (count : ℕ) → flat_map f (range_with_len 0 (count + 1)) ≡ flat_map f (range_with_len 0 count) ++ f count
flat_more f count =
    let e : 0 + count ≡ count = omega arith in
    let next : count + 1 ≡ suc count = omega arith in
    ap (λ (n : ℕ). flat_map f (range_with_len 0 n)) next
    ∙ ap (flat_map f) (range_more 0 count ∙ ap (λ (m : ℕ). range_with_len 0 count ++ m ∷ []) e)
    ∙ flat_append f (range_with_len 0 count) (count ∷ [])
    ∙ ap (λ l. flat_map f (range_with_len 0 count) ++ l) (append-nil (f count))

-- a text with one more of these
pub text_more : {Y : Type 0} (f : ℕ → List Y) (count : ℕ) (old now next : List Y) → now ≡ old ++ flat_map f (range_with_len 0 count) → next ≡ now ++ f count
    → next ≡ old ++ flat_map f (range_with_len 0 (count + 1))
text_more f count old now next so is =
    is ∙ ap (λ l. l ++ f count) so ∙ append_assoc old (flat_map f (range_with_len 0 count)) (f count) ∙ ap (λ l. old ++ l) (sym (flat_more f count))
