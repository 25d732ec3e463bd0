-- Where the zeros at the end of some bytes begin.
use Rattle.std.proofs.Common.{◌≡◌, ◌⊎◌, inl, inr, ℕ, zero, suc, ◌+◌, ◌-◌, ◌<◌, ◌≤◌, ◌==◌, ◌&&◌, if◌then◌else◌, List, [], ◌∷◌, ◌++◌, length, take, get_or, refl, sym, ◌∙◌, ap, arith, ⊎_elim}
use Rattle.std.proofs.lemmas.Bool.{ne_eqb}
use Rattle.std.proofs.lemmas.List.{take_more, length-take-le}
use Rattle.nl_field.specs.Scan.{zeros_from}

push_zero : (xs : List ℕ) → zeros_from (xs ++ 0 ∷ []) ≡ zeros_from xs
unfolding zeros_from
push_zero [] = refl
push_zero (x ∷ xs) = ap (λ (later : ℕ). if later == 0 && x == 0 then 0 else later + 1) (push_zero xs)

push_other : (xs : List ℕ) (b : ℕ) → (b ≡ 0 → ⊥) → zeros_from (xs ++ b ∷ []) ≡ length xs + 1
unfolding zeros_from
push_other [] b other = λ i. if ne_eqb b 0 other i then 0 else 0 + 1
push_other (x ∷ xs) b other =
    ap (λ (later : ℕ). if later == 0 && x == 0 then 0 else later + 1) (push_other xs b other)
    ∙ (λ i. if ne_eqb (length xs + 1) 0 (λ e. omega arith) i && x == 0 then 0 else length xs + 1 + 1)
    ∙ omega arith

one_less : (bytes : List ℕ) (end : ℕ) → 0 < end → end ≤ length bytes → take end bytes ≡ take (end - 1) bytes ++ get_or bytes (end - 1) 0 ∷ []
one_less bytes end some within = ap (λ (n : ℕ). take n bytes) (omega arith) ∙ take_more bytes (end - 1) 0 (omega arith)

-- one more zero at the end
pub zero_before : (bytes : List ℕ) (end : ℕ) → 0 < end → end ≤ length bytes → get_or bytes (end - 1) 0 ≡ 0 → zeros_from (take (end - 1) bytes) ≡ zeros_from (take end bytes)
zero_before bytes end some within is =
    sym (ap zeros_from (one_less bytes end some within ∙ ap (λ (b : ℕ). take (end - 1) bytes ++ b ∷ []) is) ∙ push_zero (take (end - 1) bytes))

none_left : (bytes : List ℕ) → zeros_from (take 0 bytes) ≡ 0
unfolding zeros_from
none_left bytes = refl

-- the zeros at the end begin where no byte stands before, or one that is not zero
pub ends_there : (bytes : List ℕ) (end : ℕ) → end ≤ length bytes → (end ≡ 0) ⊎ (get_or bytes (end - 1) 0 ≡ 0 → ⊥) → zeros_from (take end bytes) ≡ end
ends_there bytes end within why =
    ⊎_elim
    (λ none. ap (λ (n : ℕ). zeros_from (take n bytes)) none ∙ none_left bytes ∙ sym none)
    (λ other. ⊎_elim
    (λ none. ap (λ (n : ℕ). zeros_from (take n bytes)) none ∙ none_left bytes ∙ sym none)
    (λ some.
    ap zeros_from (one_less bytes end some within) ∙ push_other (take (end - 1) bytes) (get_or bytes (end - 1) 0) other
    ∙ omega (arith, length-take-le (end - 1) bytes (omega arith)))
    (zero_or_more end))
    why
  where
    zero_or_more : (n : ℕ) → (n ≡ 0) ⊎ (0 < n)
    zero_or_more zero = inl refl
    zero_or_more (suc n) = inr (omega arith)
