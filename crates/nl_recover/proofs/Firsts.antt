-- The first element that passes a test, as a loop comes to it.
use Rattle.std.proofs.Common.{◌≡◌, ℕ, zero, suc, ◌+◌, ◌≤◌, ◌<◌, Bool, true, false, ◌&&◌, cond, List, [], ◌∷◌, find, filter, take, refl, sym, ap, ◌∙◌, Some, None, inl, inr, ◌⊎◌, arith, add-one}
use Rattle.std.proofs.lemmas.Bool.{cases_eq, cond-false, cond-true}
use Rattle.std.specs.List.{range_with_len, slice_get}
use Rattle.nl_meta.proofs.Lists.{none-find, member-range, none_some, some_in}

-- ---- numbers of a range

pub first_from : (t : ℕ → Bool) (n a i : ℕ) → a ≤ i → i < a + n → ((k : ℕ) → a ≤ k → k < i → t k ≡ false) → t i ≡ true → find t (range_with_len a n) ≡ Some i
first_from t zero a i low high none here = absurd (no low high)
  where
    no : a ≤ i → i < a + 0 → ⊥
    no low high = omega arith
first_from t (suc n) a i low high none here = by (λ h. first_from t n (a + 1) i h (inside h) (λ k f g. none k (omega (arith, f)) g) here) (cases_eq a i)
  where
    at : a ≡ i → cond (t a) (Some a) (find t (range_with_len (a + 1) n)) ≡ Some i
    at e = cond-true (t a) (Some a) _ (ap t e ∙ here) ∙ ap (λ (k : ℕ). Some k) e

    later : (a ≡ i → ⊥) → a + 1 ≤ i
    later far = omega (arith, low, far)

    inside : a + 1 ≤ i → i < (a + 1) + n
    inside _ = omega (arith, high)

    below : a + 1 ≤ i → a < i
    below h = omega arith

    past : a + 1 ≤ i → find t (range_with_len (a + 1) n) ≡ Some i → cond (t a) (Some a) (find t (range_with_len (a + 1) n)) ≡ Some i
    past h rest = cond-false (t a) (Some a) _ (none a (omega arith) (below h)) ∙ rest

    by : (a + 1 ≤ i → find t (range_with_len (a + 1) n) ≡ Some i) → (a ≡ i) ⊎ (a ≡ i → ⊥) → cond (t a) (Some a) (find t (range_with_len (a + 1) n)) ≡ Some i
    by rest (inl e) = at e
    by rest (inr far) = let h = later far in past h (rest h)

pub first_in_range : (t : ℕ → Bool) (n i : ℕ) → i < n → ((k : ℕ) → k < i → t k ≡ false) → t i ≡ true → find t (range_with_len 0 n) ≡ Some i
first_in_range t n i high none here = first_from t n 0 i (omega arith) (omega (arith, high)) (λ k _ g. none k g) here

pub none_in_range : (t : ℕ → Bool) (n : ℕ) → ((k : ℕ) → k < n → t k ≡ false) → find t (range_with_len 0 n) ≡ None
none_in_range t n none = none-find t (range_with_len 0 n) (λ k m. none k (omega (arith, (member-range k 0 n m).1)))

-- ---- elements of a list

pub find-filter : {X : Type 0} (t u : X → Bool) (xs : List X) → find t (filter u xs) ≡ find (λ x. u x && t x) xs
find-filter t u [] = refl
find-filter {X} t u (x ∷ xs) =
    elim (u x) as (λ b. find t (cond b (x ∷ filter u xs) (filter u xs)) ≡ cond (b && t x) (Some x) (find (λ x. u x && t x) xs)) [
      | true ↦ ap (λ o. cond (t x) (Some x) o) (find-filter t u xs)
      | false ↦ find-filter t u xs
    ]

pub first_at : {X : Type 0} (t : X → Bool) (xs : List X) (i : ℕ) (x : X) → slice_get xs i ≡ Some x → find t (take i xs) ≡ None → t x ≡ true → find t xs ≡ Some x
first_at t [] i x at none here = absurd (none_some x at)
first_at t (y ∷ xs) zero x at none here = cond-true (t y) (Some y) (find t xs) (ap t (some_in y x at) ∙ here) ∙ at
first_at t (y ∷ xs) (suc i) x at none here =
    elim (t y) as (λ b. cond b (Some y) (find t (take i xs)) ≡ None → cond b (Some y) (find t xs) ≡ Some x) [
      | true ↦ λ e. absurd (none_some y (sym e))
      | false ↦ λ e. first_at t xs i x at e here
    ] none

none_next : {X : Type 0} (t : X → Bool) (xs : List X) (i : ℕ) (x : X) → slice_get xs i ≡ Some x → find t (take i xs) ≡ None → t x ≡ false → find t (take (suc i) xs) ≡ None
none_next t [] i x at none here = refl
none_next t (y ∷ xs) zero x at none here = cond-false (t y) (Some y) None (ap t (some_in y x at) ∙ here)
none_next t (y ∷ xs) (suc i) x at none here =
    elim (t y) as (λ b. cond b (Some y) (find t (take i xs)) ≡ None → cond b (Some y) (find t (take (suc i) xs)) ≡ None) [
      | true ↦ λ e. absurd (none_some y (sym e))
      | false ↦ λ e. none_next t xs i x at e here
    ] none

pub none_more : {X : Type 0} (t : X → Bool) (xs : List X) (i : ℕ) (x : X) → slice_get xs i ≡ Some x → find t (take i xs) ≡ None → t x ≡ false → find t (take (i + 1) xs) ≡ None
none_more t xs i x at none here = ap (λ (n : ℕ). find t (take n xs)) (add-one i) ∙ none_next t xs i x at none here
