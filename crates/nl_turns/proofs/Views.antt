-- Facts on the list of views, on counts over it, and on functions with one value changed.
use Rattle.std.proofs.Common.{◌≡◌, ◌≢◌, ℕ, zero, suc, ◌+◌, ◌<◌, ◌≤◌, Bool, true, cond, List, [], ◌∷◌, ◌++◌, length, get_or, set, count_by, refl, sym, ap, ◌∙◌, subst, arith, ◌⊎◌, inl, inr, ⊎_elim}
use Rattle.std.specs.Prelude.{Contains}
use Rattle.std.proofs.lemmas.List.Sums.{sum_by-set, sum_by-cons}
use mathlib.Core.Option.{some, some-ne-none, some-injective}
use native.Mathlib.Decide.{ℕ_discrete}
use lib.ListN.{get_elem?}

-- a function with one value changed
abbrev pick : {P X : Type 0} → Dec P → X → X → X
pick (yes _) a b = a
pick (no _) a b = b

pub put : {X : Type 0} → (ℕ → X) → ℕ → X → ℕ → X
put f i c j = pick (ℕ_discrete j i) c (f j)

pub put_here : {X : Type 0} (f : ℕ → X) (i : ℕ) (c : X) → put f i c i ≡ c
unfolding put
put_here {X} f i c = go (ℕ_discrete i i)
  where
    go : (d : Dec (i ≡ i)) → pick d c (f i) ≡ c
    go (yes e) = refl
    go (no n) = absurd (n refl)

pub put_else : {X : Type 0} (f : ℕ → X) (i : ℕ) (c : X) (j : ℕ) → j ≢ i → put f i c j ≡ f j
unfolding put
put_else {X} f i c j other = go (ℕ_discrete j i)
  where
    go : (d : Dec (j ≡ i)) → pick d c (f j) ≡ f j
    go (yes e) = absurd (other e)
    go (no n) = refl

pub at_get : {X : Type 0} (xs : List X) (i : ℕ) (v d : X) → get_elem? xs i ≡ some v → (i < length xs) × (get_or xs i d ≡ v)
at_get [] i v d e = absurd (some-ne-none v (sym e))
at_get (x ∷ xs) zero v d e = (omega arith, some-injective x v e)
at_get (x ∷ xs) (suc i) v d e = let h = at_get xs i v d e in (omega arith, h.1)

-- the count after one element changed
pub count_set : {X : Type 0} (p : X → Bool) (xs : List X) (i : ℕ) (v w : X) → get_elem? xs i ≡ some v → count_by p (set xs i w) + cond (p v) 1 0 ≡ count_by p xs + cond (p w) 1 0
count_set p xs i v w e =
    let h = at_get xs i v v e in
    subst (λ z. count_by p (set xs i w) + cond (p z) 1 0 ≡ count_by p xs + cond (p w) 1 0) h.1 (sum_by-set (λ x. cond (p x) 1 0) xs i w v h.0)

-- an element for which the test is true
pub one_there : {X : Type 0} (p : X → Bool) (xs : List X) (i : ℕ) (x : X) → get_elem? xs i ≡ some x → p x ≡ true → 1 ≤ count_by p xs
one_there p [] i x e so = absurd (some-ne-none x (sym e))
one_there p (z ∷ xs) zero x e so =
    let c = sum_by-cons (λ y. cond {A = ℕ} (p y) 1 0) z xs in
    let here : cond {A = ℕ} (p z) 1 0 ≡ 1 = ap (λ b. cond {A = ℕ} b 1 0) (ap p (some-injective z x e) ∙ so) in
    omega arith
one_there p (z ∷ xs) (suc i) x e so =
    let c = sum_by-cons (λ y. cond {A = ℕ} (p y) 1 0) z xs in
    let h = one_there p xs i x e so in
    omega arith

-- two elements at two places
pub two_there : {X : Type 0} (p : X → Bool) (xs : List X) (i j : ℕ) (x y : X) → i ≢ j → get_elem? xs i ≡ some x → get_elem? xs j ≡ some y → p x ≡ true → p y ≡ true → 2 ≤ count_by p xs
two_there p [] i j x y apart e f a b = absurd (some-ne-none x (sym e))
two_there p (z ∷ xs) zero zero x y apart e f a b = absurd (apart refl)
two_there p (z ∷ xs) zero (suc j) x y apart e f a b =
    let c = sum_by-cons (λ q. cond {A = ℕ} (p q) 1 0) z xs in
    let here : cond {A = ℕ} (p z) 1 0 ≡ 1 = ap (λ q. cond {A = ℕ} q 1 0) (ap p (some-injective z x e) ∙ a) in
    let h = one_there p xs j y f b in
    omega arith
two_there p (z ∷ xs) (suc i) zero x y apart e f a b =
    let c = sum_by-cons (λ q. cond {A = ℕ} (p q) 1 0) z xs in
    let here : cond {A = ℕ} (p z) 1 0 ≡ 1 = ap (λ q. cond {A = ℕ} q 1 0) (ap p (some-injective z y f) ∙ b) in
    let h = one_there p xs i x e a in
    omega arith
two_there p (z ∷ xs) (suc i) (suc j) x y apart e f a b =
    let c = sum_by-cons (λ q. cond {A = ℕ} (p q) 1 0) z xs in
    let h = two_there p xs i j x y (λ k. apart (ap suc k)) e f a b in
    omega arith

-- an element of a list with one more at its end
pub at_end : {A : Type 0} (l : List A) (a b : A) (j : ℕ) → get_elem? (l ++ a ∷ []) j ≡ some b → (get_elem? l j ≡ some b) ⊎ ((j ≡ length l) × (a ≡ b))
at_end [] a b zero e = inr (refl, some-injective a b e)
at_end [] a b (suc j) e = absurd (some-ne-none b (sym e))
at_end (x ∷ xs) a b zero e = inl e
at_end (x ∷ xs) a b (suc j) e = ⊎_elim inl (λ (t : (j ≡ length xs) × (a ≡ b)). inr (ap suc t.0, t.1)) (at_end xs a b j e)

-- an element of a longer list
pub contains_more : (n m : ℕ) (ms : List ℕ) → Contains (m ∷ ms) n → (m ≡ n) ⊎ Contains ms n
contains_more n m ms (zero, below, is) = inl is
contains_more n m ms (suc k, below, is) = inr (k, omega arith, is)
