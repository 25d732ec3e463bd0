-- Members of lists that are filtered, mapped, numbered and searched.
use Rattle.std.proofs.Common.{◌≡◌, ◌⊎◌, inl, inr, ℕ, zero, suc, ◌+◌, ◌<◌, Bool, true, false, cond, ◌||◌, Option, Some, None, List, [], ◌∷◌, length, get_or, filter, filter_map, find, refl, sym, ◌∙◌, ap, subst, arith}
use Rattle.std.specs.List.{enumerate_from, list_any, cons_option}
use Rattle.std.proofs.lemmas.Bool.{cases_Bool, cond-true, cond-false, false≢true}
use Rattle.std.proofs.lemmas.Option.{none-some, same_Some}

abbrev pub In : {A : Type 0} → A → List A → Type 0
In x [] = ⊥
In x (y ∷ ys) = (y ≡ x) ⊎ In x ys

filter_step : {A : Type 0} (p : A → Bool) (x y : A) (ys kept : List A) (b : Bool) → p y ≡ b → (In x kept → In x ys × (p x ≡ true)) → In x (cond b (y ∷ kept) kept) → In x (y ∷ ys) × (p x ≡ true)
filter_step p x y ys kept true e rest (inl same) = (inl same, ap p (sym same) ∙ e)
filter_step p x y ys kept true e rest (inr there) = let r = rest there in (inr r.0, r.1)
filter_step p x y ys kept false e rest there = let r = rest there in (inr r.0, r.1)

pub filter_to : {A : Type 0} (p : A → Bool) (x : A) (xs : List A) → In x (filter p xs) → In x xs × (p x ≡ true)
filter_to p x [] is = absurd is
filter_to p x (y ∷ ys) is = filter_step p x y ys (filter p ys) (p y) refl (filter_to p x ys) is

pub filter_from : {A : Type 0} (p : A → Bool) (x : A) (xs : List A) → In x xs → p x ≡ true → In x (filter p xs)
filter_from p x [] is passes = is
filter_from p x (y ∷ ys) (inl same) passes = subst (In x) (sym (cond-true (p y) (y ∷ filter p ys) (filter p ys) (ap p same ∙ passes))) (inl same)
filter_from p x (y ∷ ys) (inr rest) passes = elim (cases_Bool (p y)) [
  | inl holds ↦ subst (In x) (sym (cond-true (p y) (y ∷ filter p ys) (filter p ys) holds)) (inr (filter_from p x ys rest passes))
  | inr fails ↦ subst (In x) (sym (cond-false (p y) (y ∷ filter p ys) (filter p ys) fails)) (filter_from p x ys rest passes)
]

map_step : {A B : Type 0} (h : A → Option B) (y : B) (x : A) (xs : List A) (kept : List B) (o : Option B) → h x ≡ o → (In y kept → (a : A) × In a xs × (h a ≡ Some y)) → In y (cons_option o kept)
    → (a : A) × In a (x ∷ xs) × (h a ≡ Some y)
map_step h y x xs kept None e rest there = let r = rest there in (r.0, inr r.1, r.2)
map_step h y x xs kept (Some z) e rest (inl same) = (x, inl refl, e ∙ ap (λ w. Some w) same)
map_step h y x xs kept (Some z) e rest (inr there) = let r = rest there in (r.0, inr r.1, r.2)

pub filter_map_to : {A B : Type 0} (h : A → Option B) (y : B) (xs : List A) → In y (filter_map h xs) → (a : A) × In a xs × (h a ≡ Some y)
filter_map_to h y [] is = absurd is
filter_map_to h y (x ∷ xs) is = map_step h y x xs (filter_map h xs) (h x) refl (filter_map_to h y xs) is

more_option : {B : Type 0} (y : B) (o : Option B) (kept : List B) → In y kept → In y (cons_option o kept)
more_option y None kept is = is
more_option y (Some z) kept is = inr is

pub filter_map_from : {A B : Type 0} (h : A → Option B) (a : A) (y : B) (xs : List A) → In a xs → h a ≡ Some y → In y (filter_map h xs)
filter_map_from h a y [] is gives = is
filter_map_from h a y (x ∷ xs) (inl same) gives = subst (λ o. In y (cons_option o (filter_map h xs))) (sym (ap h same ∙ gives)) (inl refl)
filter_map_from h a y (x ∷ xs) (inr rest) gives = more_option y (h x) (filter_map h xs) (filter_map_from h a y xs rest gives)

pub enumerate_to : {A : Type 0} (n : ℕ) (x : ℕ × A) (xs : List A) → In x (enumerate_from n xs) → (k : ℕ) × (x.0 ≡ n + k) × ((d : A) → get_or xs k d ≡ x.1)
enumerate_to n x [] is = absurd is
enumerate_to n x (z ∷ zs) (inl same) = let e = ap (λ q. q.0) same in (0, omega (arith, e), λ d. ap (λ q. q.1) same)
enumerate_to n x (z ∷ zs) (inr rest) = let r = enumerate_to (n + 1) x zs rest in (suc r.0, omega (arith, r.1), r.2)

pub enumerate_from_at : {A : Type 0} (n k : ℕ) (d : A) (xs : List A) → k < length xs → In (n + k, get_or xs k d) (enumerate_from n xs)
enumerate_from_at n k d [] within = absurd (omega (arith, within))
enumerate_from_at n zero d (z ∷ zs) within = let e : n ≡ n + 0 = omega arith in inl (λ i. (e i, z))
enumerate_from_at n (suc k) d (z ∷ zs) within =
    let e : n + 1 + k ≡ n + suc k = omega arith in
    inr (subst (λ m. In (m, get_or zs k d) (enumerate_from (n + 1) zs)) e (enumerate_from_at (n + 1) k d zs (omega (arith, within))))

pub any_from : {A : Type 0} (p : A → Bool) (x : A) (xs : List A) → In x xs → p x ≡ true → list_any p xs ≡ true
any_from p x [] is passes = absurd is
any_from p x (y ∷ ys) (inl same) passes = ap (λ b. b || list_any p ys) (ap p same ∙ passes)
any_from p x (y ∷ ys) (inr rest) passes = elim (cases_Bool (p y)) [
  | inl holds ↦ ap (λ b. b || list_any p ys) holds
  | inr fails ↦ ap (λ b. b || list_any p ys) fails ∙ any_from p x ys rest passes
]

any_step : {A : Type 0} (p : A → Bool) (y : A) (ys : List A) (b : Bool) → p y ≡ b → (list_any p ys ≡ true → (x : A) × In x ys × (p x ≡ true)) → (b || list_any p ys) ≡ true → (x : A) × In x (y ∷ ys) × (p x ≡ true)
any_step p y ys true e rest any = (y, inl refl, e)
any_step p y ys false e rest any = let r = rest any in (r.0, inr r.1, r.2)

pub any_to : {A : Type 0} (p : A → Bool) (xs : List A) → list_any p xs ≡ true → (x : A) × In x xs × (p x ≡ true)
any_to p [] any = absurd (false≢true any)
any_to p (y ∷ ys) any = any_step p y ys (p y) refl (any_to p ys) any

find_step : {A : Type 0} (x y : A) (ys : List A) (o : Option A) (b : Bool) → (o ≡ Some x → In x ys) → cond b (Some y) o ≡ Some x → In x (y ∷ ys)
find_step x y ys o true rest is = inl (same_Some y x is)
find_step x y ys o false rest is = inr (rest is)

pub find_in : {A : Type 0} (p : A → Bool) (x : A) (xs : List A) → find p xs ≡ Some x → In x xs
find_in p x [] is = absurd (none-some x is)
find_in p x (y ∷ ys) is = find_step x y ys (find p ys) (p y) (find_in p x ys) is
