-- Facts about rising lists: searches, and one item put in or taken away.
use Rattle.std.proofs.Common.{◌≡◌, ℕ, suc, zero, ◌+◌, ◌-◌, ◌<◌, ◌≤◌, ◌⊎◌, inl, inr, ⊎_elim, Bool, true, false, cond, List, [], ◌∷◌, length, get_or, set, insert, remove, refl, sym, ◌∙◌, ap, subst, arith}
use Rattle.std.specs.List.{count_by}
use Rattle.std.proofs.lemmas.List.{get_or_default, length-set, get_or-set_same, get_or-set_other}
use Rattle.std.proofs.lemmas.Bool.{cases_eq, cases_lt, cases_order}
use Rattle.std.proofs.lemmas.List.Sums.{sum_by-cons}
use Rattle.std.proofs.lemmas.List.Edits.{length-insert, length-remove, get_or-insert_below, get_or-insert_at, get_or-insert_above, get_or-remove_below, get_or-remove_above}
use Rattle.nl_callbacks.specs.Lists.{Rises, IsInsertionPoint}

-- what a search by halving keeps: the place lies from `low` to `high`
pub record Halving {X : Type 0} (rank : X → ℕ) (d : X) (xs : List X) (n low high : ℕ) : Type 0 where
  pub rising : Rises rank d xs
  pub ordered : low ≤ high
  pub bound : high ≤ length xs
  pub below : (i : ℕ) → i < low → rank (get_or xs i d) < n
  pub above : (i : ℕ) → high ≤ i → i < length xs → n ≤ rank (get_or xs i d)

pub at_is : {X : Type 0} (d : X) (xs : List X) (at : ℕ) (x : X) → at < length xs → x ≡ get_or xs at x → get_or xs at d ≡ x
at_is d xs at x p e = get_or_default xs at d x p ∙ sym e

-- the steps of a search, by the rank of the item in the middle
pub step_low : {X : Type 0} (rank : X → ℕ) (d : X) (xs : List X) (n low high mid : ℕ) (x : X) → Halving rank d xs n low high → mid < high → x ≡ get_or xs mid x → rank x < n → Halving rank d xs n (mid + 1) high
step_low rank d xs n low high mid x h lt e test =
    let here = ap rank (at_is d xs mid x (omega (arith, h.bound)) e) in
    let less : rank (get_or xs mid d) < n = omega arith in
    record {
      rising = h.rising;
      ordered = omega arith;
      bound = h.bound;
      below = λ i at. ⊎_elim (λ before. let up = h.rising i mid before (omega (arith, h.bound)) in omega arith)
          (λ after. let same : i ≡ mid = omega arith in rw same less) (cases_lt i mid);
      above = h.above;
    }

pub step_high : {X : Type 0} (rank : X → ℕ) (d : X) (xs : List X) (n low high mid : ℕ) (x : X) → Halving rank d xs n low high → low ≤ mid → mid < high → x ≡ get_or xs mid x → n ≤ rank x → Halving rank d xs n low mid
step_high rank d xs n low high mid x h from lt e test =
    let here = ap rank (at_is d xs mid x (omega (arith, h.bound)) e) in
    let more : n ≤ rank (get_or xs mid d) = omega arith in
    record {
      rising = h.rising;
      ordered = from;
      bound = omega (arith, h.bound);
      below = h.below;
      above = λ i at within. ⊎_elim (λ before. let up = h.rising mid i before within in omega arith)
          (λ after. let same : i ≡ mid = omega arith in rw same more) (cases_lt mid i);
    }

-- what stands at a place after an item is put in
pub insert_cases : {X : Type 0} (d : X) (xs : List X) (at : ℕ) (y : X) (i : ℕ) → at ≤ length xs → i < length (insert xs at y)
    → ((i < at) × (get_or (insert xs at y) i d ≡ get_or xs i d)) ⊎ (((i ≡ at) × (get_or (insert xs at y) i d ≡ y)) ⊎ ((at < i) × (i - 1 < length xs) × (get_or (insert xs at y) i d ≡ get_or xs (i - 1) d)))
insert_cases d xs at y i bound within = ⊎_elim
    (λ same. inr (inl (same, rw same (get_or-insert_at xs at y d bound))))
    (λ apart. ⊎_elim
    (λ less. inl (less, get_or-insert_below xs at y d i less bound))
    (λ more.
    let e : i ≡ (i - 1) + 1 = omega arith in
    let here : get_or (insert xs at y) ((i - 1) + 1) d ≡ get_or xs (i - 1) d = get_or-insert_above xs at y d (i - 1) (omega arith) bound in
    inr (inr (more, omega (arith, length-insert xs at y bound), ap (λ k. get_or (insert xs at y) k d) e ∙ here)))
    apart)
    (cases_order i at)

-- what stands at a place after an item is taken away, and where it stood
pub remove_cases : {X : Type 0} (d : X) (xs : List X) (at i : ℕ) → at < length xs → i < length (remove xs at)
    → ((i < at) × (get_or (remove xs at) i d ≡ get_or xs i d)) ⊎ ((at ≤ i) × (get_or (remove xs at) i d ≡ get_or xs (i + 1) d))
remove_cases d xs at i bound within = ⊎_elim
    (λ less. inl (less, get_or-remove_below xs at d i less bound))
    (λ more. inr (more, get_or-remove_above xs at d i more bound))
    (cases_lt i at)

-- an item of the list has the property
abbrev pub SomeAt : {X : Type 0} → (X → Type 0) → X → List X → Type 0
SomeAt P d xs = (i : ℕ) × (i < length xs) × P (get_or xs i d)

pub SomeAt-insert_kept : {X : Type 0} (P : X → Type 0) (d : X) (xs : List X) (at : ℕ) (y : X) → at ≤ length xs → SomeAt P d xs → SomeAt P d (insert xs at y)
SomeAt-insert_kept P d xs at y bound has = ⊎_elim
    (λ before. (has.0, omega (arith, has.1, length-insert xs at y bound), subst P (sym (get_or-insert_below xs at y d has.0 before bound)) has.2))
    (λ after. (has.0 + 1, omega (arith, has.1, length-insert xs at y bound), subst P (sym (get_or-insert_above xs at y d has.0 after bound)) has.2))
    (cases_lt has.0 at)

pub SomeAt-insert_new : {X : Type 0} (P : X → Type 0) (d : X) (xs : List X) (at : ℕ) (y : X) → at ≤ length xs → P y → SomeAt P d (insert xs at y)
SomeAt-insert_new P d xs at y bound here = (at, omega (arith, length-insert xs at y bound), subst P (sym (get_or-insert_at xs at y d bound)) here)

pub SomeAt-insert_back : {X : Type 0} (P : X → Type 0) (d : X) (xs : List X) (at : ℕ) (y : X) → at ≤ length xs → SomeAt P d (insert xs at y) → SomeAt P d xs ⊎ P y
SomeAt-insert_back P d xs at y bound has = ⊎_elim
    (λ before. inl (has.0, omega (arith, before.0, bound), subst P before.1 has.2))
    (λ rest. ⊎_elim
    (λ here. inr (subst P here.1 has.2))
    (λ after. inl (has.0 - 1, after.1, subst P after.2 has.2)) rest)
    (insert_cases d xs at y has.0 bound has.1)

pub SomeAt-remove_back : {X : Type 0} (P : X → Type 0) (d : X) (xs : List X) (at : ℕ) → at < length xs → SomeAt P d (remove xs at)
    → (i : ℕ) × (i < length xs) × (i ≡ at → ⊥) × P (get_or xs i d)
SomeAt-remove_back P d xs at bound has =
    let size = length-remove xs at bound in
    ⊎_elim
    (λ before. (has.0, omega (arith, has.1), (λ same. omega (arith, before.0)), subst P before.1 has.2))
    (λ after. (has.0 + 1, omega (arith, has.1), (λ same. omega (arith, after.0)), subst P after.1 has.2))
    (remove_cases d xs at has.0 bound has.1)

pub SomeAt-remove_kept : {X : Type 0} (P : X → Type 0) (d : X) (xs : List X) (at i : ℕ) → at < length xs → i < length xs → (i ≡ at → ⊥) → P (get_or xs i d) → SomeAt P d (remove xs at)
SomeAt-remove_kept P d xs at i bound within apart is =
    let size = length-remove xs at bound in
    ⊎_elim
    (λ same. absurd (apart same))
    (λ differ. ⊎_elim
    (λ less. (i, omega arith, subst P (sym (get_or-remove_below xs at d i less bound)) is))
    (λ more.
    let e : (i - 1) + 1 ≡ i = omega arith in
    let there : get_or (remove xs at) (i - 1) d ≡ get_or xs i d = get_or-remove_above xs at d (i - 1) (omega arith) bound ∙ ap (λ k. get_or xs k d) e in
    (i - 1, omega arith, subst P (sym there) is)) differ)
    (cases_order i at)

pub Rises-remove : {X : Type 0} (f : X → ℕ) (d : X) (xs : List X) (at : ℕ) → at < length xs → Rises f d xs → Rises f d (remove xs at)
Rises-remove f d xs at bound up i j less within =
    let size = length-remove xs at bound in
    ⊎_elim
    (λ a. let left = ap f a.1 in ⊎_elim
    (λ b. let right = ap f b.1 in let step = up i j less (omega arith) in omega arith)
    (λ b. let right = ap f b.1 in let step = up i (j + 1) (omega arith) (omega arith) in omega arith)
    (remove_cases d xs at j bound within))
    (λ a. let left = ap f a.1 in ⊎_elim
    (λ b. absurd (omega (arith, a.0, b.0)))
    (λ b. let right = ap f b.1 in let step = up (i + 1) (j + 1) (omega arith) (omega arith) in omega arith)
    (remove_cases d xs at j bound within))
    (remove_cases d xs at i bound (omega arith))

pub Rises-insert : {X : Type 0} (f : X → ℕ) (d : X) (xs : List X) (at : ℕ) (y : X) → at ≤ length xs → Rises f d xs
    → ((i : ℕ) → i < at → f (get_or xs i d) < f y) → ((i : ℕ) → at ≤ i → i < length xs → f y < f (get_or xs i d)) → Rises f d (insert xs at y)
Rises-insert f d xs at y bound up below above i j less within =
    let size = length-insert xs at y bound in
    ⊎_elim
    (λ a. let left = ap f a.1 in ⊎_elim
    (λ b. let right = ap f b.1 in let step = up i j less (omega (arith, b.0)) in omega arith)
    (λ rest. ⊎_elim
    (λ b. let right = ap f b.1 in let step = below i a.0 in omega arith)
    (λ b. let right = ap f b.2 in let step = up i (j - 1) (omega (arith, a.0, b.0)) b.1 in omega arith) rest)
    (insert_cases d xs at y j bound within))
    (λ other. ⊎_elim
    (λ a. let left = ap f a.1 in ⊎_elim
    (λ b. absurd (omega (arith, a.0, b.0)))
    (λ rest. ⊎_elim
    (λ b. absurd (omega (arith, a.0, b.0)))
    (λ b. let right = ap f b.2 in let step = above (j - 1) (omega (arith, b.0)) b.1 in omega arith) rest)
    (insert_cases d xs at y j bound within))
    (λ a. let left = ap f a.2 in ⊎_elim
    (λ b. absurd (omega (arith, a.0, b.0)))
    (λ rest. ⊎_elim
    (λ b. absurd (omega (arith, a.0, b.0)))
    (λ b. let right = ap f b.2 in let step = up (i - 1) (j - 1) (omega (arith, a.0, b.0)) b.1 in omega arith) rest)
    (insert_cases d xs at y j bound within)) other)
    (insert_cases d xs at y i bound (omega arith))

-- what holds of each item of a list holds of each that is left, or of one more
pub EachAt-remove : {X : Type 0} (P : X → Type 0) (d : X) (xs : List X) (at : ℕ) → at < length xs → ((i : ℕ) → i < length xs → P (get_or xs i d)) → (i : ℕ) → i < length (remove xs at) → P (get_or (remove xs at) i d)
EachAt-remove P d xs at bound each i within =
    let size = length-remove xs at bound in
    ⊎_elim (λ a. subst P (sym a.1) (each i (omega arith))) (λ a. subst P (sym a.1) (each (i + 1) (omega arith))) (remove_cases d xs at i bound within)

pub EachAt-insert : {X : Type 0} (P : X → Type 0) (d : X) (xs : List X) (at : ℕ) (y : X) → at ≤ length xs → ((i : ℕ) → i < length xs → P (get_or xs i d)) → P y → (i : ℕ) → i < length (insert xs at y) → P (get_or (insert xs at y) i d)
EachAt-insert P d xs at y bound each one i within =
    ⊎_elim (λ a. subst P (sym a.1) (each i (omega (arith, a.0))))
    (λ rest. ⊎_elim (λ a. subst P (sym a.1) one) (λ a. subst P (sym a.2) (each (i - 1) a.1)) rest)
    (insert_cases d xs at y i bound within)

-- one place for each rank
pub once : {X : Type 0} (f : X → ℕ) (d : X) (xs : List X) → Rises f d xs → (i j : ℕ) → i < length xs → j < length xs → f (get_or xs i d) ≡ f (get_or xs j d) → i ≡ j
once f d xs up i j p q same =
    ⊎_elim (λ eq. eq) (λ apart. absurd (⊎_elim (λ less. let step = up i j less q in omega arith) (λ more. let step = up j i more p in omega arith) apart)) (cases_order i j)

-- an item of that rank stands at its place
pub place_has : {X : Type 0} (f : X → ℕ) (d : X) (xs : List X) (n at i : ℕ) → Rises f d xs → IsInsertionPoint f d xs n at → i < length xs → f (get_or xs i d) ≡ n → i ≡ at
place_has f d xs n at i up place within is = ⊎_elim
    (λ same. same)
    (λ apart. absurd (⊎_elim
    (λ less. let low = place.below i less in omega arith)
    (λ more. let step = up at i more within in let high = place.above at (omega arith) (omega arith) in omega arith) apart))
    (cases_order i at)

-- where no item has that rank, those from its place on rank above
pub place_lacks : {X : Type 0} (f : X → ℕ) (d : X) (xs : List X) (n at : ℕ) → IsInsertionPoint f d xs n at → ((i : ℕ) → i < length xs → f (get_or xs i d) ≡ n → ⊥) → (i : ℕ) → at ≤ i → i < length xs → n < f (get_or xs i d)
place_lacks f d xs n at place lacks i from within = ⊎_elim
    (λ same. absurd (lacks i within (sym same)))
    (λ apart. ⊎_elim (λ less. less) (λ more. let high = place.above i from within in absurd (omega arith)) apart)
    (cases_order n (f (get_or xs i d)))

-- an item replaced is taken away and put in at its place
pub insert-remove : {X : Type 0} (xs : List X) (at : ℕ) (y : X) → at < length xs → insert (remove xs at) at y ≡ set xs at y
insert-remove [] at y bound = absurd (omega arith)
insert-remove (x ∷ xs) zero y bound = refl
insert-remove (x ∷ xs) (suc at) y bound = ap (λ l. x ∷ l) (insert-remove xs at y (omega arith))

-- an item replaced by one of its rank
pub Rises-set : {X : Type 0} (f : X → ℕ) (d : X) (xs : List X) (at : ℕ) (y : X) → at < length xs → f y ≡ f (get_or xs at d) → Rises f d xs → Rises f d (set xs at y)
Rises-set f d xs at y bound same up i j less within =
    let size = length-set xs at y in
    let each : (k : ℕ) → f (get_or (set xs at y) k d) ≡ f (get_or xs k d) = λ k. ⊎_elim
    (λ here. ap (λ n. f (get_or (set xs at y) n d)) here ∙ (ap f (get_or-set_same xs at y d bound) ∙ (same ∙ ap (λ n. f (get_or xs n d)) (sym here))))
    (λ apart. ap f (get_or-set_other xs at k y d apart)) (cases_eq k at) in
    let left = each i in
    let right = each j in
    let step = up i j less (omega arith) in
    omega arith

-- how many pass, where those before a place pass and those from there on do not
pub count_place : {X : Type 0} (p : X → Bool) (d : X) (xs : List X) (at : ℕ) → at ≤ length xs → ((i : ℕ) → i < at → p (get_or xs i d) ≡ true)
    → ((i : ℕ) → at ≤ i → i < length xs → p (get_or xs i d) ≡ false) → count_by p xs ≡ at
count_place p d [] at bound below above = omega arith
count_place p d (x ∷ xs) zero bound below above =
    let none : p x ≡ false = above 0 (omega arith) (omega arith) in
    let rest : count_by p xs ≡ 0 = count_place p d xs 0 (omega arith) (λ i less. absurd (omega arith)) (λ i from within. above (suc i) (omega arith) (omega arith)) in
    rw (sum_by-cons (λ l. cond (p l) 1 0) x xs, none) (omega arith)
count_place p d (x ∷ xs) (suc at) bound below above =
    let yes_first : p x ≡ true = below 0 (omega arith) in
    let rest : count_by p xs ≡ at = count_place p d xs at (omega arith) (λ i less. below (suc i) (omega arith)) (λ i from within. above (suc i) (omega arith) (omega arith)) in
    rw (sum_by-cons (λ l. cond (p l) 1 0) x xs, yes_first) (omega arith)
