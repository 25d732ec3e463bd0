-- Facts about rising lists of links: searches, and one link put in or taken away.
use Rattle.std.proofs.Common.{◌≡◌, ℕ, suc, zero, ◌+◌, ◌-◌, ◌^◌, ◌<◌, ◌≤◌, ◌⊎◌, inl, inr, ⊎_elim, Bool, true, false, cond, ltb, List, [], ◌∷◌, length, get_or, set, insert, remove, refl, sym, ◌∙◌, ap, subst, arith}
use Rattle.std.specs.List.{count_by}
use Rattle.std.proofs.lemmas.List.{get_or_default}
use borrow.Author.Tests.{ltb-true}
use Rattle.std.proofs.lemmas.Bool.{cases_lt, cases_order}
use Rattle.std.proofs.lemmas.List.Sums.{sum_by-cons}
use Rattle.std.proofs.lemmas.List.Edits.{length-insert, length-remove, get_or-insert_below, get_or-insert_at, get_or-insert_above, get_or-remove_below, get_or-remove_above}
use Rattle.nl_remap.specs.declared.links.Link.{Link}
use Rattle.nl_remap.specs.Links.{no_link, link_at, HasLink, rank, IsRising, IsLinkInsertionPoint}

-- what a search by halving keeps: the place lies from `low` to `high`
pub record Halving (xs : List Link) (n low high : ℕ) : Type 0 where
  pub rising : IsRising xs
  pub ordered : low ≤ high
  pub bound : high ≤ length xs
  pub below : (i : ℕ) → i < low → rank (link_at xs i) < n
  pub above : (i : ℕ) → high ≤ i → i < length xs → n ≤ rank (link_at xs i)

pub halve_low : (xs : List Link) (n low high mid : ℕ) → Halving xs n low high → mid < high → rank (link_at xs mid) < n → Halving xs n (mid + 1) high
halve_low xs n low high mid h lt less = record {
  rising = h.rising;
  ordered = omega arith;
  bound = h.bound;
  below = λ i at. ⊎_elim (λ before. let up = h.rising.order i mid before (omega (arith, h.bound)) in omega arith)
      (λ here. let same : i ≡ mid = omega arith in rw same less) (cases_lt i mid);
  above = h.above;
}

pub at_is : (xs : List Link) (at : ℕ) (x : Link) → at < length xs → x ≡ get_or xs at x → link_at xs at ≡ x
at_is xs at x p e = get_or_default xs at no_link x p ∙ sym e

-- the step of a search, by the test of the link in the middle
pub step_low : (xs : List Link) (n low high mid : ℕ) (x : Link) (b : Bool) → Halving xs n low high → mid < high → x ≡ get_or xs mid x → b ≡ ltb (rank x) n → b ≡ true → Halving xs n (mid + 1) high
step_low xs n low high mid x b h lt e test yes_so =
    halve_low xs n low high mid h lt (rw (at_is xs mid x (omega (arith, h.bound)) e) (ltb-true (rank x) n (sym test ∙ yes_so)))

pub halve_high : (xs : List Link) (n low high mid : ℕ) → Halving xs n low high → low ≤ mid → mid < high → n ≤ rank (link_at xs mid) → Halving xs n low mid
halve_high xs n low high mid h from lt more = record {
  rising = h.rising;
  ordered = from;
  bound = omega (arith, h.bound);
  below = h.below;
  above = λ i at within. ⊎_elim (λ before. let up = h.rising.order mid i before within in omega arith)
      (λ here. let same : i ≡ mid = omega arith in rw same more) (cases_lt mid i);
}

-- a link by its numbers
pub same_link : (x y : Link) → x.from ≡ y.from → x.to ≡ y.to → x ≡ y
same_link x y e f = ap (λ (n : ℕ). record { from = n; to = x.to }) e ∙ ap (λ (n : ℕ). record { from = y.from; to = n }) f

pub same_rank : (x y : Link) → x.to < 2 ^ 32 → y.to < 2 ^ 32 → rank x ≡ rank y → x ≡ y
same_rank x y p q e = ⊎_elim
    (λ same. same_link x y same (omega arith))
    (λ apart. absurd (⊎_elim (λ less. omega arith) (λ more. omega arith) apart))
    (cases_order x.from y.from)

-- a link that a rising list has stands at its place
pub place_has : (xs : List Link) (x : Link) (at : ℕ) → IsRising xs → IsLinkInsertionPoint xs (rank x) at → HasLink xs x → (at < length xs) × (link_at xs at ≡ x)
place_has xs x at rising place has =
    let i : ℕ = has.0 in
    let within : i < length xs = has.1 in
    let is : link_at xs i ≡ x = has.2 in
    let same_n : rank (link_at xs i) ≡ rank x = ap rank is in
    ⊎_elim
    (λ same. (rw (← same) within, rw (← same) is))
    (λ apart. absurd (⊎_elim
    (λ less. let low = place.below i less in omega arith)
    (λ more. let up = rising.order at i more within in let high = place.above at (omega arith) (omega arith) in omega arith) apart))
    (cases_order i at)

-- a link that the list lacks ranks below what stands from its place on
pub place_lacks : (xs : List Link) (x : Link) (at : ℕ) → IsRising xs → x.to < 2 ^ 32 → IsLinkInsertionPoint xs (rank x) at → (HasLink xs x → ⊥)
    → (i : ℕ) → at ≤ i → i < length xs → rank x < rank (link_at xs i)
place_lacks xs x at rising fits place lacks i from within = ⊎_elim
    (λ same. absurd (lacks (i, within, same_rank (link_at xs i) x (rising.fits i within) fits (sym same))))
    (λ apart. ⊎_elim (λ less. less) (λ more. let high = place.above i from within in absurd (omega arith)) apart)
    (cases_order (rank x) (rank (link_at xs i)))

pub HasLink-insert_kept : (xs : List Link) (at : ℕ) (y x : Link) → at ≤ length xs → HasLink xs x → HasLink (insert xs at y) x
HasLink-insert_kept xs at y x bound has = ⊎_elim
    (λ before. (has.0, omega (arith, has.1, length-insert xs at y bound), get_or-insert_below xs at y no_link has.0 before bound ∙ has.2))
    (λ after. (has.0 + 1, omega (arith, has.1, length-insert xs at y bound), get_or-insert_above xs at y no_link has.0 after bound ∙ has.2))
    (cases_lt has.0 at)

pub HasLink-insert_new : (xs : List Link) (at : ℕ) (y : Link) → at ≤ length xs → HasLink (insert xs at y) y
HasLink-insert_new xs at y bound = (at, omega (arith, length-insert xs at y bound), get_or-insert_at xs at y no_link bound)

-- what stands at a place after a link is put in
pub insert_cases : (xs : List Link) (at : ℕ) (y : Link) (i : ℕ) → at ≤ length xs → i < length (insert xs at y)
    → ((i < at) × (link_at (insert xs at y) i ≡ link_at xs i)) ⊎ (((i ≡ at) × (link_at (insert xs at y) i ≡ y)) ⊎ ((at < i) × (i - 1 < length xs) × (link_at (insert xs at y) i ≡ link_at xs (i - 1))))
insert_cases xs at y i bound within = ⊎_elim
    (λ same. inr (inl (same, rw same (get_or-insert_at xs at y no_link bound))))
    (λ apart. ⊎_elim
    (λ less. inl (less, get_or-insert_below xs at y no_link i less bound))
    (λ more.
    let e : i ≡ (i - 1) + 1 = omega arith in
    let here : link_at (insert xs at y) ((i - 1) + 1) ≡ link_at xs (i - 1) = get_or-insert_above xs at y no_link (i - 1) (omega arith) bound in
    inr (inr (more, omega (arith, length-insert xs at y bound), ap (λ k. link_at (insert xs at y) k) e ∙ here)))
    apart)
    (cases_order i at)

pub HasLink-insert_back : (xs : List Link) (at : ℕ) (y x : Link) → at ≤ length xs → HasLink (insert xs at y) x → HasLink xs x ⊎ (x ≡ y)
HasLink-insert_back xs at y x bound has = ⊎_elim
    (λ before. inl (has.0, omega (arith, before.0, bound), sym before.1 ∙ has.2))
    (λ rest. ⊎_elim
    (λ here. inr (sym has.2 ∙ here.1))
    (λ after. inl (has.0 - 1, after.1, sym after.2 ∙ has.2)) rest)
    (insert_cases xs at y has.0 bound has.1)

-- what stands at a place after a link is taken away, and where it stood
pub remove_cases : (xs : List Link) (at i : ℕ) → at < length xs → i < length (remove xs at)
    → ((i < at) × (link_at (remove xs at) i ≡ link_at xs i)) ⊎ ((at ≤ i) × (link_at (remove xs at) i ≡ link_at xs (i + 1)))
remove_cases xs at i bound within = ⊎_elim
    (λ less. inl (less, get_or-remove_below xs at no_link i less bound))
    (λ more. inr (more, get_or-remove_above xs at no_link i more bound))
    (cases_lt i at)

pub HasLink-remove_back : (xs : List Link) (at : ℕ) (x : Link) → at < length xs → HasLink (remove xs at) x
    → (i : ℕ) × (i < length xs) × (i ≡ at → ⊥) × (link_at xs i ≡ x)
HasLink-remove_back xs at x bound has =
    let size = length-remove xs at bound in
    ⊎_elim
    (λ before. (has.0, omega (arith, has.1), (λ same. omega (arith, before.0)), sym before.1 ∙ has.2))
    (λ after. (has.0 + 1, omega (arith, has.1), (λ same. omega (arith, after.0)), sym after.1 ∙ has.2))
    (remove_cases xs at has.0 bound has.1)

pub HasLink-remove_kept : (xs : List Link) (at i : ℕ) (x : Link) → at < length xs → i < length xs → (i ≡ at → ⊥) → link_at xs i ≡ x → HasLink (remove xs at) x
HasLink-remove_kept xs at i x bound within apart is =
    let size = length-remove xs at bound in
    ⊎_elim
    (λ same. absurd (apart same))
    (λ differ. ⊎_elim
    (λ less. (i, omega arith, get_or-remove_below xs at no_link i less bound ∙ is))
    (λ more.
    let e : (i - 1) + 1 ≡ i = omega arith in
    (i - 1, omega arith, get_or-remove_above xs at no_link (i - 1) (omega arith) bound ∙ (ap (λ k. link_at xs k) e ∙ is))) differ)
    (cases_order i at)

-- a number of each link rises
abbrev pub Rises : (Link → ℕ) → List Link → Type 0
Rises f xs = (i j : ℕ) → i < j → j < length xs → f (link_at xs i) < f (link_at xs j)

pub Rises-remove : (f : Link → ℕ) (xs : List Link) (at : ℕ) → at < length xs → Rises f xs → Rises f (remove xs at)
Rises-remove f xs at bound up i j less within =
    let size = length-remove xs at bound in
    ⊎_elim
    (λ a. let left = ap f a.1 in ⊎_elim
    (λ b. let right = ap f b.1 in let step = up i j less (omega arith) in omega arith)
    (λ b. let right = ap f b.1 in let step = up i (j + 1) (omega arith) (omega arith) in omega arith)
    (remove_cases xs at j bound within))
    (λ a. let left = ap f a.1 in ⊎_elim
    (λ b. absurd (omega (arith, a.0, b.0)))
    (λ b. let right = ap f b.1 in let step = up (i + 1) (j + 1) (omega arith) (omega arith) in omega arith)
    (remove_cases xs at j bound within))
    (remove_cases xs at i bound (omega arith))

pub Rises-insert : (f : Link → ℕ) (xs : List Link) (at : ℕ) (y : Link) → at ≤ length xs → Rises f xs
    → ((i : ℕ) → i < at → f (link_at xs i) < f y) → ((i : ℕ) → at ≤ i → i < length xs → f y < f (link_at xs i)) → Rises f (insert xs at y)
Rises-insert f xs at y bound up below above i j less within =
    let size = length-insert xs at y bound in
    ⊎_elim
    (λ a. let left = ap f a.1 in ⊎_elim
    (λ b. let right = ap f b.1 in let step = up i j less (omega (arith, b.0)) in omega arith)
    (λ rest. ⊎_elim
    (λ b. let right = ap f b.1 in let step = below i a.0 in omega arith)
    (λ b. let right = ap f b.2 in let step = up i (j - 1) (omega (arith, a.0, b.0)) b.1 in omega arith) rest)
    (insert_cases xs at y j bound within))
    (λ other. ⊎_elim
    (λ a. let left = ap f a.1 in ⊎_elim
    (λ b. absurd (omega (arith, a.0, b.0)))
    (λ rest. ⊎_elim
    (λ b. absurd (omega (arith, a.0, b.0)))
    (λ b. let right = ap f b.2 in let step = above (j - 1) (omega (arith, b.0)) b.1 in omega arith) rest)
    (insert_cases xs at y j bound within))
    (λ a. let left = ap f a.2 in ⊎_elim
    (λ b. absurd (omega (arith, a.0, b.0)))
    (λ rest. ⊎_elim
    (λ b. absurd (omega (arith, a.0, b.0)))
    (λ b. let right = ap f b.2 in let step = up (i - 1) (j - 1) (omega (arith, a.0, b.0)) b.1 in omega arith) rest)
    (insert_cases xs at y j bound within)) other)
    (insert_cases xs at y i bound (omega arith))

-- what holds of each link of a list holds of each that is left, or of one more
pub EachLink-remove : (P : Link → Type 0) (xs : List Link) (at : ℕ) → at < length xs → ((i : ℕ) → i < length xs → P (link_at xs i)) → (i : ℕ) → i < length (remove xs at) → P (link_at (remove xs at) i)
EachLink-remove P xs at bound each i within =
    let size = length-remove xs at bound in
    ⊎_elim (λ a. subst P (sym a.1) (each i (omega arith))) (λ a. subst P (sym a.1) (each (i + 1) (omega arith))) (remove_cases xs at i bound within)

pub EachLink-insert : (P : Link → Type 0) (xs : List Link) (at : ℕ) (y : Link) → at ≤ length xs → ((i : ℕ) → i < length xs → P (link_at xs i)) → P y → (i : ℕ) → i < length (insert xs at y) → P (link_at (insert xs at y) i)
EachLink-insert P xs at y bound each one i within =
    ⊎_elim (λ a. subst P (sym a.1) (each i (omega (arith, a.0))))
    (λ rest. ⊎_elim (λ a. subst P (sym a.1) one) (λ a. subst P (sym a.2) (each (i - 1) a.1)) rest)
    (insert_cases xs at y i bound within)

pub IsRising-remove : (xs : List Link) (at : ℕ) → at < length xs → IsRising xs → IsRising (remove xs at)
IsRising-remove xs at bound rising = record {
  order = Rises-remove rank xs at bound rising.order;
  fits = EachLink-remove (λ x. x.to < 2 ^ 32) xs at bound rising.fits;
}

pub IsRising-insert : (xs : List Link) (at : ℕ) (y : Link) → IsRising xs → y.to < 2 ^ 32 → IsLinkInsertionPoint xs (rank y) at → (HasLink xs y → ⊥) → IsRising (insert xs at y)
IsRising-insert xs at y rising fits place lacks = record {
  order = Rises-insert rank xs at y place.bound rising.order place.below (place_lacks xs y at rising fits place lacks);
  fits = EachLink-insert (λ x. x.to < 2 ^ 32) xs at y place.bound rising.fits fits;
}

-- no link stands twice
pub once : (f : Link → ℕ) (xs : List Link) → Rises f xs → (i j : ℕ) → i < length xs → j < length xs → link_at xs i ≡ link_at xs j → i ≡ j
once f xs up i j p q e =
    let same = ap f e in
    ⊎_elim (λ eq. eq) (λ apart. absurd (⊎_elim (λ less. let step = up i j less q in omega arith) (λ more. let step = up j i more p in omega arith) apart)) (cases_order i j)

-- a link replaced is taken away and put in at its place
pub insert-remove : (xs : List Link) (at : ℕ) (y : Link) → at < length xs → insert (remove xs at) at y ≡ set xs at y
insert-remove [] at y bound = absurd (omega arith)
insert-remove (x ∷ xs) zero y bound = refl
insert-remove (x ∷ xs) (suc at) y bound = ap (λ l. x ∷ l) (insert-remove xs at y (omega arith))

-- how many pass, where those before a place pass and those from there on do not
pub count_place : (p : Link → Bool) (xs : List Link) (at : ℕ) → at ≤ length xs → ((i : ℕ) → i < at → p (link_at xs i) ≡ true)
    → ((i : ℕ) → at ≤ i → i < length xs → p (link_at xs i) ≡ false) → count_by p xs ≡ at
count_place p [] at bound below above = omega arith
count_place p (x ∷ xs) zero bound below above =
    let none : p x ≡ false = above 0 (omega arith) (omega arith) in
    let rest : count_by p xs ≡ 0 = count_place p xs 0 (omega arith) (λ i less. absurd (omega arith)) (λ i from within. above (suc i) (omega arith) (omega arith)) in
    rw (sum_by-cons (λ l. cond (p l) 1 0) x xs, none) (omega arith)
count_place p (x ∷ xs) (suc at) bound below above =
    let yes_first : p x ≡ true = below 0 (omega arith) in
    let rest : count_by p xs ≡ at = count_place p xs at (omega arith) (λ i less. below (suc i) (omega arith)) (λ i from within. above (suc i) (omega arith) (omega arith)) in
    rw (sum_by-cons (λ l. cond (p l) 1 0) x xs, yes_first) (omega arith)
