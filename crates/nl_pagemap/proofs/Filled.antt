-- The numbers in use and the untried pages of all blocks are no more than the pages.
use Rattle.std.proofs.Common.{◌≡◌, ◌⊎◌, inl, inr, ⊎_elim, ℕ, suc, ◌+◌, ◌-◌, ◌*◌, ◌/◌, ◌<◌, ◌≤◌, ◌∷◌, [], nat_le, nat_lt, Bool, true, false, ◌&&◌, List, Option, Some, None, length, get_or, sum, count_by, is_some, refl, subst, arith, eq-eqb}
use Rattle.std.specs.List.{range_with_len}
use Rattle.std.proofs.lemmas.Bool.{and_from, and_parts, cases_eq, false_from_ne_true, false≢true, le-leb, leb-true, lt-ltb, ltb-true}
use Rattle.std.proofs.lemmas.List.Sums.{sum_by-cons}
use Rattle.nl_pagemap.proofs.Counted.{either, less, none_pass}
use Rattle.nl_pagemap_names.specs.Table.{Table, live_at}
use Rattle.nl_pagemap_names.specs.Untried.{is_in, used_in}
use Rattle.nl_pagemap_names.specs.declared.entry.Entry.{Entry}

-- the page of an entry is in one of so many blocks from this one on
abbrev among : ℕ → ℕ → ℕ → Option Entry → Bool
among size v k None = false
among size v k (Some e) = nat_le v (e.page / size) && nat_lt (e.page / size) (v + k)

abbrev used_among : ℕ → Table → ℕ → ℕ → ℕ
used_among size t v k = count_by (λ n. among size v k (live_at t n)) (range_with_len t.first (t.last - t.first))

among_none : (size v : ℕ) (o : Option Entry) → among size v 0 o ≡ true → ⊥
among_none size v None is = false≢true is
among_none size v (Some e) is =
    let parts = and_parts (nat_le v (e.page / size)) (nat_lt (e.page / size) (v + 0)) is in
    let from = leb-true v (e.page / size) parts.0 in
    let below = ltb-true (e.page / size) (v + 0) parts.1 in
    omega (arith, from, below)

-- the first block, or one of the others
among_split : (size v k : ℕ) (o : Option Entry) → among size v (suc k) o ≡ true → (is_in size v o ≡ true) ⊎ (among size (v + 1) k o ≡ true)
among_split size v k None is = absurd (false≢true is)
among_split size v k (Some e) is =
    let parts = and_parts (nat_le v (e.page / size)) (nat_lt (e.page / size) (v + suc k)) is in
    let from = leb-true v (e.page / size) parts.0 in
    let below = ltb-true (e.page / size) (v + suc k) parts.1 in
    ⊎_elim
    (λ here. inl (eq-eqb (e.page / size) v here))
    (λ other. inr (and_from (nat_le (v + 1) (e.page / size)) (nat_lt (e.page / size) (v + 1 + k)) (le-leb (v + 1) (e.page / size) (omega (arith, from, other))) (lt-ltb (e.page / size) (v + 1 + k) (omega (arith, below)))))
    (cases_eq (e.page / size) v)

fill : (size : ℕ) (t : Table) (xs : List ℕ) (v : ℕ) → ((i : ℕ) → i < length xs → used_in size t (v + i) + get_or xs i 0 ≤ size)
    → used_among size t v (length xs) + sum xs ≤ length xs * size
fill size t [] v few =
    let none = none_pass (λ n. among size v 0 (live_at t n)) t.first (t.last - t.first) (λ n from. false_from_ne_true (among size v 0 (live_at t n)) (among_none size v (live_at t n))) in
    omega (arith, none)
fill size t (x ∷ xs) v few =
    let split = either (λ n. among size v (suc (length xs)) (live_at t n)) (λ n. is_in size v (live_at t n)) (λ n. among size (v + 1) (length xs) (live_at t n)) t.first (t.last - t.first) (λ n is. among_split size v (length xs) (live_at t n) is) in
    let first : used_in size t v + x ≤ size = subst (λ b. used_in size t b + x ≤ size) (omega arith) (few 0 (omega arith)) in
    let rest = fill size t xs (v + 1) (λ i below. subst (λ b. used_in size t b + get_or xs i 0 ≤ size) (omega arith) (few (suc i) (omega (arith, below)))) in
    let all : sum (x ∷ xs) ≡ x + sum xs = sum_by-cons (λ y. y) x xs in
    let product : suc (length xs) * size ≡ size + length xs * size = omega arith in
    omega (arith, split, first, rest, all, product)

-- All numbers in use have their pages in these blocks.
pub filled : (size : ℕ) (t : Table) (xs : List ℕ) (v : ℕ) → ((i : ℕ) → i < length xs → used_in size t (v + i) + get_or xs i 0 ≤ size)
    → ((n : ℕ) (e : Entry) → live_at t n ≡ Some e → (v ≤ e.page / size) × (e.page / size < v + length xs))
    → count_by (λ n. is_some (live_at t n)) (range_with_len t.first (t.last - t.first)) + sum xs ≤ length xs * size
filled size t xs v few inside =
    let most = less (λ n. among size v (length xs) (live_at t n)) (λ n. is_some (live_at t n)) t.first (t.last - t.first) (λ n from is. there n (live_at t n) refl is) in
    let all = fill size t xs v few in
    omega (arith, most, all)
  where
    there : (n : ℕ) (o : Option Entry) → live_at t n ≡ o → is_some o ≡ true → among size v (length xs) o ≡ true
    there n None at is = absurd (false≢true is)
    there n (Some e) at is =
        let w = inside n e at in
        and_from (nat_le v (e.page / size)) (nat_lt (e.page / size) (v + length xs)) (le-leb v (e.page / size) w.0) (lt-ltb (e.page / size) (v + length xs) w.1)
