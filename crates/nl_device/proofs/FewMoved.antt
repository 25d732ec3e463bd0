-- How many pointers have places that are not their names.
use Rattle.std.proofs.Common.{◌≡◌, ◌≢◌, ℕ, zero, suc, ◌+◌, ◌-◌, ◌*◌, ◌/◌, ◌<◌, ◌≤◌, not, Bool, true, false, List, [], ◌∷◌, length, get_or, map, take, Option, Some, None, refl, sym, ◌∙◌, ap, arith, eqb-true, eq-eqb}
use Rattle.std.specs.Prelude.{◌==◌, IsSome, All, filter, slice_get}
use Rattle.std.specs.List.{AllPairs, count_by, list_any}
use Rattle.std.proofs.Math.Nat.{div-lt_iff_lt-mul, le-div_iff_mul-le}
use Rattle.std.proofs.lemmas.Bool.{true≢false}
use Rattle.std.proofs.lemmas.List.{get_or-map, length-map}
use Rattle.std.proofs.lemmas.List.Elements.{filter_passes}
use Rattle.std.proofs.lemmas.List.Filters.{length-filter_more}
use Rattle.std.proofs.lemmas.List.Folds.{Any-from_list_any}
use Rattle.std.proofs.lemmas.List.Kept.{AllPairs-filter}
use Rattle.std.proofs.lemmas.List.Sums.{length-filter, sum_by-cons}
use Rattle.std.proofs.lemmas.Map.Made.{IsDistinct-from_AllPairs}
use Rattle.std.proofs.lemmas.Map.Steps.{length-le_from_distinct_below}
use Rattle.std.proofs.lemmas.Option.{get_or_from_slice_get, slice_get_within}
use Rattle.nl_field.specs.declared.pointer.Pointer.{Pointer}
use Rattle.nl_device.specs.Kept.{KeptPages}
use Rattle.nl_device.specs.Retain.{CanRetain, is_stale, is_moved, moved_among, placed_at, spare_for}
use Rattle.nl_device.proofs.Counted.{bit}
use Rattle.nl_device.proofs.Loading.{moved_why}
use Rattle.nl_device.proofs.Lookups.{is_number, number_is}

abbrev name_in : ℕ → ℕ → Pointer → Bool
name_in size block p = p.name / size == block

-- the place of a name in its block
abbrev offset : ℕ → ℕ → Pointer → ℕ
offset size block p = p.name - block * size

in_block : (size block n : ℕ) → 0 < size → n / size ≡ block → (block * size ≤ n) × (n < block * size + size)
in_block size block n some is =
    let low = (le-div_iff_mul-le {k = size} {x = block} {y = n} some).0 (omega (arith, is)) in
    let high : n < (block + 1) * size = (div-lt_iff_lt-mul {k = size} {x = n} {y = block + 1} some).0 (omega (arith, is)) in
    let spread : (block + 1) * size ≡ block * size + size = omega arith in
    (low, omega (arith, high, spread))

-- of names that differ at most a block's pages lie in one block
names_few : (size block : ℕ) (ps : List Pointer) → 0 < size → AllPairs (λ (p q : Pointer). p.name ≢ q.name) ps → All (λ p. name_in size block p ≡ true) ps → length ps ≤ size
names_few size block ps some differ lie =
    let count = length-map ps (offset size block) in
    let few = length-le_from_distinct_below (map (offset size block) ps) size (IsDistinct-from_AllPairs (λ a b. (eqb-true a b, eq-eqb a b)) (map (offset size block) ps) apart) below in
    omega (arith, count, few)
  where
    none : Pointer
    none = record { name = 0; stamp = 0 }

    at : (i : ℕ) → i < length ps → (block * size ≤ (get_or ps i none).name) × ((get_or ps i none).name < block * size + size)
    at i within = in_block size block (get_or ps i none).name some (number_is ((get_or ps i none).name / size) block (lie i none within))

    apart : AllPairs (λ x y. x ≢ y) (map (offset size block) ps)
    apart i j d less within same =
        let inside : j < length ps = let count = length-map ps (offset size block) in omega (arith, within, count) in
        let first = at i (omega (arith, less, inside)) in
        let second = at j inside in
        let a = get_or-map (offset size block) ps i none d (omega (arith, less, inside)) in
        let b = get_or-map (offset size block) ps j none d inside in
        let low = first.0 in
        let from = second.0 in
        differ i j none less inside (omega (arith, a, b, same, low, from))

    below : (q : ℕ) → list_any (λ x. q == x) (map (offset size block) ps) ≡ true → q < size
    below q listed =
        let one = Any-from_list_any (λ x. q == x) (map (offset size block) ps) listed in
        let inside : one.0 < length ps = let count = length-map ps (offset size block) in let lt = one.2 in omega (arith, lt, count) in
        let a = get_or-map (offset size block) ps one.0 none one.1 inside in
        let is = one.3 in
        let e = number_is q one.1 one.4 in
        let w = at one.0 inside in
        let low = w.0 in
        let high = w.1 in
        omega (arith, a, is, e, low, high)

-- what passes a test passes one of two others
either : (p q r : Pointer → Bool) (ps : List Pointer) → ((x : Pointer) → p x ≡ true → q x ≡ false → r x ≡ true) → length (filter p ps) ≤ length (filter q ps) + length (filter r ps)
either p q r ps split =
    let a = length-filter p ps in
    let b = length-filter q ps in
    let c = length-filter r ps in
    let most = counts ps in
    omega (arith, a, b, c, most)
  where
    counts : (xs : List Pointer) → count_by p xs ≤ count_by q xs + count_by r xs
    counts [] = omega arith
    counts (x ∷ xs) =
        let a = sum_by-cons (λ y. bit (p y)) x xs in
        let b = sum_by-cons (λ y. bit (q y)) x xs in
        let c = sum_by-cons (λ y. bit (r y)) x xs in
        let rest = counts xs in
        let here = by (p x) (q x) (r x) (split x) in
        omega (arith, a, b, c, rest, here)
      where
        by : (a b c : Bool) → (a ≡ true → b ≡ false → c ≡ true) → bit a ≤ bit b + bit c
        by false b c f = omega arith
        by true true c f = omega arith
        by true false c f = let one : bit c ≡ 1 = ap bit (f refl refl) in omega (arith, one)

not_not : (b : Bool) → not b ≡ false → b ≡ true
not_not true is = refl
not_not false is = sym is

away_from : (n m : ℕ) → not (n == m) ≡ true → n ≡ m → ⊥
away_from n m moved same = true≢false (sym moved ∙ ap not (is_number n m same))

-- A pointer whose name is not its place is lost, or its name lies in the spare block.
pub few_moved : (kept : KeptPages) (pointers : List Pointer) → 0 < kept.size → CanRetain kept pointers → length (moved_among kept pointers) ≤ 4 * kept.size
few_moved kept pointers some can = by (spare_for kept pointers) refl can.spare
  where
    by : (o : Option ℕ) → spare_for kept pointers ≡ o → IsSome o → length (moved_among kept pointers) ≤ 4 * kept.size
    by None none is = absurd (true≢false (sym is))
    by (Some block) found is =
        let lies = name_in kept.size block in
        let split = either (is_moved kept (Some block)) (is_stale kept) lies pointers (λ p moved kept_stamp. not_not (lies p) (moved_why kept block p (away_from (placed_at kept (Some block) p) p.name moved) kept_stamp)) in
        let here = names_few kept.size block (filter lies pointers) some (AllPairs-filter (λ (p q : Pointer). p.name ≢ q.name) lies pointers can.names_differ) (filter_passes lies pointers) in
        let lost = can.few_lost in
        let same : length (moved_among kept pointers) ≡ length (filter (is_moved kept (Some block)) pointers) = ap (λ (o : Option ℕ). length (filter (is_moved kept o) pointers)) found in
        omega (arith, split, here, lost, same)

-- one pointer more
pub one_more_moved : (kept : KeptPages) (pointers : List Pointer) (at : ℕ) (p : Pointer) → slice_get pointers at ≡ Some p
    → length (filter (is_moved kept (spare_for kept pointers)) (take (at + 1) pointers)) ≡ length (filter (is_moved kept (spare_for kept pointers)) (take at pointers)) + bit (is_moved kept (spare_for kept pointers) p)
one_more_moved kept pointers at p here =
    length-filter_more (is_moved kept (spare_for kept pointers)) pointers at p (slice_get_within pointers at p here)
    ∙ ap (λ (q : Pointer). length (filter (is_moved kept (spare_for kept pointers)) (take at pointers)) + bit (is_moved kept (spare_for kept pointers) q)) (get_or_from_slice_get pointers at p p here)

-- among the first pointers no more are moved than among all
take_few : (q : Pointer → Bool) (ps : List Pointer) (n : ℕ) → length (filter q (take n ps)) ≤ length (filter q ps)
take_few q ps n =
    let a = length-filter q (take n ps) in
    let b = length-filter q ps in
    let most = counts ps n in
    omega (arith, a, b, most)
  where
    counts : (xs : List Pointer) (k : ℕ) → count_by q (take k xs) ≤ count_by q xs
    counts xs zero = omega arith
    counts [] (suc k) = omega arith
    counts (x ∷ xs) (suc k) =
        let a = sum_by-cons (λ y. bit (q y)) x (take k xs) in
        let b = sum_by-cons (λ y. bit (q y)) x xs in
        let rest = counts xs k in
        omega (arith, a, b, rest)

-- there is room for a pointer that is moved
pub room_for : (kept : KeptPages) (pointers : List Pointer) (at : ℕ) (p : Pointer) → 0 < kept.size → CanRetain kept pointers → slice_get pointers at ≡ Some p → is_moved kept (spare_for kept pointers) p ≡ true
    → length (filter (is_moved kept (spare_for kept pointers)) (take at pointers)) < 4 * kept.size
room_for kept pointers at p some can here moved =
    let all = few_moved kept pointers some can in
    let more = one_more_moved kept pointers at p here in
    let few = take_few (is_moved kept (spare_for kept pointers)) pointers (at + 1) in
    let one : bit (is_moved kept (spare_for kept pointers) p) ≡ 1 = ap bit moved in
    omega (arith, all, more, few, one)
