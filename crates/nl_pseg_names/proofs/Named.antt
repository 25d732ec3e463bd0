-- How many old names stand in a block.
use Rattle.std.proofs.Common.{◌≡◌, ℕ, ◌+◌, ◌-◌, ◌/◌, ◌<◌, ◌≤◌, ◌==◌, cond, Bool, true, false, List, [], ◌∷◌, length, insert, remove, map, get_or, refl, sym, ◌∙◌, ap, subst, arith, eq-eqb}
use Rattle.std.proofs.lemmas.List.Edits.{length-insert, length-remove}
use Rattle.std.proofs.lemmas.List.Sums.{sum_by-cons, sum_by-insert, sum_by-remove}
use Rattle.std.proofs.lemmas.List.{length-map}
use Rattle.nl_remap.specs.declared.links.Link.{Link}
use Rattle.nl_remap.specs.Links.{link_at, no_link}
use Rattle.nl_remap.specs.Table.{IsOld, IsRemap, led_on, pair, place_of}
use Rattle.nl_remap.proofs.Ways.{place_is}
use Rattle.nl_pseg_names.specs.OldNames.{AreKeptNames, names_among}

abbrev weight : ℕ → ℕ → Link → ℕ
weight size block p = cond (p.from / size == block) 1 0

small : (b : Bool) → cond b 1 0 ≤ 1
small true = omega arith
small false = omega arith

pub few_names : (size block : ℕ) (xs : List Link) → names_among size block xs ≤ length xs
few_names size block [] = omega arith
few_names size block (x ∷ xs) =
    let rest = few_names size block xs in
    let one = small (x.from / size == block) in
    let e : names_among size block (x ∷ xs) ≡ cond (x.from / size == block) 1 0 + names_among size block xs = sum_by-cons (weight size block) x xs in
    omega (arith, e, rest, one)

led_same : (size block old new : ℕ) (xs : List Link) → names_among size block (map (led_on old new) xs) ≡ names_among size block xs
led_same size block old new [] = refl
led_same size block old new (x ∷ xs) =
    sum_by-cons (weight size block) (led_on old new x) (map (led_on old new) xs)
    ∙ (ap (λ (n : ℕ). cond (x.from / size == block) 1 0 + n) (led_same size block old new xs) ∙ sym (sum_by-cons (weight size block) x xs))

-- a pair was added
pub names_added : (size block old new at : ℕ) (xs : List Link) → names_among size block (insert (map (led_on old new) xs) at (pair old new)) ≡ names_among size block xs + cond (old / size == block) 1 0
names_added size block old new at xs =
    sum_by-insert (weight size block) (map (led_on old new) xs) at (pair old new) ∙ ap (λ (n : ℕ). n + cond (old / size == block) 1 0) (led_same size block old new xs)

-- the pair of a name was taken away
pub names_taken : (size block name : ℕ) (xs : List Link) → IsRemap xs → IsOld xs name → names_among size block (remove xs (place_of xs name)) + cond (name / size == block) 1 0 ≡ names_among size block xs
names_taken size block name xs is old =
    let at : place_of xs name ≡ old.0 = ap (place_of xs) (sym old.2) ∙ place_is xs old.0 is old.1 in
    let within : place_of xs name < length xs = subst (λ n. n < length xs) (sym at) old.1 in
    let from : (get_or xs (place_of xs name) no_link).from ≡ name = ap (λ (n : ℕ). (link_at xs n).from) at ∙ old.2 in
    let e : names_among size block (remove xs (place_of xs name)) + cond ((get_or xs (place_of xs name) no_link).from / size == block) 1 0 ≡ names_among size block xs = sum_by-remove (weight size block) xs (place_of xs name) no_link within in
    ap (λ (n : ℕ). names_among size block (remove xs (place_of xs name)) + cond (n / size == block) 1 0) (sym from) ∙ e

abbrev one_if : Bool → ℕ
one_if b = cond b 1 0

self_one : (n : ℕ) → one_if (n == n) ≡ 1
self_one n = ap one_if (eq-eqb n n refl)

-- a name that is there is counted
pub names_some : (size name : ℕ) (xs : List Link) → IsRemap xs → IsOld xs name → 0 < names_among size (name / size) xs
names_some size name xs is old =
    let e = names_taken size (name / size) name xs is old in
    let one = self_one (name / size) in
    omega (arith, e, one)

-- the pair of a name stands in the list
pub old_within : (xs : List Link) (name : ℕ) → IsRemap xs → IsOld xs name → place_of xs name < length xs
old_within xs name is old = subst (λ n. n < length xs) (sym (ap (place_of xs) (sym old.2) ∙ place_is xs old.0 is old.1)) old.1

-- what is kept goes on as a pair is added
pub kept_add : {size room limit : ℕ} {xs ys : List Link} {counts now : List ℕ} (after old new at : ℕ) → AreKeptNames size room limit xs counts → 0 < room → at ≤ length (map (led_on old new) xs) → ys ≡ insert (map (led_on old new) xs) at (pair old new) → after ≡ room - 1
    → IsRemap ys → length now ≡ length counts → ((i : ℕ) → i < length counts → get_or now i 0 ≡ get_or counts i 0 + cond (old / size == i) 1 0) → AreKeptNames size after limit ys now
kept_add {size} {room} {limit} {xs} {ys} {counts} {now} after old new at is some bound added less table same each = record {
  some = is.some;
  whole =
      let n = ap (λ (l : List Link). length l) added in
      let m = length-insert (map (led_on old new) xs) at (pair old new) bound in
      let k = length-map xs (led_on old new) in
      let w = is.whole in
      omega (arith, n, m, k, w, less, some);
  fits = is.fits;
  remap = table;
  counted = record {
    each = λ block within.
        let was : block < length counts = subst (λ n. block < n) same within in
        each block was ∙ (ap (λ n. n + cond (old / size == block) 1 0) (is.counted.each block was) ∙ sym (ap (names_among size block) added ∙ names_added size block old new at xs));
  };
}

-- what is kept stays whole as one old name is taken away
pub kept_take : {size room limit : ℕ} {xs ys : List Link} {counts now : List ℕ} (after name : ℕ) → AreKeptNames size room limit xs counts → IsOld xs name → ys ≡ remove xs (place_of xs name) → after ≡ room + 1
    → IsRemap ys → length now ≡ length counts → ((i : ℕ) → i < length counts → get_or now i 0 + cond (name / size == i) 1 0 ≡ get_or counts i 0) → AreKeptNames size after limit ys now
kept_take {size} {room} {limit} {xs} {ys} {counts} {now} after name is old taken more table same each = record {
  some = is.some;
  whole =
      let n = ap (λ (l : List Link). length l) taken in
      let m = length-remove xs (place_of xs name) (old_within xs name is.remap old) in
      let w = is.whole in
      omega (arith, n, m, w, more);
  fits = is.fits;
  remap = table;
  counted = record {
    each = λ block within.
        let was : block < length counts = subst (λ n. block < n) same within in
        let a = each block was in
        let b = is.counted.each block was in
        let d = names_taken size block name xs is.remap old in
        let e = ap (names_among size block) taken in
        omega (arith, a, b, d, e);
  };
}
