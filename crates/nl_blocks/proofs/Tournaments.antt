-- A tournament finds the first of those with the least key.
use Rattle.std.proofs.Common.{◌≡◌, ◌≢◌, ℕ, zero, suc, ◌+◌, ◌-◌, ◌*◌, ◌/◌, ◌^◌, ◌<◌, ◌≤◌, Bool, true, false, cond, List, [], ◌∷◌, length, map, drop, set, replicate, Option, Some, None, IfSome, refl, sym, ap, subst, ◌∙◌, ◌⊎◌, inl, inr, arith}
use Rattle.std.proofs.lemmas.Bool.{cases_eq, cases_lt, cases_Bool}
use Rattle.std.proofs.lemmas.Bool.Decides.{nat_tests}
use Rattle.std.proofs.lemmas.List.{drop-replicate, drop-set-add, ext_get_or, get_or-drop, get_or-set_other, get_or-set_same, get_or_past, length-drop, length-map, length-replicate, length-set, map-set}
use Rattle.nl_blocks.specs.declared.tournament.Entrant.{Entrant}
use Rattle.nl_blocks.specs.Tournament.{HasBetter, HasLeaves, HasSameLeaves, HasWinners, HasWinnersBut, IsFirstOfLeast, IsTournament, NonePresent, better, entrant_at, entrant_of, is_before, key_at, key_of_entrant, keys_of}

-- ---- the better of two

record NotAfter (a b : Entrant) : Type 0 where
  key : a.key ≤ b.key
  place : b.key ≤ a.key → a.place ≤ b.place

before-true : (a b : Entrant) → is_before a b ≡ true → NotAfter a b
before-true a b e = record { key = grind (arith, nat_tests); place = λ h. grind (arith, nat_tests) }

before-false : (a b : Entrant) → is_before a b ≡ false → NotAfter b a
before-false a b e = record { key = grind (arith, nat_tests); place = λ h. grind (arith, nat_tests) }

-- the one is no worse than the other
abbrev NoWorse : Option Entrant → Option Entrant → Type 0
NoWorse x None = Unit {0}
NoWorse None (Some b) = ⊥
NoWorse (Some a) (Some b) = NotAfter a b

itself : (a : Entrant) → NotAfter a a
itself a = record { key = omega arith; place = λ h. omega arith }

no-worse-itself : (x : Option Entrant) → NoWorse x x
no-worse-itself None = tt
no-worse-itself (Some a) = itself a

then-after : (a b c : Entrant) → NotAfter a b → NotAfter b c → NotAfter a c
then-after a b c f g =
    let fk = f.key in
    let gk = g.key in
    record { key = omega (arith, fk, gk); place = λ h. (let p = f.place (omega (arith, gk, h)) in let q = g.place (omega (arith, fk, h)) in omega (arith, p, q)) }

no-worse-then : (x y z : Option Entrant) → NoWorse x y → NoWorse y z → NoWorse x z
no-worse-then x y None f g = tt
no-worse-then x None (Some c) f g = absurd g
no-worse-then None (Some b) (Some c) f g = absurd f
no-worse-then (Some a) (Some b) (Some c) f g = then-after a b c f g

better-left : (x y : Option Entrant) → NoWorse (better x y) x
better-left None y = tt
better-left (Some a) None = itself a
better-left (Some a) (Some b) = by (cases_Bool (is_before b a))
  where
    by : (is_before b a ≡ true) ⊎ (is_before b a ≡ false) → NoWorse (cond (is_before b a) (Some b) (Some a)) (Some a)
    by (inl e) = subst (λ (t : Bool). NoWorse (cond t (Some b) (Some a)) (Some a)) (sym e) (before-true b a e)
    by (inr e) = subst (λ (t : Bool). NoWorse (cond t (Some b) (Some a)) (Some a)) (sym e) (itself a)

better-right : (x y : Option Entrant) → NoWorse (better x y) y
better-right None y = no-worse-itself y
better-right (Some a) None = tt
better-right (Some a) (Some b) = by (cases_Bool (is_before b a))
  where
    by : (is_before b a ≡ true) ⊎ (is_before b a ≡ false) → NoWorse (cond (is_before b a) (Some b) (Some a)) (Some b)
    by (inl e) = subst (λ (t : Bool). NoWorse (cond t (Some b) (Some a)) (Some b)) (sym e) (itself b)
    by (inr e) = subst (λ (t : Bool). NoWorse (cond t (Some b) (Some a)) (Some b)) (sym e) (before-false b a e)

better-one : (x y : Option Entrant) → (better x y ≡ x) ⊎ (better x y ≡ y)
better-one None y = inr refl
better-one (Some a) None = inl refl
better-one (Some a) (Some b) = by (is_before b a)
  where
    by : (t : Bool) → (cond t (Some b) (Some a) ≡ Some a) ⊎ (cond t (Some b) (Some a) ≡ Some b)
    by true = inr refl
    by false = inl refl

-- ---- what the root has

half : (i : ℕ) → (i ≡ 2 * (i / 2)) ⊎ (i ≡ 2 * (i / 2) + 1)
half i = by (cases_eq i (2 * (i / 2)))
  where
    by : (i ≡ 2 * (i / 2)) ⊎ (i ≡ 2 * (i / 2) → ⊥) → (i ≡ 2 * (i / 2)) ⊎ (i ≡ 2 * (i / 2) + 1)
    by (inl e) = inl e
    by (inr far) = inr (omega arith)

module _ (tree : List (Option Entrant)) (count : ℕ) (winners : HasWinners count tree) where
  above : (i : ℕ) → 2 ≤ i → i < 2 * count → NoWorse (entrant_at tree (i / 2)) (entrant_at tree i)
  above i two below = by (half i)
    where
      here : HasBetter tree (i / 2)
      here = winners.each (i / 2) (omega arith) (omega arith)

      by : (i ≡ 2 * (i / 2)) ⊎ (i ≡ 2 * (i / 2) + 1) → NoWorse (entrant_at tree (i / 2)) (entrant_at tree i)
      by (inl e) = subst (λ (x : Option Entrant). NoWorse x (entrant_at tree i)) (sym here)
          (subst (λ (k : ℕ). NoWorse (better (entrant_at tree (2 * (i / 2))) (entrant_at tree (2 * (i / 2) + 1))) (entrant_at tree k)) (sym e)
          (better-left (entrant_at tree (2 * (i / 2))) (entrant_at tree (2 * (i / 2) + 1))))
      by (inr e) = subst (λ (x : Option Entrant). NoWorse x (entrant_at tree i)) (sym here)
          (subst (λ (k : ℕ). NoWorse (better (entrant_at tree (2 * (i / 2))) (entrant_at tree (2 * (i / 2) + 1))) (entrant_at tree k)) (sym e)
          (better-right (entrant_at tree (2 * (i / 2))) (entrant_at tree (2 * (i / 2) + 1))))

  root-best : (n i : ℕ) → i ≤ n → 1 ≤ i → i < 2 * count → NoWorse (entrant_at tree 1) (entrant_at tree i)
  root-best zero i le one below = absurd (omega arith)
  root-best (suc n) i le one below = by (root-best n (i / 2)) (cases_lt 1 i)
    where
      by : (i / 2 ≤ n → 1 ≤ i / 2 → i / 2 < 2 * count → NoWorse (entrant_at tree 1) (entrant_at tree (i / 2))) → (1 < i) ⊎ (i ≤ 1) → NoWorse (entrant_at tree 1) (entrant_at tree i)
      by up (inl h) = no-worse-then (entrant_at tree 1) (entrant_at tree (i / 2)) (entrant_at tree i)
          (up (omega arith) (omega arith) (omega arith)) (above i (omega arith) below)
      by up (inr h) = let e : 1 ≡ i = omega arith in subst (λ (k : ℕ). NoWorse (entrant_at tree 1) (entrant_at tree k)) e (no-worse-itself (entrant_at tree 1))

-- where an entrant came from
record IsAtLeaf (count : ℕ) (tree : List (Option Entrant)) (e : Entrant) : Type 0 where
  below : e.place < count
  at : entrant_at tree (count + e.place) ≡ Some e

some-place : (x : Option Entrant) (e : Entrant) (k : ℕ) → x ≡ Some e → IfSome x (λ (y : Entrant). y.place ≡ k) → e.place ≡ k
some-place x e k is at = subst (λ (y : Option Entrant). IfSome y (λ (z : Entrant). z.place ≡ k)) is at

abbrev Comes : List (Option Entrant) → ℕ → ℕ → ℕ → Type 0
Comes tree count n k = 2 * count ≤ k + n → 1 ≤ k → k < 2 * count → (e : Entrant) → entrant_at tree k ≡ Some e → IsAtLeaf count tree e

module _ (tree : List (Option Entrant)) (count : ℕ) (leaves : HasLeaves count tree) (winners : HasWinners count tree) where
  from-leaf : (n i : ℕ) → 2 * count ≤ i + n → 1 ≤ i → i < 2 * count → (e : Entrant) → entrant_at tree i ≡ Some e → IsAtLeaf count tree e
  from-leaf zero i enough one below e is = absurd (omega arith)
  from-leaf (suc n) i enough one below e is = by (from-leaf n (2 * i)) (from-leaf n (2 * i + 1)) (cases_lt i count)
    where
      inner : Comes tree count n (2 * i) → Comes tree count n (2 * i + 1) → i < count → (better (entrant_at tree (2 * i)) (entrant_at tree (2 * i + 1)) ≡ entrant_at tree (2 * i)) ⊎ (better (entrant_at tree (2 * i)) (entrant_at tree (2 * i + 1)) ≡ entrant_at tree (2 * i + 1)) → IsAtLeaf count tree e
      inner left right h (inl l) = left (omega arith) (omega arith) (omega arith) e (sym l ∙ sym (winners.each i one h) ∙ is)
      inner left right h (inr r) = right (omega arith) (omega arith) (omega arith) e (sym r ∙ sym (winners.each i one h) ∙ is)

      by : Comes tree count n (2 * i) → Comes tree count n (2 * i + 1) → (i < count) ⊎ (count ≤ i) → IsAtLeaf count tree e
      by left right (inl h) = inner left right h (better-one (entrant_at tree (2 * i)) (entrant_at tree (2 * i + 1)))
      by left right (inr h) =
          let at : count + (i - count) ≡ i = omega arith in
          let place : e.place ≡ i - count = some-place (entrant_at tree (count + (i - count))) e (i - count) (ap (entrant_at tree) at ∙ is) (leaves.each (i - count) (omega arith)) in
          record { below = omega arith; at = ap (λ (k : ℕ). entrant_at tree (count + k)) place ∙ ap (entrant_at tree) at ∙ is }

-- ---- the keys

key-at-map : (xs : List (Option Entrant)) (k : ℕ) → key_at (map key_of_entrant xs) k ≡ key_of_entrant (entrant_at xs k)
key-at-map [] k = refl
key-at-map (x ∷ xs) zero = refl
key-at-map (x ∷ xs) (suc k) = key-at-map xs k

key-at-leaf : (count : ℕ) (tree : List (Option Entrant)) (k : ℕ) → key_at (keys_of count tree) k ≡ key_of_entrant (entrant_at tree (count + k))
key-at-leaf count tree k = key-at-map (drop count tree) k ∙ ap key_of_entrant (get_or-drop count tree k None)

pub length-keys : (count : ℕ) (tree : List (Option Entrant)) → HasLeaves count tree → length (keys_of count tree) ≡ count
length-keys count tree leaves =
    let m = length-map (drop count tree) key_of_entrant in
    let d = length-drop count tree in
    let s = leaves.size in
    omega (arith, m, d, s)

no-key : (o : ℕ) → key_of_entrant None ≡ Some o → ⊥
no-key o e = cc

-- a place with a key is one of the leaves
has-leaf : (count : ℕ) (tree : List (Option Entrant)) → HasLeaves count tree → (j other : ℕ) → key_at (keys_of count tree) j ≡ Some other → j < count
has-leaf count tree leaves j other e = by (cases_lt j count)
  where
    by : (j < count) ⊎ (count ≤ j) → j < count
    by (inl h) = h
    by (inr h) = let s = leaves.size in
        absurd (no-key other (sym (ap key_of_entrant (get_or_past tree (count + j) None (omega arith))) ∙ (sym (key-at-leaf count tree j) ∙ e)))

of-key : (x : Option Entrant) (other : ℕ) → key_of_entrant x ≡ Some other → (e : Entrant) × (x ≡ Some e) × (e.key ≡ other)
of-key None other e = absurd (no-key other e)
of-key (Some a) other e = (a, refl, cc)

pub first-of-least : (tree : List (Option Entrant)) (count : ℕ) → IsTournament tree count → (first : Entrant) → entrant_at tree 1 ≡ Some first → 1 ≤ count → IsFirstOfLeast (keys_of count tree) first.place
first-of-least tree count is first root some = record {
  key = first.key;
  within = (let n = length-keys count tree is.leaves in let b = here.below in omega arith);
  present = key-at-leaf count tree first.place ∙ ap key_of_entrant here.at;
  least = λ j other e. (let f = found j other e in let k = f.1.key in let s = f.2 in omega (arith, k, s));
  earlier = λ j other before e. (let f = found j other e in let k = f.1.key in let s = f.2 in let p = f.1.place in let at = f.3 in by f.0.key f.0.place k s p at before);
}
  where
    here : IsAtLeaf count tree first
    here = from-leaf tree count is.leaves is.winners (2 * count) 1 (omega arith) (omega arith) (omega arith) first root

    by : {j other : ℕ} (key place : ℕ) → first.key ≤ key → key ≡ other → (key ≤ first.key → first.place ≤ place) → place ≡ j → j < first.place → first.key < other
    by {j} {other} key place k s p at before = of (cases_lt first.key key)
      where
        of : (first.key < key) ⊎ (key ≤ first.key) → first.key < other
        of (inl h) = omega arith
        of (inr h) = let q = p h in absurd (omega arith)

    found : (j other : ℕ) → key_at (keys_of count tree) j ≡ Some other → (e : Entrant) × NotAfter first e × (e.key ≡ other) × (e.place ≡ j)
    found j other e =
        let below = has-leaf count tree is.leaves j other e in
        let o = of-key (entrant_at tree (count + j)) other (sym (key-at-leaf count tree j) ∙ e) in
        let best = root-best tree count is.winners (count + j) (count + j) (omega arith) (omega arith) (omega arith) in
        let not_after : NotAfter first o.0 = subst (λ (x : Option Entrant). NoWorse x (Some o.0)) root (subst (λ (x : Option Entrant). NoWorse (entrant_at tree 1) x) o.1 best) in
        (o.0, not_after, o.2, some-place (entrant_at tree (count + j)) o.0 j o.1 (is.leaves.each j below))

pub none-present : (tree : List (Option Entrant)) (count : ℕ) → IsTournament tree count → (1 ≤ count → entrant_at tree 1 ≡ None) → NonePresent (keys_of count tree)
none-present tree count is root j = by (cases_lt j count)
  where
    nothing : (x : Option Entrant) → NoWorse None x → x ≡ None
    nothing None w = refl
    nothing (Some e) w = absurd w

    by : (j < count) ⊎ (count ≤ j) → key_at (keys_of count tree) j ≡ None
    by (inl h) =
        let best = root-best tree count is.winners (count + j) (count + j) (omega arith) (omega arith) (omega arith) in
        key-at-leaf count tree j ∙ ap key_of_entrant (nothing (entrant_at tree (count + j)) (subst (λ (x : Option Entrant). NoWorse x (entrant_at tree (count + j))) (root (omega arith)) best))
    by (inr h) = let s = is.leaves.size in key-at-leaf count tree j ∙ ap key_of_entrant (get_or_past tree (count + j) None (omega arith))

-- ---- a change

pub climbs : (count : ℕ) (tree : List (Option Entrant)) (node : ℕ) (x : Option Entrant) → x ≡ better (entrant_at tree (2 * node)) (entrant_at tree (2 * node + 1)) → 1 ≤ node → node < count → length tree ≡ 2 * count
    → HasWinnersBut node count tree → HasWinnersBut (node / 2) count (set tree node x)
climbs count tree node x is low below size winners = record { each = λ i one inner far. by i one inner far (cases_eq i node) }
  where
    same : (i : ℕ) → i ≢ node → entrant_at (set tree node x) i ≡ entrant_at tree i
    same i far = get_or-set_other tree node i x None far

    left : (i : ℕ) → 1 ≤ i → i ≡ node → 2 * i ≢ node
    left i a e f = omega arith

    right : (i : ℕ) → 1 ≤ i → i ≡ node → 2 * i + 1 ≢ node
    right i a e f = omega arith

    up_left : (i : ℕ) → i ≢ node / 2 → 2 * i ≢ node
    up_left i far f = far (omega (arith, f))

    up_right : (i : ℕ) → i ≢ node / 2 → 2 * i + 1 ≢ node
    up_right i far f = far (omega (arith, f))

    by : (i : ℕ) → 1 ≤ i → i < count → i ≢ node / 2 → (i ≡ node) ⊎ (i ≡ node → ⊥) → HasBetter (set tree node x) i
    by i a inner far (inl e) =
        ap (entrant_at (set tree node x)) e ∙ get_or-set_same tree node x None (omega arith) ∙ is
        ∙ ap (λ (n : ℕ). better (entrant_at tree (2 * n)) (entrant_at tree (2 * n + 1))) (sym e)
        ∙ (λ j. better (sym (same (2 * i) (left i a e)) j) (sym (same (2 * i + 1) (right i a e)) j))
    by i a inner far (inr other) =
        same i other ∙ winners.each i a inner other ∙ (λ j. better (sym (same (2 * i) (up_left i far)) j) (sym (same (2 * i + 1) (up_right i far)) j))

pub at-root : (count : ℕ) (tree : List (Option Entrant)) → HasWinnersBut 0 count tree → HasWinners count tree
at-root count tree winners = record { each = λ i a inner. winners.each i a inner (λ e. none i a e) }
  where
    none : (i : ℕ) → 1 ≤ i → i ≡ 0 → ⊥
    none i a e = omega arith

pub leaf-set : (count : ℕ) (tree : List (Option Entrant)) (leaf : ℕ) (x : Option Entrant) → HasWinners count tree → count ≤ leaf → HasWinnersBut (leaf / 2) count (set tree leaf x)
leaf-set count tree leaf x winners low = record { each = by }
  where
    same : (i : ℕ) → i ≢ leaf → entrant_at (set tree leaf x) i ≡ entrant_at tree i
    same i far = get_or-set_other tree leaf i x None far

    inner_node : (i : ℕ) → i < count → i ≢ leaf
    inner_node i h e = omega arith

    up_left : (i : ℕ) → i ≢ leaf / 2 → 2 * i ≢ leaf
    up_left i far f = far (omega (arith, f))

    up_right : (i : ℕ) → i ≢ leaf / 2 → 2 * i + 1 ≢ leaf
    up_right i far f = far (omega (arith, f))

    by : (i : ℕ) → 1 ≤ i → i < count → i ≢ leaf / 2 → HasBetter (set tree leaf x) i
    by i a inner far =
        same i (inner_node i inner) ∙ winners.each i a inner ∙ (λ j. better (sym (same (2 * i) (up_left i far)) j) (sym (same (2 * i + 1) (up_right i far)) j))

pub leaves-stay : (count : ℕ) (first tree : List (Option Entrant)) (node : ℕ) (x : Option Entrant) → HasSameLeaves count first tree → node < count → HasSameLeaves count first (set tree node x)
leaves-stay count first tree node x same inner = record {
  size = length-set tree node x ∙ same.size;
  each = λ i leaf. get_or-set_other tree node i x None (differ i leaf) ∙ same.each i leaf;
}
  where
    differ : (i : ℕ) → count ≤ i → i ≢ node
    differ i leaf e = omega arith

pub set-keys : (count : ℕ) (tree new : List (Option Entrant)) (place : ℕ) (x : Option Entrant) → HasSameLeaves count (set tree (count + place) x) new → keys_of count new ≡ set (keys_of count tree) place (key_of_entrant x)
set-keys count tree new place x same =
    ext_get_or None (keys_of count new) (keys_of count (set tree (count + place) x)) (
    let a = length-map (drop count new) key_of_entrant in
    let b = length-map (drop count (set tree (count + place) x)) key_of_entrant in
    a ∙ length-drop count new ∙ ap (λ (n : ℕ). n - count) same.size ∙ sym (length-drop count (set tree (count + place) x)) ∙ sym b
    ) (λ i below. key-at-leaf count new i ∙ ap key_of_entrant (same.each (count + i) (omega arith)) ∙ sym (key-at-leaf count (set tree (count + place) x) i))
    ∙ ap (map key_of_entrant) (drop-set-add count tree place x)
    ∙ map-set key_of_entrant (drop count tree) place x

pub set-tournament : (count : ℕ) (tree new : List (Option Entrant)) (place : ℕ) (x : Option Entrant) → IsTournament tree count → place < count → IfSome x (λ (e : Entrant). e.place ≡ place)
    → HasSameLeaves count (set tree (count + place) x) new → HasWinners count new → IsTournament new count
set-tournament count tree new place x is below at same winners = record {
  few = is.few;
  leaves = record { size = same.size ∙ length-set tree (count + place) x ∙ is.leaves.size; each = λ k h. by k h (cases_eq k place) };
  winners = winners;
}
  where
    HasPlace : ℕ → Option Entrant → Type 0
    HasPlace k y = IfSome y (λ (e : Entrant). e.place ≡ k)

    inside : count + place < length tree
    inside = let s = is.leaves.size in omega arith

    by : (k : ℕ) → k < count → (k ≡ place) ⊎ (k ≡ place → ⊥) → IfSome (entrant_at new (count + k)) (λ (e : Entrant). e.place ≡ k)
    by k h (inl e) =
        let now : entrant_at new (count + k) ≡ x = ap (λ (i : ℕ). entrant_at new (count + i)) e ∙ same.each (count + place) (omega arith) ∙ get_or-set_same tree (count + place) x None inside in
        subst (λ (y : Option Entrant). IfSome y (λ (e : Entrant). e.place ≡ k)) (sym now) (subst (λ (i : ℕ). IfSome x (λ (e : Entrant). e.place ≡ i)) (sym e) at)
    by k h (inr far) =
        let apart : count + k ≢ count + place = (λ e. far (omega arith)) in
        let now : entrant_at new (count + k) ≡ entrant_at tree (count + k) = same.each (count + k) (omega arith) ∙ get_or-set_other tree (count + place) (count + k) x None apart in
        subst (λ (y : Option Entrant). IfSome y (λ (e : Entrant). e.place ≡ k)) (sym now) (is.leaves.each k h)

-- ---- a new one

none-at : (n i : ℕ) → entrant_at (replicate n None) i ≡ None
none-at zero i = refl
none-at (suc n) zero = refl
none-at (suc n) (suc i) = none-at n i

pub new-tournament : (count : ℕ) (tree : List (Option Entrant)) → tree ≡ replicate (2 * count) None → count < 2 ^ 32 → IsTournament tree count
new-tournament count tree is few = subst (λ (t : List (Option Entrant)). IsTournament t count) (sym is) (record {
  few = few;
  leaves = record {
    size = length-replicate (2 * count) None;
    each = λ k h. subst (λ (y : Option Entrant). IfSome y (λ (e : Entrant). e.place ≡ k)) (sym (none-at (2 * count) (count + k))) tt;
  };
  winners = record { each = λ i one inner. none-at (2 * count) i ∙ (λ j. better (sym (none-at (2 * count) (2 * i)) j) (sym (none-at (2 * count) (2 * i + 1)) j)) };
})

map-none : (n : ℕ) → map key_of_entrant (replicate n None) ≡ replicate n None
map-none zero = refl
map-none (suc n) = ap (λ (xs : List (Option ℕ)). None ∷ xs) (map-none n)

pub new-keys : (count : ℕ) (tree : List (Option Entrant)) → tree ≡ replicate (2 * count) None → keys_of count tree ≡ replicate count None
new-keys count tree is =
    let rest : 2 * count - count ≡ count = omega arith in
    ap (keys_of count) is ∙ ap (map key_of_entrant) (drop-replicate count (2 * count) None) ∙ map-none (2 * count - count) ∙ ap (λ (n : ℕ). replicate n None) rest

pub key-of : (place : ℕ) (key : Option ℕ) → key_of_entrant (entrant_of place key) ≡ key
key-of place None = refl
key-of place (Some key) = refl

pub place-of : (place : ℕ) (key : Option ℕ) → IfSome (entrant_of place key) (λ (e : Entrant). e.place ≡ place)
place-of place None = tt
place-of place (Some key) = refl
