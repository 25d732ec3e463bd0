-- Lists of addresses.
use Rattle.std.proofs.Common.{◌≡◌, ℕ, zero, suc, ◌+◌, ◌≤◌, ◌<◌, Bool, true, false, not, ◌&&◌, ◌||◌, cond, nat_lt, ◌==◌, List, [], ◌∷◌, ◌++◌, length, filter, take, get_or, refl, sym, ap, subst, ◌∙◌, ◌⊎◌, inl, inr, arith, length-append}
use Rattle.std.proofs.lemmas.Bool.{and_parts, and_from, or_cases, not_from_true, not_from_false, cond-true, cond-false, ltb-true, lt-ltb, le-ltb, eq-eqb, ne_eqb, cases_Bool, cases_eq, cases_order}
use Rattle.std.proofs.lemmas.List.{take-append-le, take_all}
use Rattle.std.proofs.lemmas.List.Elements.{filter_more, filter-append}
use Rattle.std.specs.List.{list_any, list_all}
use Rattle.nl_field.specs.Members.{Has}
use Rattle.nl_meta.specs.Pages.{most, rises, besides_0, below, above, with_address, first_most, touched}

-- ---- steps of loops

pub filtered_more : (t : ℕ → Bool) (xs : List ℕ) (i : ℕ) → i < length xs → t (get_or xs i 0) ≡ true → filter t (take (i + 1) xs) ≡ filter t (take i xs) ++ get_or xs i 0 ∷ []
filtered_more t xs i lt is = filter_more t xs i 0 lt ∙ ap (λ b. filter t (take i xs) ++ cond b (get_or xs i 0 ∷ []) []) is

pub filtered_same : (t : ℕ → Bool) (xs : List ℕ) (i : ℕ) → i < length xs → t (get_or xs i 0) ≡ false → filter t (take (i + 1) xs) ≡ filter t (take i xs)
filtered_same t xs i lt is = filter_more t xs i 0 lt ∙ ap (λ b. filter t (take i xs) ++ cond b (get_or xs i 0 ∷ []) []) is ∙ none (filter t (take i xs))
  where
    none : (ys : List ℕ) → ys ++ [] ≡ ys
    none [] = refl
    none (y ∷ ys) = ap (λ zs. y ∷ zs) (none ys)

pub filtered_few : (t : ℕ → Bool) (xs : List ℕ) → length (filter t xs) ≤ length xs
filtered_few t [] = omega arith
filtered_few t (x ∷ xs) = let h = filtered_few t xs in elim (t x) as (λ b. length (cond b (x ∷ filter t xs) (filter t xs)) ≤ suc (length xs)) [ true ↦ omega (arith, h) | false ↦ omega (arith, h) ]

pub taken_few : (t : ℕ → Bool) (xs : List ℕ) (i : ℕ) → length (filter t (take i xs)) ≤ length (filter t xs)
taken_few t xs zero = omega arith
taken_few t [] (suc i) = omega arith
taken_few t (x ∷ xs) (suc i) = let h = taken_few t xs i in elim (t x) as (λ b. length (cond b (x ∷ filter t (take i xs)) (filter t (take i xs))) ≤ length (cond b (x ∷ filter t xs) (filter t xs))) [ true ↦ omega (arith, h) | false ↦ h ]

-- ---- how many

module _ (t : ℕ → Bool) (v : ℕ) where
  abbrev kept : List ℕ → List ℕ
  kept xs = filter t xs

  abbrev equal : List ℕ → List ℕ
  equal xs = filter (λ a. t a && a == v) xs

  abbrev shown : ℕ → List ℕ → Bool → Bool → Bool → ℕ
  shown x xs a b e = length (filter t (cond a (x ∷ below v xs) (below v xs))) + length (filter t (cond b (x ∷ above v xs) (above v xs))) + length (cond (t x && e) (x ∷ equal xs) (equal xs))

  pub split : (xs : List ℕ) → length (filter t (below v xs)) + length (filter t (above v xs)) + length (equal xs) ≡ length (filter t xs)
  split [] = refl
  split (x ∷ xs) = by (split xs) (cases_order x v)
    where
      by : length (filter t (below v xs)) + length (filter t (above v xs)) + length (equal xs) ≡ length (filter t xs) → (x ≡ v) ⊎ ((x < v) ⊎ (v < x)) → shown x xs (nat_lt x v) (nat_lt v x) (x == v) ≡ length (filter t (x ∷ xs))
      by rest (inl e) = (λ i. shown x xs (le-ltb x v (least e) i) (le-ltb v x (most_of e) i) (eq-eqb x v e i)) ∙ one (t x)
        where
          least : x ≡ v → v ≤ x
          least e = omega arith

          most_of : x ≡ v → x ≤ v
          most_of e = omega arith

          one : (b : Bool) → length (filter t (below v xs)) + length (filter t (above v xs)) + length (cond (b && true) (x ∷ equal xs) (equal xs)) ≡ length (cond b (x ∷ filter t xs) (filter t xs))
          one true = omega (arith, rest)
          one false = rest
      by rest (inr (inl h)) = (λ i. shown x xs (lt-ltb x v h i) (le-ltb v x (later h) i) (ne_eqb x v (not_equal h) i)) ∙ one (t x)
        where
          later : x < v → x ≤ v
          later h = omega arith

          not_equal : x < v → x ≡ v → ⊥
          not_equal h e = omega arith

          one : (b : Bool) → length (cond b (x ∷ filter t (below v xs)) (filter t (below v xs))) + length (filter t (above v xs)) + length (cond (b && false) (x ∷ equal xs) (equal xs)) ≡ length (cond b (x ∷ filter t xs) (filter t xs))
          one true = omega (arith, rest)
          one false = rest
      by rest (inr (inr h)) = (λ i. shown x xs (le-ltb x v (later h) i) (lt-ltb v x h i) (ne_eqb x v (not_equal h) i)) ∙ one (t x)
        where
          later : v < x → v ≤ x
          later h = omega arith

          not_equal : v < x → x ≡ v → ⊥
          not_equal h e = omega arith

          one : (b : Bool) → length (filter t (below v xs)) + length (cond b (x ∷ filter t (above v xs)) (filter t (above v xs))) + length (cond (b && false) (x ∷ equal xs) (equal xs)) ≡ length (cond b (x ∷ filter t xs) (filter t xs))
          one true = omega (arith, rest)
          one false = rest

pub all_kept : (xs : List ℕ) → filter (λ _. true) xs ≡ xs
all_kept [] = refl
all_kept (x ∷ xs) = ap (λ ys. x ∷ ys) (all_kept xs)

-- an address of the list is one of its equals
pub some_equal : (t : ℕ → Bool) (v : ℕ) (xs : List ℕ) → list_any (λ a. a == v) xs ≡ true → t v ≡ true → 1 ≤ length (filter (λ a. t a && a == v) xs)
some_equal t v [] e is = absurd (none e)
  where
    none : false ≡ true → ⊥
    none e = cc
some_equal t v (x ∷ xs) e is = by (λ h. some_equal t v xs h is) (cases_eq x v)
  where
    by : (list_any (λ a. a == v) xs ≡ true → 1 ≤ length (filter (λ a. t a && a == v) xs)) → (x ≡ v) ⊎ (x ≡ v → ⊥) → 1 ≤ length (cond (t x && x == v) (x ∷ filter (λ a. t a && a == v) xs) (filter (λ a. t a && a == v) xs))
    by rest (inl s) = subst (λ (b : Bool). 1 ≤ length (cond b (x ∷ filter (λ a. t a && a == v) xs) (filter (λ a. t a && a == v) xs))) (sym (and_from (t x) (x == v) (ap t s ∙ is) (eq-eqb x v s))) (omega arith)
    by rest (inr far) = more (t x && x == v) (rest (sym (ap (λ b. b || list_any (λ a. a == v) xs) (ne_eqb x v far)) ∙ e))
      where
        more : (b : Bool) → 1 ≤ length (filter (λ a. t a && a == v) xs) → 1 ≤ length (cond b (x ∷ filter (λ a. t a && a == v) xs) (filter (λ a. t a && a == v) xs))
        more true h = omega arith
        more false h = h

pub whole_length : (v : ℕ) (xs : List ℕ) → length (with_address v xs) ≡ length (below v xs) + length (above v xs) + 1
unfolding with_address
whole_length v xs = let h = length-append (below v xs) (v ∷ above v xs) in omega (arith, h)

-- ---- rising lists

pub all_above : (a : ℕ) (xs : List ℕ) → list_all (λ b. nat_lt a b) xs ≡ true → besides_0 xs ≡ xs
all_above a [] e = refl
all_above a (x ∷ xs) e =
    let p = and_parts _ _ e in
    let far : x ≡ 0 → ⊥ = not_0 (ltb-true a x p.0) in
    cond-true (not (x == 0)) _ _ (not_from_false _ (ne_eqb x 0 far)) ∙ ap (λ ys. x ∷ ys) (all_above a xs p.1)
  where
    not_0 : a < x → x ≡ 0 → ⊥
    not_0 h e = omega arith

pub few_beside : (xs : List ℕ) → rises xs ≡ true → length xs ≤ length (besides_0 xs) + 1
unfolding rises
few_beside [] e = omega arith
few_beside (x ∷ xs) e = by (few_beside xs (and_parts _ _ e).1) (cases_Bool (not (x == 0)))
  where
    parts : (list_all (λ b. nat_lt x b) xs ≡ true) × (rises xs ≡ true)
    parts = and_parts _ _ e

    by : length xs ≤ length (besides_0 xs) + 1 → (not (x == 0) ≡ true) ⊎ (not (x == 0) ≡ false) → suc (length xs) ≤ length (cond (not (x == 0)) (x ∷ besides_0 xs) (besides_0 xs)) + 1
    by rest (inl h) = subst (λ (b : Bool). suc (length xs) ≤ length (cond b (x ∷ besides_0 xs) (besides_0 xs)) + 1) (sym h) (omega (arith, rest))
    by rest (inr h) = subst (λ (b : Bool). suc (length xs) ≤ length (cond b (x ∷ besides_0 xs) (besides_0 xs)) + 1) (sym h) (let r = ap length (all_above x xs parts.0) in omega (arith, r))

all-append : {X : Type 0} (t : X → Bool) (xs ys : List X) → list_all t xs ≡ true → list_all t ys ≡ true → list_all t (xs ++ ys) ≡ true
all-append t [] ys a b = b
all-append t (x ∷ xs) ys a b = let p = and_parts _ _ a in and_from _ _ p.0 (all-append t xs ys p.1 b)

all-filter : {X : Type 0} (s t : X → Bool) (xs : List X) → list_all t xs ≡ true → list_all t (filter s xs) ≡ true
all-filter s t [] e = refl
all-filter s t (x ∷ xs) e = let p = and_parts _ _ e in elim (s x) as (λ b. list_all t (cond b (x ∷ filter s xs) (filter s xs)) ≡ true) [ true ↦ and_from _ _ p.0 (all-filter s t xs p.1) | false ↦ all-filter s t xs p.1 ]

filter-all : (s t : ℕ → Bool) (xs : List ℕ) → ((x : ℕ) → s x ≡ true → t x ≡ true) → list_all t (filter s xs) ≡ true
filter-all s t [] f = refl
filter-all s t (x ∷ xs) f = by (filter-all s t xs f) (s x) refl
  where
    by : list_all t (filter s xs) ≡ true → (b : Bool) → s x ≡ b → list_all t (cond b (x ∷ filter s xs) (filter s xs)) ≡ true
    by rest true e = and_from _ _ (f x e) rest
    by rest false e = rest

rises-filter : (s : ℕ → Bool) (xs : List ℕ) → rises xs ≡ true → rises (filter s xs) ≡ true
unfolding rises
rises-filter s [] e = refl
rises-filter s (x ∷ xs) e = let p = and_parts _ _ e in elim (s x) as (λ b. rises (cond b (x ∷ filter s xs) (filter s xs)) ≡ true) [
  | true ↦ and_from _ _ (all-filter s (λ b. nat_lt x b) xs p.0) (rises-filter s xs p.1)
  | false ↦ rises-filter s xs p.1
]

rises-join : (v : ℕ) (xs ys : List ℕ) → rises xs ≡ true → list_all (λ a. nat_lt a v) xs ≡ true → rises ys ≡ true → list_all (λ b. nat_lt v b) ys ≡ true → rises (xs ++ v ∷ ys) ≡ true
unfolding rises
rises-join v [] ys a b c d = and_from _ _ d c
rises-join v (x ∷ xs) ys a b c d =
    let p = and_parts _ _ a in
    let q = and_parts _ _ b in
    and_from _ _ (all-append (λ b. nat_lt x b) xs (v ∷ ys) p.0 (and_from _ _ q.0 (over x (ltb-true x v q.0) ys d))) (rises-join v xs ys p.1 q.1 c d)
  where
    over : (x : ℕ) → x < v → (ys : List ℕ) → list_all (λ b. nat_lt v b) ys ≡ true → list_all (λ b. nat_lt x b) ys ≡ true
    over x h [] e = refl
    over x h (y ∷ ys) e = let p = and_parts _ _ e in let q = ltb-true v y p.0 in and_from _ _ (lt-ltb x y (omega (arith, h, q))) (over x h ys p.1)

pub with-rises : (v : ℕ) (xs : List ℕ) → rises xs ≡ true → rises (with_address v xs) ≡ true
unfolding with_address
with-rises v xs e = rises-join v (below v xs) (above v xs) (rises-filter _ xs e) (filter-all (λ a. nat_lt a v) (λ a. nat_lt a v) xs (λ x h. h)) (rises-filter _ xs e) (filter-all (λ a. nat_lt v a) (λ a. nat_lt v a) xs (λ x h. h))

-- ---- members

pub member-kept : (t : ℕ → Bool) (xs : List ℕ) (u : ℕ) → Has (filter t xs) u → Has xs u
member-kept t [] u h = h
member-kept t (x ∷ xs) u h = by (λ m. member-kept t xs u m) (t x) h
  where
    by : (Has (filter t xs) u → Has xs u) → (b : Bool) → Has (cond b (x ∷ filter t xs) (filter t xs)) u → (x ≡ u) ⊎ Has xs u
    by rest true (inl e) = inl e
    by rest true (inr m) = inr (rest m)
    by rest false m = inr (rest m)

member-joined : (v : ℕ) (xs ys : List ℕ) (u : ℕ) → Has (xs ++ v ∷ ys) u → (v ≡ u) ⊎ (Has xs u ⊎ Has ys u)
member-joined v [] ys u (inl e) = inl e
member-joined v [] ys u (inr m) = inr (inr m)
member-joined v (x ∷ xs) ys u (inl e) = inr (inl (inl e))
member-joined v (x ∷ xs) ys u (inr m) = by (member-joined v xs ys u m)
  where
    by : (v ≡ u) ⊎ (Has xs u ⊎ Has ys u) → (v ≡ u) ⊎ (((x ≡ u) ⊎ Has xs u) ⊎ Has ys u)
    by (inl e) = inl e
    by (inr (inl m)) = inr (inl (inr m))
    by (inr (inr m)) = inr (inr m)

pub with-member : (v : ℕ) (xs : List ℕ) (u : ℕ) → Has (with_address v xs) u → (v ≡ u) ⊎ Has xs u
unfolding with_address
with-member v xs u h = by (member-joined v (below v xs) (above v xs) u h)
  where
    by : (v ≡ u) ⊎ (Has (below v xs) u ⊎ Has (above v xs) u) → (v ≡ u) ⊎ Has xs u
    by (inl e) = inl e
    by (inr (inl m)) = inr (member-kept _ xs u m)
    by (inr (inr m)) = inr (member-kept _ xs u m)

-- ---- room for one more

abbrev is_other : ℕ → Bool
is_other a = not (a == 0)

other-above-0 : (a : ℕ) → nat_lt 0 a ≡ is_other a
other-above-0 a = by (cases_eq a 0)
  where
    more : (a ≡ 0 → ⊥) → 0 < a
    more far = omega (arith, far)

    by : (a ≡ 0) ⊎ (a ≡ 0 → ⊥) → nat_lt 0 a ≡ is_other a
    by (inl e) = ap (λ (n : ℕ). nat_lt 0 n) e ∙ ap (λ (n : ℕ). not (n == 0)) (sym e)
    by (inr far) = lt-ltb 0 a (more far) ∙ sym (not_from_false _ (ne_eqb a 0 far))

above-0 : (xs : List ℕ) → above 0 xs ≡ besides_0 xs
above-0 xs = λ i. filter (λ a. other-above-0 a i) xs

below-0 : (xs : List ℕ) → below 0 xs ≡ []
below-0 [] = refl
below-0 (x ∷ xs) = cond-false (nat_lt x 0) _ _ (le-ltb x 0 (omega arith)) ∙ below-0 xs

pub record Room (v : ℕ) (xs : List ℕ) : Type 0 where
  pub whole : length (with_address v xs) ≤ 64
  pub others : length (besides_0 (with_address v xs)) ≤ most

others-length : (v : ℕ) (xs : List ℕ) → length (besides_0 (with_address v xs)) ≡ length (besides_0 (below v xs)) + length (cond (is_other v) (v ∷ besides_0 (above v xs)) (besides_0 (above v xs)))
unfolding with_address
others-length v xs =
    ap length (filter-append is_other (below v xs) (v ∷ above v xs))
    ∙ length-append (besides_0 (below v xs)) (cond (is_other v) (v ∷ besides_0 (above v xs)) (besides_0 (above v xs)))

pub room : (v : ℕ) (xs : List ℕ) → rises xs ≡ true → length xs ≤ 64 → length (besides_0 xs) ≤ most
    → (v == 0 || list_any (λ a. a == v) xs || nat_lt (length (besides_0 xs)) most) ≡ true → Room v xs
room v xs rise few few_others has = by (cases_eq v 0)
  where
    of : (v ≡ 0 → ⊥) → (list_any (λ a. a == v) xs ≡ true) ⊎ (nat_lt (length (besides_0 xs)) most ≡ true)
    of far = or_cases _ _ (sym (ap (λ b. b || list_any (λ a. a == v) xs || nat_lt (length (besides_0 xs)) most) (ne_eqb v 0 far)) ∙ has)

    at : length (below v xs) + length (above v xs) + length (filter (λ a. true && a == v) xs) ≡ length xs
    at = (λ i. length (sym (all_kept (below v xs)) i) + length (sym (all_kept (above v xs)) i) + length (filter (λ a. true && a == v) xs)) ∙ split (λ _. true) v xs ∙ ap length (all_kept xs)

    others : length (besides_0 (below v xs)) + length (besides_0 (above v xs)) + length (filter (λ a. is_other a && a == v) xs) ≡ length (besides_0 xs)
    others = split is_other v xs

    of_other : (v ≡ 0 → ⊥) → length (besides_0 (with_address v xs)) ≡ length (besides_0 (below v xs)) + suc (length (besides_0 (above v xs)))
    of_other far = others-length v xs ∙ ap (λ ys. length (besides_0 (below v xs)) + length ys) (cond-true (is_other v) _ _ (not_from_false _ (ne_eqb v 0 far)))

    later : (v ≡ 0 → ⊥) → (list_any (λ a. a == v) xs ≡ true) ⊎ (nat_lt (length (besides_0 xs)) most ≡ true) → Room v xs
    later far (inl e) =
        let n = whole_length v xs in
        let s = some_equal (λ _. true) v xs e refl in
        let s2 = some_equal is_other v xs e (not_from_false _ (ne_eqb v 0 far)) in
        let k = of_other far in
        let a = at in
        let o = others in
        record { whole = omega (arith, n, s, a, few); others = omega (arith, k, s2, o, few_others) }
    later far (inr e) =
        let n = whole_length v xs in
        let r = few_beside xs rise in
        let b = ltb-true _ _ e in
        let k = of_other far in
        let a = at in
        let o = others in
        record { whole = omega (arith, n, a, r, b); others = omega (arith, k, o, b) }

    zero_below : v ≡ 0 → length (below v xs) ≡ 0
    zero_below z = ap (λ (w : ℕ). length (below w xs)) z ∙ ap length (below-0 xs)

    zero_above : v ≡ 0 → length (above v xs) ≡ length (besides_0 xs)
    zero_above z = ap (λ (w : ℕ). length (above w xs)) z ∙ ap length (above-0 xs)

    zero_others : v ≡ 0 → length (besides_0 (with_address v xs)) ≡ length (besides_0 (below v xs)) + length (besides_0 (above v xs))
    zero_others z = others-length v xs ∙ ap (λ ys. length (besides_0 (below v xs)) + length ys) (cond-false (is_other v) _ _ (not_from_true _ (eq-eqb v 0 z)))

    by : (v ≡ 0) ⊎ (v ≡ 0 → ⊥) → Room v xs
    by (inr far) = later far (of far)
    by (inl z) =
        let n = whole_length v xs in
        let b = zero_below z in
        let a = zero_above z in
        let o = others in
        let k = zero_others z in
        record { whole = omega (arith, n, a, b, few_others); others = omega (arith, k, o, few_others) }

-- ---- the last touched

take-then : (n : ℕ) (xs : List ℕ) (x : ℕ) → take n (take n xs ++ x ∷ []) ≡ take n (xs ++ x ∷ [])
take-then zero xs x = refl
take-then (suc n) [] x = refl
take-then (suc n) (y ∷ xs) x = ap (λ ys. y ∷ ys) (take-then n xs x)

abbrev is_not : ℕ → ℕ → Bool
is_not v a = not (a == v)

pub touched_more : (v : ℕ) (xs : List ℕ) (i : ℕ) → i < length xs → is_not v (get_or xs i 0) ≡ true → first_most (touched v (take i xs) ++ get_or xs i 0 ∷ []) ≡ touched v (take (i + 1) xs)
unfolding touched first_most
touched_more v xs i lt is = take-then most (v ∷ filter (is_not v) (take i xs)) (get_or xs i 0) ∙ ap (λ ys. take most (v ∷ ys)) (sym (filtered_more (is_not v) xs i lt is))

pub touched_same : (v : ℕ) (xs : List ℕ) (i : ℕ) → i < length xs → is_not v (get_or xs i 0) ≡ false → touched v (take i xs) ≡ touched v (take (i + 1) xs)
unfolding touched
touched_same v xs i lt is = ap (λ ys. first_most (v ∷ ys)) (sym (filtered_same (is_not v) xs i lt is))

pub touched_none : (v : ℕ) (xs : List ℕ) → v ∷ [] ≡ touched v (take 0 xs)
unfolding touched first_most
touched_none v xs = refl

pub taken_most : (n : ℕ) (xs : List ℕ) → length (take n xs) ≤ n
taken_most zero xs = omega arith
taken_most (suc n) [] = omega arith
taken_most (suc n) (x ∷ xs) = let h = taken_most n xs in omega (arith, h)

pub touched_few : (v : ℕ) (recent : List ℕ) → length (touched v recent) ≤ most
unfolding touched first_most
touched_few v recent = taken_most most (v ∷ filter (is_not v) recent)

pub few_taken : (t : ℕ → Bool) (xs : List ℕ) (i : ℕ) → length (filter t (take i xs)) ≤ i
few_taken t xs i = let a = filtered_few t (take i xs) in let b = taken_most i xs in omega (arith, a, b)

pub one_less : (t : ℕ → Bool) (xs : List ℕ) (i : ℕ) → i < length xs → t (get_or xs i 0) ≡ true → length (filter t (take i xs)) < length (filter t xs)
one_less t xs i lt is =
    let a = ap length (filtered_more t xs i lt is) in
    let b = length-append (filter t (take i xs)) (get_or xs i 0 ∷ []) in
    let c = taken_few t xs (i + 1) in
    omega (arith, a, b, c)

pub first_whole : (xs : List ℕ) → length xs ≤ most → first_most xs ≡ xs
unfolding first_most
first_whole xs h = take_all most xs h

pub first_full : (xs ys : List ℕ) → length xs ≡ most → first_most (xs ++ ys) ≡ xs
unfolding first_most
first_full xs ys h = take-append-le most xs ys (omega (arith, h)) ∙ take_all most xs (omega (arith, h))

-- where no address is this one, none is left out
others_stay : (v : ℕ) (xs : List ℕ) → list_any (λ a. a == v) xs ≡ false → filter (is_not v) xs ≡ xs
others_stay v [] e = refl
others_stay v (x ∷ xs) e = by (others_stay v xs) (x == v) refl e
  where
    by : (list_any (λ a. a == v) xs ≡ false → filter (is_not v) xs ≡ xs) → (b : Bool) → (x == v) ≡ b → (b || list_any (λ a. a == v) xs) ≡ false
        → filter (is_not v) (x ∷ xs) ≡ x ∷ xs
    by rest true is e = absurd (cc e)
    by rest false is e = ap (λ c. cond (not c) (x ∷ filter (is_not v) xs) (filter (is_not v) xs)) is ∙ ap (λ ys. x ∷ ys) (rest e)

-- an address that was touched last, and stands nowhere else
pub touched_front : (v : ℕ) (rest : List ℕ) → list_any (λ a. a == v) rest ≡ false → length rest < most → touched v (v ∷ rest) ≡ v ∷ rest
unfolding touched first_most
touched_front v rest none few =
    let drops : filter (is_not v) (v ∷ rest) ≡ filter (is_not v) rest = ap (λ b. cond (not b) (v ∷ filter (is_not v) rest) (filter (is_not v) rest)) (eq-eqb v v refl) in
    ap (λ ys. take most (v ∷ ys)) (drops ∙ others_stay v rest none) ∙ take_all most (v ∷ rest) (omega (arith, few))
