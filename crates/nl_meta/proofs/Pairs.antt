-- The first element at fault, where an element is at fault by itself or with an earlier one; and what holds of each two elements of a list.
use Rattle.std.proofs.Common.{◌≡◌, ℕ, zero, suc, ◌+◌, ◌≤◌, ◌<◌, Bool, true, false, not, ◌||◌, cond, List, [], ◌∷◌, ◌++◌, map, filter, filter_map, flat_map, refl, sym, ap, subst, ◌∙◌, Option, Some, None, ◌⊎◌, inl, inr, arith, ◌≢◌, ◌==◌, length}
use Rattle.std.proofs.lemmas.Bool.{or_parts, or_from, cond-false, not_from_true, not-false, not_from_false, not-true, eqb-true, eqb-false, ne_eqb}
use Rattle.std.specs.List.{list_any, range_with_len, cons_option, enumerate_from}
use Rattle.nl_field.specs.Members.{Has}
use Rattle.nl_meta.specs.Walk.{first_after}
use Rattle.nl_meta.proofs.Facts.{EachTwo}
use Rattle.nl_meta.proofs.Lists.{some_in, none_some, any-none, none-any, member-range, member-filter, member-map, map-member, member-append, append-member-left, append-member-right, member-flat, member-some, some-member}

pub record FaultParts {X : Type 0} (test : List X → X → Bool) (own : X → Bool) (clash : X → X → Bool) : Type 0 where
  pub parts : (earlier : List X) (x : X) → test earlier x ≡ (not (own x) || list_any (λ e. clash e x) earlier)

module _ {X : Type 0} (test : List X → X → Bool) (own : X → Bool) (clash : X → X → Bool) (is : FaultParts test own clash) where
  pub first_none : (earlier xs : List X) → first_after test earlier xs ≡ None
      → ((x : X) → Has xs x → own x ≡ true) × ((x : X) → Has xs x → (e : X) → Has earlier e → clash e x ≡ false) × EachTwo (λ e x. clash e x ≡ false) xs
  first_none earlier [] e = ((λ x h. absurd h), (λ x h. absurd h), tt)
  first_none earlier (y ∷ xs) e =
      elim (test earlier y) as (λ b. test earlier y ≡ b → cond b (Some y) (first_after test (y ∷ earlier) xs) ≡ None
      → ((x : X) → Has (y ∷ xs) x → own x ≡ true) × ((x : X) → Has (y ∷ xs) x → (e : X) → Has earlier e → clash e x ≡ false) × EachTwo (λ e x. clash e x ≡ false) (y ∷ xs)) [
        | true ↦ λ b e. absurd (none_some y (sym e))
        | false ↦ λ b e. by (first_none (y ∷ earlier) xs e) (or_parts _ _ (sym (is.parts earlier y) ∙ b))
      ] refl e
    where
      by : ((x : X) → Has xs x → own x ≡ true) × ((x : X) → Has xs x → (e : X) → Has (y ∷ earlier) e → clash e x ≡ false) × EachTwo (λ e x. clash e x ≡ false) xs
          → (not (own y) ≡ false) × (list_any (λ e. clash e y) earlier ≡ false)
          → ((x : X) → Has (y ∷ xs) x → own x ≡ true) × ((x : X) → Has (y ∷ xs) x → (e : X) → Has earlier e → clash e x ≡ false) × EachTwo (λ e x. clash e x ≡ false) (y ∷ xs)
      by r h = (
        (λ x m. elim m as (λ m. own x ≡ true) [ inl s ↦ ap own (sym s) ∙ not-false _ h.0 | inr m ↦ r.0 x m ]),
        (λ x m e n. elim m as (λ m. clash e x ≡ false) [ inl s ↦ ap (clash e) (sym s) ∙ any-none (λ e. clash e y) earlier h.1 e n | inr m ↦ r.1 x m e (inr n) ]),
        ((λ x m. r.1 x m y (inl refl)), r.2),
      )

  pub none_first : (earlier xs : List X) → ((x : X) → Has xs x → own x ≡ true) → ((x : X) → Has xs x → (e : X) → Has earlier e → clash e x ≡ false) → EachTwo (λ e x. clash e x ≡ false) xs
      → first_after test earlier xs ≡ None
  none_first earlier [] good apart two = refl
  none_first earlier (y ∷ xs) good apart two =
      cond-false (test earlier y) (Some y) (first_after test (y ∷ earlier) xs)
      (is.parts earlier y ∙ or_from _ _ (not_from_true _ (good y (inl refl))) (none-any (λ e. clash e y) earlier (λ e n. apart y (inl refl) e n)))
      ∙ none_first (y ∷ earlier) xs (λ x m. good x (inr m)) (λ x m e n. by x m e n) two.1
    where
      by : (x : X) → Has xs x → (e : X) → (y ≡ e) ⊎ Has earlier e → clash e x ≡ false
      by x m e (inl s) = ap (λ (z : X). clash z x) (sym s) ∙ two.0 x m
      by x m e (inr n) = apart x (inr m) e n

pub two_map : {X : Type 0} (r s : X → X → Type 0) → ((x y : X) → r x y → s x y) → (xs : List X) → EachTwo r xs → EachTwo s xs
two_map r s f [] h = tt
two_map r s f (x ∷ xs) h = ((λ y m. f x y (h.0 y m)), two_map r s f xs h.1)

pub two_members : {X : Type 0} (r : X → X → Type 0) (xs : List X) → EachTwo r xs → (x y : X) → Has xs x → Has xs y → (x ≡ y) ⊎ (r x y ⊎ r y x)
two_members r [] two x y m n = absurd m
two_members r (z ∷ xs) two x y (inl a) (inl b) = inl (sym a ∙ b)
two_members r (z ∷ xs) two x y (inl a) (inr n) = inr (inl (subst (λ w. r w y) a (two.0 y n)))
two_members r (z ∷ xs) two x y (inr m) (inl b) = inr (inr (subst (λ w. r w x) b (two.0 x m)))
two_members r (z ∷ xs) two x y (inr m) (inr n) = two_members r xs two.1 x y m n

-- where it holds of each two members with the other relation
pub two_within : {X : Type 0} (s r : X → X → Type 0) (xs : List X) → EachTwo s xs → ((x y : X) → Has xs x → Has xs y → s x y → r x y) → EachTwo r xs
two_within s r [] h f = tt
two_within s r (x ∷ xs) h f = ((λ y m. f x y (inl refl) (inr m) (h.0 y m)), two_within s r xs h.1 (λ x y m n. f x y (inr m) (inr n)))

pub two_and : {X : Type 0} (r s : X → X → Type 0) (xs : List X) → EachTwo r xs → EachTwo s xs → EachTwo (λ x y. r x y × s x y) xs
two_and r s [] a b = tt
two_and r s (x ∷ xs) a b = ((λ y m. (a.0 y m, b.0 y m)), two_and r s xs a.1 b.1)

-- of a list whose keys rise
pub rising_two : {X : Type 0} (key : X → ℕ) (r : X → X → Type 0) (xs : List X) → EachTwo (λ x y. key x < key y) xs → EachTwo r xs → (x y : X) → Has xs x → Has xs y → key x < key y → r x y
rising_two {X} key r xs rise two x y m n h = by (two_members (λ x y. (key x < key y) × r x y) xs (two_and (λ x y. key x < key y) r xs rise two) x y m n)
  where
    itself : (a b : ℕ) → a ≡ b → a < b → ⊥
    itself a b e h = omega arith

    turned : (a b : ℕ) → a < b → b < a → ⊥
    turned a b e h = omega arith

    by : (x ≡ y) ⊎ (((key x < key y) × r x y) ⊎ ((key y < key x) × r y x)) → r x y
    by (inl e) = absurd (itself (key x) (key y) (ap key e) h)
    by (inr (inl p)) = p.1
    by (inr (inr p)) = absurd (turned (key x) (key y) h p.0)

pub two_append : {X : Type 0} (r : X → X → Type 0) (xs ys : List X) → EachTwo r (xs ++ ys) → EachTwo r xs × EachTwo r ys × ((x y : X) → Has xs x → Has ys y → r x y)
two_append r [] ys h = (tt, h, λ x y m n. absurd m)
two_append {X} r (z ∷ xs) ys h =
    let p = two_append r xs ys h.1 in
    (((λ y m. h.0 y (append-member-left xs ys y m)), p.0), p.1, λ x y m n. by p.2 x y m n)
  where
    by : ((x y : X) → Has xs x → Has ys y → r x y) → (x y : X) → (z ≡ x) ⊎ Has xs x → Has ys y → r x y
    by rest x y (inl e) n = subst (λ w. r w y) e (h.0 y (append-member-right xs ys y n))
    by rest x y (inr m) n = rest x y m n

pub append_two : {X : Type 0} (r : X → X → Type 0) (xs ys : List X) → EachTwo r xs → EachTwo r ys → ((x y : X) → Has xs x → Has ys y → r x y) → EachTwo r (xs ++ ys)
append_two r [] ys a b f = b
append_two {X} r (z ∷ xs) ys a b f = ((λ y m. by y (member-append xs ys y m)), append_two r xs ys a.1 b (λ x y m n. f x y (inr m) n))
  where
    by : (y : X) → Has xs y ⊎ Has ys y → r z y
    by y (inl m) = a.0 y m
    by y (inr m) = f z y (inl refl) m

pub two_flat : {X Y : Type 0} (r : Y → Y → Type 0) (f : X → List Y) (xs : List X) → EachTwo r (flat_map f xs)
    → EachTwo (λ x y. (u v : Y) → Has (f x) u → Has (f y) v → r u v) xs × ((x : X) → Has xs x → EachTwo r (f x))
two_flat r f [] h = (tt, λ x m. absurd m)
two_flat {X} {Y} r f (x ∷ xs) h =
    let p = two_append r (f x) (flat_map f xs) h in
    let q = two_flat r f xs p.1 in
    (((λ y m u v a b. p.2 u v a (flat_member f xs y v m b)), q.0), λ y m. by p.0 q.1 y m)
  where
    flat_member : (f : X → List Y) (xs : List X) (x : X) (y : Y) → Has xs x → Has (f x) y → Has (flat_map f xs) y
    flat_member f [] x y h m = absurd h
    flat_member f (z ∷ xs) x y (inl e) m = append-member-left (f z) (flat_map f xs) y (subst (λ w. Has (f w) y) (sym e) m)
    flat_member f (z ∷ xs) x y (inr h) m = append-member-right (f z) (flat_map f xs) y (flat_member f xs x y h m)

    by : EachTwo r (f x) → ((y : X) → Has xs y → EachTwo r (f y)) → (y : X) → (x ≡ y) ⊎ Has xs y → EachTwo r (f y)
    by a rest y (inl e) = subst (λ w. EachTwo r (f w)) e a
    by a rest y (inr m) = rest y m

pub flat_two : {X Y : Type 0} (r : Y → Y → Type 0) (f : X → List Y) (xs : List X) → EachTwo (λ x y. (u v : Y) → Has (f x) u → Has (f y) v → r u v) xs → ((x : X) → Has xs x → EachTwo r (f x))
    → EachTwo r (flat_map f xs)
flat_two r f [] a b = tt
flat_two r f (x ∷ xs) a b =
    append_two r (f x) (flat_map f xs) (b x (inl refl)) (flat_two r f xs a.1 (λ y m. b y (inr m)))
    (λ u v m n. let q = member-flat f xs v n in a.0 q.0 q.1 u v m q.2)

pub two_mapped : {X Y : Type 0} (r : Y → Y → Type 0) (f : X → Y) (xs : List X) → EachTwo r (map f xs) → EachTwo (λ x y. r (f x) (f y)) xs
two_mapped r f [] h = tt
two_mapped r f (x ∷ xs) h = ((λ y m. h.0 (f y) (map-member f xs y m)), two_mapped r f xs h.1)

pub mapped_two : {X Y : Type 0} (r : Y → Y → Type 0) (f : X → Y) (xs : List X) → EachTwo (λ x y. r (f x) (f y)) xs → EachTwo r (map f xs)
mapped_two r f [] h = tt
mapped_two {Y = Y} r f (x ∷ xs) h = ((λ y m. let q = member-map f xs y m in subst (λ (w : Y). r (f x) w) q.2 (h.0 q.0 q.1)), mapped_two r f xs h.1)

pub two_somes : {X Y : Type 0} (r : Y → Y → Type 0) (f : X → Option Y) (xs : List X) → EachTwo r (filter_map f xs) → EachTwo (λ a b. (x y : Y) → f a ≡ Some x → f b ≡ Some y → r x y) xs
two_somes r f [] h = tt
two_somes {X} {Y} r f (a ∷ xs) h =
    ((λ b m x y e s. head (f a) h x y e (some-member f xs b y m s)), two_somes r f xs (rest (f a) h))
  where
    head : (o : Option Y) → EachTwo r (cons_option o (filter_map f xs)) → (x y : Y) → o ≡ Some x → Has (filter_map f xs) y → r x y
    head None h x y e m = absurd (none_some x e)
    head (Some z) h x y e m = subst (λ (w : Y). r w y) (some_in z x e) (h.0 y m)

    rest : (o : Option Y) → EachTwo r (cons_option o (filter_map f xs)) → EachTwo r (filter_map f xs)
    rest None h = h
    rest (Some z) h = h.1

pub somes_two : {X Y : Type 0} (r : Y → Y → Type 0) (f : X → Option Y) (xs : List X) → EachTwo (λ a b. (x y : Y) → f a ≡ Some x → f b ≡ Some y → r x y) xs → EachTwo r (filter_map f xs)
somes_two r f [] h = tt
somes_two {X} {Y} r f (a ∷ xs) h = by (f a) refl (somes_two r f xs h.1)
  where
    by : (o : Option Y) → f a ≡ o → EachTwo r (filter_map f xs) → EachTwo r (cons_option o (filter_map f xs))
    by None e rest = rest
    by (Some x) e rest = ((λ y m. let q = member-some f xs y m in h.0 q.0 q.1 x y e q.2), rest)

pub two_filtered : {X : Type 0} (r : X → X → Type 0) (t : X → Bool) (xs : List X) → EachTwo r xs → EachTwo r (filter t xs)
two_filtered r t [] h = tt
two_filtered r t (x ∷ xs) h =
    elim (t x) as (λ b. EachTwo r (cond b (x ∷ filter t xs) (filter t xs)))
    [ true ↦ ((λ y m. h.0 y (member-filter t xs y m).0), two_filtered r t xs h.1) | false ↦ two_filtered r t xs h.1 ]

pub range_rises : (a k : ℕ) → EachTwo (λ i j. i < j) (range_with_len a k)
range_rises a zero = tt
range_rises a (suc k) = ((λ j m. omega (arith, (member-range j (a + 1) k m).0)), range_rises (a + 1) k)

pub enumerate_rises : {X : Type 0} (a : ℕ) (xs : List X) → EachTwo (λ p q. p.0 < q.0) (enumerate_from a xs)
enumerate_rises a [] = tt
enumerate_rises {X} a (x ∷ xs) = ((λ q m. omega (arith, from (a + 1) xs q m)), enumerate_rises (a + 1) xs)
  where
    from : (a : ℕ) (xs : List X) (q : ℕ × X) → Has (enumerate_from a xs) q → a ≤ q.0
    from a [] q m = absurd m
    from a (x ∷ xs) q (inl e) = omega (arith, ap (λ (z : ℕ × X). z.0) e)
    from a (x ∷ xs) q (inr m) = omega (arith, from (a + 1) xs q m)

abbrev pub opt : {Y : Type 0} → (Y → Bool) → Option Y → Bool
opt t None = false
opt t (Some y) = t y

pub any-some : {X Y : Type 0} (t : Y → Bool) (f : X → Option Y) (xs : List X) → list_any t (filter_map f xs) ≡ list_any (λ x. opt t (f x)) xs
any-some t f [] = refl
any-some {Y = Y} t f (x ∷ xs) =
    elim (f x) as (λ o. list_any t (cons_option o (filter_map f xs)) ≡ (opt t o || list_any (λ x. opt t (f x)) xs))
    [ None ↦ any-some t f xs | Some y ↦ ap (λ b. t y || b) (any-some t f xs) ]

pub two-some : {X Y : Type 0} (r : Y → Y → Bool) (f : X → Option Y) (xs : List X)
    → EachTwo (λ a b. opt (λ x. opt (λ y. r x y) (f b)) (f a) ≡ false) xs → EachTwo (λ x y. r x y ≡ false) (filter_map f xs)
two-some r f [] h = tt
two-some {X} {Y} r f (a ∷ xs) h =
    elim (f a) as (λ o. f a ≡ o → EachTwo (λ x y. r x y ≡ false) (cons_option o (filter_map f xs))) [
      | None ↦ λ e. two-some r f xs h.1
      | Some x ↦ λ e. ((λ y m. of x e y (member-some f xs y m)), two-some r f xs h.1)
    ] refl
  where
    of : (x : Y) → f a ≡ Some x → (y : Y) → (b : X) × Has xs b × (f b ≡ Some y) → r x y ≡ false
    of x e y p =
        sym (ap (λ (o : Option Y). opt (λ x. opt (λ y. r x y) (f p.0)) o) e ∙ ap (λ (o : Option Y). opt (λ y. r x y) o) p.2) ∙ h.0 p.0 p.1

pub two_rest : {Y : Type 0} (r : Y → Y → Bool) (o : Option Y) (ys : List Y) → EachTwo (λ x y. r x y ≡ false) (cons_option o ys)
    → EachTwo (λ x y. r x y ≡ false) ys × ((x : Y) → o ≡ Some x → (y : Y) → Has ys y → r x y ≡ false)
two_rest r None ys h = (h, λ x e. absurd (none_some x e))
two_rest {Y} r (Some z) ys h = (h.1, λ x e y m. ap (λ (w : Y). r w y) (sym (some_in z x e)) ∙ h.0 y m)

pub some-two : {X Y : Type 0} (r : Y → Y → Bool) (f : X → Option Y) (xs : List X)
    → EachTwo (λ x y. r x y ≡ false) (filter_map f xs) → EachTwo (λ a b. opt (λ x. opt (λ y. r x y) (f b)) (f a) ≡ false) xs
some-two r f [] h = tt
some-two {X} {Y} r f (a ∷ xs) h =
    let p = two_rest r (f a) (filter_map f xs) h in (
      (λ b m. elim (f a) as (λ o. ((x : Y) → o ≡ Some x → (y : Y) → Has (filter_map f xs) y → r x y ≡ false) → opt (λ x. opt (λ y. r x y) (f b)) o ≡ false) [
        | None ↦ λ g. refl
        | Some x ↦ λ g. elim (f b) as (λ o. f b ≡ o → opt (λ y. r x y) o ≡ false) [ None ↦ λ e. refl | Some y ↦ λ e. g x refl y (some-member f xs b y m e) ] refl
      ] p.1),
      some-two r f xs p.0,
    )

-- members with one key are one
pub two_same : {X : Type 0} (key : X → ℕ) (xs : List X) → EachTwo (λ x y. key x ≢ key y) xs → (x y : X) → Has xs x → Has xs y → key x ≡ key y → x ≡ y
two_same key [] two x y m n e = absurd m
two_same key (z ∷ xs) two x y (inl a) (inl b) e = sym a ∙ b
two_same key (z ∷ xs) two x y (inl a) (inr n) e = absurd (two.0 y n (ap key a ∙ e))
two_same key (z ∷ xs) two x y (inr m) (inl b) e = absurd (two.0 x m (ap key b ∙ sym e))
two_same key (z ∷ xs) two x y (inr m) (inr n) e = two_same key xs two.1 x y m n e

-- different numbers below a bound are no more than it
abbrev pub is_not : ℕ → ℕ → Bool
is_not n k = not (k == n)

pub all_stay : (n : ℕ) (ns : List ℕ) → (Has ns n → ⊥) → length (filter (is_not n) ns) ≡ length ns
all_stay n [] far = refl
all_stay n (m ∷ ns) far =
    ap (λ b. length (cond b (m ∷ filter (is_not n) ns) (filter (is_not n) ns))) (not_from_false _ (ne_eqb m n (λ e. far (inl e)))) ∙ ap (λ (k : ℕ). suc k) (all_stay n ns (λ h. far (inr h)))

pub one_goes : (n : ℕ) (ns : List ℕ) → EachTwo (λ a b. a ≢ b) ns → length ns ≤ suc (length (filter (is_not n) ns))
one_goes n [] two = omega arith
one_goes n (m ∷ ns) two =
    elim (m == n) as (λ b. (m == n) ≡ b → suc (length ns) ≤ suc (length (cond (not b) (m ∷ filter (is_not n) ns) (filter (is_not n) ns)))) [
      | true ↦ λ e. same (length ns) (length (filter (is_not n) ns)) (all_stay n ns (λ h. two.0 n h (eqb-true m n e)))
      | false ↦ λ e. more (length ns) (length (filter (is_not n) ns)) (one_goes n ns two.1)
    ] refl
  where
    same : (a b : ℕ) → b ≡ a → suc a ≤ suc b
    same a b e = omega arith

    more : (a b : ℕ) → a ≤ suc b → suc a ≤ suc (suc b)
    more a b e = omega arith

pub not_many : (bound : ℕ) (ns : List ℕ) → EachTwo (λ a b. a ≢ b) ns → ((n : ℕ) → Has ns n → n < bound) → length ns ≤ bound
not_many zero [] two below = omega arith
not_many zero (n ∷ ns) two below = absurd (none (below n (inl refl)))
  where
    none : n < 0 → ⊥
    none h = omega arith
not_many (suc bound) ns two below =
    both (length ns) (length (filter (is_not bound) ns)) (one_goes bound ns two)
    (not_many bound (filter (is_not bound) ns) (two_filtered (λ a b. a ≢ b) (is_not bound) ns two) (λ n m. let r = member-filter (is_not bound) ns n m in less n (below n r.0) (eqb-false n bound (not-true _ r.1))))
  where
    both : (a b : ℕ) → a ≤ suc b → b ≤ bound → a ≤ suc bound
    both a b e f = omega arith

    less : (n : ℕ) → n < suc bound → (n ≡ bound → ⊥) → n < bound
    less n e f = omega (arith, e, f)

-- no number is below itself
pub itself : (a b : ℕ) → a ≡ b → a < b → ⊥
itself a b e h = omega arith
