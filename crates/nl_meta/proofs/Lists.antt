-- Members of lists.
use Rattle.std.proofs.Common.{◌≡◌, ℕ, zero, suc, ◌+◌, ◌≤◌, ◌<◌, Bool, true, false, ◌&&◌, cond, List, [], ◌∷◌, ◌++◌, map, filter, filter_map, flat_map, find, refl, sym, ap, subst, ◌∙◌, Option, Some, None, option_map, is_some, ◌⊎◌, inl, inr, arith}
use Rattle.std.proofs.lemmas.Bool.{or_parts, or_from, cond-false, cases_eq, or_cases, or_left, or_right}
use Rattle.std.specs.List.{list_any, list_all, range_with_len, cons_option, enumerate_from}
use Rattle.nl_field.specs.Members.{Has}
use Rattle.nl_meta.specs.Walk.{or_then, zero_where}

pub some_in : {X : Type 0} (a b : X) → Some a ≡ Some b → a ≡ b
some_in a b e = ap (λ o. elim o [ None ↦ a | Some x ↦ x ]) e

pub true_false : true ≡ false → ⊥
true_false e = cc

pub none_some : {X : Type 0} (a : X) → None ≡ Some a → ⊥
none_some a e = true_false (sym (ap is_some e))

-- ---- tests

pub find-none : {X : Type 0} (t : X → Bool) (xs : List X) → find t xs ≡ None → (x : X) → Has xs x → t x ≡ false
find-none t [] e x h = absurd h
find-none {X} t (y ∷ xs) e x h =
    elim (t y) as (λ b. t y ≡ b → cond b (Some y) (find t xs) ≡ None → t x ≡ false) [
      | true ↦ λ b e. absurd (none_some y (sym e))
      | false ↦ λ b e. by (find-none t xs e x) b h
    ] refl e
  where
    by : (Has xs x → t x ≡ false) → t y ≡ false → (y ≡ x) ⊎ Has xs x → t x ≡ false
    by rest b (inl s) = ap t (sym s) ∙ b
    by rest b (inr h) = rest h

pub none-find : {X : Type 0} (t : X → Bool) (xs : List X) → ((x : X) → Has xs x → t x ≡ false) → find t xs ≡ None
none-find t [] all = refl
none-find t (y ∷ xs) all = cond-false (t y) (Some y) (find t xs) (all y (inl refl)) ∙ none-find t xs (λ x h. all x (inr h))

pub any-none : {X : Type 0} (t : X → Bool) (xs : List X) → list_any t xs ≡ false → (x : X) → Has xs x → t x ≡ false
any-none t [] e x h = absurd h
any-none t (y ∷ xs) e x (inl s) = ap t (sym s) ∙ (or_parts _ _ e).0
any-none t (y ∷ xs) e x (inr h) = any-none t xs (or_parts _ _ e).1 x h

pub none-any : {X : Type 0} (t : X → Bool) (xs : List X) → ((x : X) → Has xs x → t x ≡ false) → list_any t xs ≡ false
none-any t [] all = refl
none-any t (y ∷ xs) all = or_from _ _ (all y (inl refl)) (none-any t xs (λ x h. all x (inr h)))

pub all-each : {X : Type 0} (t : X → Bool) (xs : List X) → list_all t xs ≡ true → (x : X) → Has xs x → t x ≡ true
all-each t [] e x h = absurd h
all-each t (y ∷ xs) e x h =
    elim (t y) as (λ b. t y ≡ b → (b && list_all t xs) ≡ true → t x ≡ true) [
      | true ↦ λ b e. by (all-each t xs e x) b h
      | false ↦ λ b e. absurd (true_false (sym e))
    ] refl e
  where
    by : (Has xs x → t x ≡ true) → t y ≡ true → (y ≡ x) ⊎ Has xs x → t x ≡ true
    by rest b (inl s) = ap t (sym s) ∙ b
    by rest b (inr h) = rest h

pub each-all : {X : Type 0} (t : X → Bool) (xs : List X) → ((x : X) → Has xs x → t x ≡ true) → list_all t xs ≡ true
each-all t [] all = refl
each-all t (y ∷ xs) all = ap (λ b. b && list_all t xs) (all y (inl refl)) ∙ each-all t xs (λ x h. all x (inr h))

pub any_member : {X : Type 0} (t : X → Bool) (xs : List X) → list_any t xs ≡ true → (x : X) × Has xs x × (t x ≡ true)
any_member t [] e = absurd (true_false (sym e))
any_member {X} t (y ∷ xs) e = by (any_member t xs) (or_cases _ _ e)
  where
    by : (list_any t xs ≡ true → (x : X) × Has xs x × (t x ≡ true)) → (t y ≡ true) ⊎ (list_any t xs ≡ true) → (x : X) × Has (y ∷ xs) x × (t x ≡ true)
    by rest (inl h) = (y, inl refl, h)
    by rest (inr h) = let r = rest h in (r.0, inr r.1, r.2)

pub member_any : {X : Type 0} (t : X → Bool) (xs : List X) (x : X) → Has xs x → t x ≡ true → list_any t xs ≡ true
member_any t [] x m e = absurd m
member_any t (y ∷ xs) x (inl s) e = or_left _ _ (ap t s ∙ e)
member_any t (y ∷ xs) x (inr m) e = or_right (t y) _ (member_any t xs x m e)

pub member-find : {X : Type 0} (t : X → Bool) (xs : List X) (x : X) → find t xs ≡ Some x → Has xs x × (t x ≡ true)
member-find t [] x e = absurd (none_some x e)
member-find {X} t (y ∷ xs) x e =
    elim (t y) as (λ b. t y ≡ b → cond b (Some y) (find t xs) ≡ Some x → Has (y ∷ xs) x × (t x ≡ true)) [
      | true ↦ λ b e. let s = some_in y x e in (inl s, ap t (sym s) ∙ b)
      | false ↦ λ b e. let r = member-find t xs x e in (inr r.0, r.1)
    ] refl e

pub find-some : {X : Type 0} (t : X → Bool) (xs : List X) (x : X) → Has xs x → t x ≡ true → (y : X) × (find t xs ≡ Some y)
find-some t [] x m e = absurd m
find-some {X} t (z ∷ xs) x m e =
    elim (t z) as (λ b. t z ≡ b → (y : X) × (cond b (Some z) (find t xs) ≡ Some y)) [ true ↦ λ b. (z, refl) | false ↦ λ b. by (find-some t xs x) b m ] refl
  where
    by : (Has xs x → t x ≡ true → (y : X) × (find t xs ≡ Some y)) → t z ≡ false → (z ≡ x) ⊎ Has xs x → (y : X) × (find t xs ≡ Some y)
    by rest b (inl s) = absurd (true_false (sym e ∙ ap t (sym s) ∙ b))
    by rest b (inr h) = rest h e

pub map_none : {X Y : Type 0} (f : X → Y) (o : Option X) → option_map f o ≡ None → o ≡ None
map_none f None e = refl
map_none f (Some x) e = absurd (none_some (f x) (sym e))

pub none_map : {X Y : Type 0} (f : X → Y) (o : Option X) → o ≡ None → option_map f o ≡ None
none_map f o e = ap (option_map f) e

pub then_none : (a b : Option ℕ) → or_then a b ≡ None → (a ≡ None) × (b ≡ None)
then_none None b e = (refl, e)
then_none (Some x) b e = absurd (none_some x (sym e))

pub none_then : (a b : Option ℕ) → a ≡ None → b ≡ None → or_then a b ≡ None
none_then a b e f = ap (λ (o : Option ℕ). or_then o b) e ∙ f

pub zero_none : (b : Bool) → zero_where b ≡ None → b ≡ false
zero_none true e = absurd (none_some 0 (sym e))
zero_none false e = refl

-- ---- members

pub member-range : (n a k : ℕ) → Has (range_with_len a k) n → (a ≤ n) × (n < a + k)
member-range n a zero h = absurd h
member-range n a (suc k) (inl e) = (omega (arith, e), omega (arith, e))
member-range n a (suc k) (inr h) = let r = member-range n (a + 1) k h in (omega (arith, r.0), omega (arith, r.1))

pub range-member : (n a k : ℕ) → a ≤ n → n < a + k → Has (range_with_len a k) n
range-member n a zero f g = absurd (no f g)
  where
    no : a ≤ n → n < a + 0 → ⊥
    no f g = omega arith
range-member n a (suc k) f g = by (λ h. range-member n (a + 1) k h (later h)) (eq_or_more f)
  where
    eq_or_more : a ≤ n → (a ≡ n) ⊎ (a + 1 ≤ n)
    eq_or_more f = more (cases_eq a n)
      where
        past : (a ≡ n → ⊥) → a + 1 ≤ n
        past far = omega (arith, f, far)

        more : (a ≡ n) ⊎ (a ≡ n → ⊥) → (a ≡ n) ⊎ (a + 1 ≤ n)
        more (inl e) = inl e
        more (inr far) = inr (past far)

    later : a + 1 ≤ n → n < (a + 1) + k
    later h = omega arith

    by : (a + 1 ≤ n → Has (range_with_len (a + 1) k) n) → (a ≡ n) ⊎ (a + 1 ≤ n) → Has (range_with_len a (suc k)) n
    by rest (inl e) = inl e
    by rest (inr h) = inr (rest h)

pub member-filter : {X : Type 0} (t : X → Bool) (xs : List X) (x : X) → Has (filter t xs) x → Has xs x × (t x ≡ true)
member-filter t [] x h = absurd h
member-filter {X} t (y ∷ xs) x h =
    elim (t y) as (λ b. t y ≡ b → Has (cond b (y ∷ filter t xs) (filter t xs)) x → Has (y ∷ xs) x × (t x ≡ true)) [
      | true ↦ λ e h. first (member-filter t xs x) e h
      | false ↦ λ e h. let r = member-filter t xs x h in (inr r.0, r.1)
    ] refl h
  where
    first : (Has (filter t xs) x → Has xs x × (t x ≡ true)) → t y ≡ true → (y ≡ x) ⊎ Has (filter t xs) x → Has (y ∷ xs) x × (t x ≡ true)
    first rest e (inl s) = (inl s, ap t (sym s) ∙ e)
    first rest e (inr h) = (inr (rest h).0, (rest h).1)

pub filter-member : {X : Type 0} (t : X → Bool) (xs : List X) (x : X) → Has xs x → t x ≡ true → Has (filter t xs) x
filter-member t [] x h e = absurd h
filter-member t (y ∷ xs) x (inl s) e = subst (λ b. Has (cond b (y ∷ filter t xs) (filter t xs)) x) (sym (ap t s ∙ e)) (inl s)
filter-member t (y ∷ xs) x (inr h) e =
    elim (t y) as (λ b. Has (cond b (y ∷ filter t xs) (filter t xs)) x) [ true ↦ inr (filter-member t xs x h e) | false ↦ filter-member t xs x h e ]

pub member-map : {X Y : Type 0} (f : X → Y) (xs : List X) (y : Y) → Has (map f xs) y → (x : X) × Has xs x × (f x ≡ y)
member-map f [] y h = absurd h
member-map f (x ∷ xs) y (inl e) = (x, inl refl, e)
member-map f (x ∷ xs) y (inr h) = let r = member-map f xs y h in (r.0, inr r.1, r.2)

pub map-member : {X Y : Type 0} (f : X → Y) (xs : List X) (x : X) → Has xs x → Has (map f xs) (f x)
map-member f [] x h = absurd h
map-member f (y ∷ xs) x (inl e) = inl (ap f e)
map-member f (y ∷ xs) x (inr h) = inr (map-member f xs x h)

pub member-append : {X : Type 0} (xs ys : List X) (x : X) → Has (xs ++ ys) x → Has xs x ⊎ Has ys x
member-append [] ys x h = inr h
member-append (y ∷ xs) ys x (inl e) = inl (inl e)
member-append {X} (y ∷ xs) ys x (inr h) = by (member-append xs ys x h)
  where
    by : Has xs x ⊎ Has ys x → Has (y ∷ xs) x ⊎ Has ys x
    by (inl m) = inl (inr m)
    by (inr m) = inr m

pub append-member-left : {X : Type 0} (xs ys : List X) (x : X) → Has xs x → Has (xs ++ ys) x
append-member-left [] ys x h = absurd h
append-member-left (y ∷ xs) ys x (inl e) = inl e
append-member-left (y ∷ xs) ys x (inr h) = inr (append-member-left xs ys x h)

pub append-member-right : {X : Type 0} (xs ys : List X) (x : X) → Has ys x → Has (xs ++ ys) x
append-member-right [] ys x h = h
append-member-right (y ∷ xs) ys x h = inr (append-member-right xs ys x h)

pub member-flat : {X Y : Type 0} (f : X → List Y) (xs : List X) (y : Y) → Has (flat_map f xs) y → (x : X) × Has xs x × Has (f x) y
member-flat f [] y h = absurd h
member-flat {X} {Y} f (x ∷ xs) y h = by (member-flat f xs y) (member-append (f x) (flat_map f xs) y h)
  where
    by : (Has (flat_map f xs) y → (z : X) × Has xs z × Has (f z) y) → Has (f x) y ⊎ Has (flat_map f xs) y → (z : X) × Has (x ∷ xs) z × Has (f z) y
    by rest (inl m) = (x, inl refl, m)
    by rest (inr m) = let r = rest m in (r.0, inr r.1, r.2)

pub flat-member : {X Y : Type 0} (f : X → List Y) (xs : List X) (x : X) (y : Y) → Has xs x → Has (f x) y → Has (flat_map f xs) y
flat-member f [] x y h m = absurd h
flat-member {Y = Y} f (z ∷ xs) x y (inl e) m = append-member-left (f z) (flat_map f xs) y (subst (λ w. Has (f w) y) (sym e) m)
flat-member f (z ∷ xs) x y (inr h) m = append-member-right (f z) (flat_map f xs) y (flat-member f xs x y h m)

pub member-some : {X Y : Type 0} (f : X → Option Y) (xs : List X) (y : Y) → Has (filter_map f xs) y → (x : X) × Has xs x × (f x ≡ Some y)
member-some f [] y h = absurd h
member-some {X} {Y} f (x ∷ xs) y h =
    elim (f x) as (λ o. f x ≡ o → Has (cons_option o (filter_map f xs)) y → (z : X) × Has (x ∷ xs) z × (f z ≡ Some y)) [
      | None ↦ λ e h. let r = member-some f xs y h in (r.0, inr r.1, r.2)
      | Some w ↦ λ e h. by (member-some f xs y) w e h
    ] refl h
  where
    by : (Has (filter_map f xs) y → (z : X) × Has xs z × (f z ≡ Some y)) → (w : Y) → f x ≡ Some w → (w ≡ y) ⊎ Has (filter_map f xs) y → (z : X) × Has (x ∷ xs) z × (f z ≡ Some y)
    by rest w e (inl s) = (x, inl refl, e ∙ ap (λ (v : Y). Some v) s)
    by rest w e (inr h) = let r = rest h in (r.0, inr r.1, r.2)

pub some-member : {X Y : Type 0} (f : X → Option Y) (xs : List X) (x : X) (y : Y) → Has xs x → f x ≡ Some y → Has (filter_map f xs) y
some-member f [] x y h e = absurd h
some-member {Y = Y} f (z ∷ xs) x y (inl s) e = subst (λ o. Has (cons_option o (filter_map f xs)) y) (sym (ap f s ∙ e)) (inl refl)
some-member {Y = Y} f (z ∷ xs) x y (inr h) e =
    elim (f z) as (λ o. Has (cons_option o (filter_map f xs)) y) [ None ↦ some-member f xs x y h e | Some w ↦ inr (some-member f xs x y h e) ]

pub member-enumerate : {X : Type 0} (a : ℕ) (xs : List X) (p : ℕ × X) → Has (enumerate_from a xs) p → Has xs p.1
member-enumerate a [] p h = h
member-enumerate a (x ∷ xs) p (inl e) = inl (ap (λ q. q.1) e)
member-enumerate a (x ∷ xs) p (inr h) = inr (member-enumerate (a + 1) xs p h)
