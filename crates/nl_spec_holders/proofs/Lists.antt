-- How often a stamp stands in a list of pointers.
use Rattle.std.proofs.Common.{◌≡◌, ◌≢◌, ℕ, suc, zero, ◌+◌, ◌<◌, ◌≤◌, List, [], ◌∷◌, ◌++◌, map, length, drop, refl, sym, ap, subst, ◌∙◌, ◌⊎◌, inl, inr, arith}
use Rattle.std.specs.Prelude.{Contains, slice_index_or}
use Rattle.std.proofs.lemmas.Bool.{cases_eq}
use Rattle.std.proofs.lemmas.List.{drop-append-le, drop-map, length-map, length-append}
use Rattle.nl_field.specs.declared.pointer.Pointer.{Pointer}
use Rattle.nl_iface.specs.Holders.{one, times}
use Rattle.nl_iface.specs.Names.{Has, LivePage}
use Rattle.nl_spec_holders.specs.Lists.{ListGains, ListLoses, Renames, SameBehind}
use Rattle.nl_spec_holders.proofs.Choices.{if_yes, if_no}

pub one_yes : (s t : ℕ) → s ≡ t → one s t ≡ 1
one_yes s t e = if_yes s t 1 0 e

pub one_no : (s t : ℕ) → s ≢ t → one s t ≡ 0
one_no s t e = if_no s t 1 0 e

pub has_times : {X : Type 0} (at : X → Pointer) (xs : List X) (x : X) (s : ℕ) → Has xs x → (at x).stamp ≡ s → 1 ≤ times at s xs
has_times at [] x s h e = absurd h
has_times at (y ∷ ys) x s (inl same) e = let n = one_yes (at y).stamp s (ap (λ z. (at z).stamp) same ∙ e) in omega (arith, n)
has_times at (y ∷ ys) x s (inr h) e = let n = has_times at ys x s h e in omega (arith, n)

pub times_has : {X : Type 0} (at : X → Pointer) (xs : List X) (s : ℕ) → 1 ≤ times at s xs → (x : X) × Has xs x × ((at x).stamp ≡ s)
times_has at [] s h = absurd (omega (arith, h))
times_has {X} at (y ∷ ys) s h = by (λ k. times_has at ys s k) (cases_eq (at y).stamp s)
  where
    by : (1 ≤ times at s ys → (x : X) × Has ys x × ((at x).stamp ≡ s)) → ((at y).stamp ≡ s) ⊎ ((at y).stamp ≢ s) → (x : X) × Has (y ∷ ys) x × ((at x).stamp ≡ s)
    by rest (inl e) = (y, inl refl, e)
    by rest (inr far) =
        let n = one_no (at y).stamp s far in
        let r = rest (omega (arith, n, h)) in
        (r.0, inr r.1, r.2)

pub times_append : {X : Type 0} (at : X → Pointer) (s : ℕ) (xs ys : List X) → times at s (xs ++ ys) ≡ times at s xs + times at s ys
times_append at s [] ys = omega arith
times_append at s (x ∷ xs) ys = let n = times_append at s xs ys in omega (arith, n)

pub times_drop : {X : Type 0} (at : X → Pointer) (s k : ℕ) (xs : List X) → times at s (drop k xs) ≤ times at s xs
times_drop at s zero xs = omega arith
times_drop at s (suc k) [] = omega arith
times_drop at s (suc k) (x ∷ xs) = let n = times_drop at s k xs in omega (arith, n)

-- how often a stamp stands in a list with one pointer more at the end
pub times_push : {X : Type 0} (at : X → Pointer) (s : ℕ) (xs : List X) (x : X) → times at s (xs ++ x ∷ []) ≡ times at s xs + one (at x).stamp s
times_push at s xs x = let n = times_append at s xs (x ∷ []) in omega (arith, n)

pub times_drop_push : {X : Type 0} (at : X → Pointer) (s k : ℕ) (xs : List X) (x : X) → k ≤ length xs → times at s (drop k (xs ++ x ∷ [])) ≡ times at s (drop k xs) + one (at x).stamp s
times_drop_push at s k xs x le = ap (times at s) (drop-append-le k xs (x ∷ []) le) ∙ times_push at s (drop k xs) x

pub has_push : {X : Type 0} (xs : List X) (x y : X) → Has (xs ++ x ∷ []) y → Has xs y ⊎ (x ≡ y)
has_push [] x y (inl e) = inr e
has_push [] x y (inr h) = absurd h
has_push (z ∷ zs) x y (inl e) = inl (inl e)
has_push (z ∷ zs) x y (inr h) = by (has_push zs x y h)
  where
    by : Has zs y ⊎ (x ≡ y) → Has (z ∷ zs) y ⊎ (x ≡ y)
    by (inl k) = inl (inr k)
    by (inr e) = inr e

-- a list without the stamp stays as it is
pub renames_none : {X : Type 0} (at : X → Pointer) (want : X → LivePage → Type 0) (s name : ℕ) (xs : List X) → times at s xs ≡ 0 → Renames at want s name xs xs
renames_none at want s name xs none = record {
  each = λ y has. inl (λ e. absurd (one_none (times at s xs) none (has_times at xs y s has e)), has);
  count = λ t. refl;
  size = refl;
}
  where
    one_none : (n : ℕ) → n ≡ 0 → 1 ≤ n → ⊥
    one_none n e h = omega (arith, e, h)

times_same : {X : Type 0} (at : X → Pointer) (f : X → X) → ((x : X) → (at (f x)).stamp ≡ (at x).stamp) → (t : ℕ) (xs : List X) → times at t (map f xs) ≡ times at t xs
times_same at f same t [] = refl
times_same at f same t (x ∷ xs) = let n = ap (λ (s : ℕ). one s t) (same x) in let m = times_same at f same t xs in omega (arith, n, m)

has_map : {X : Type 0} (f : X → X) (xs : List X) (y : X) → Has (map f xs) y → (x : X) × Has xs x × (f x ≡ y)
has_map f [] y h = absurd h
has_map f (x ∷ xs) y (inl e) = (x, inl refl, e)
has_map f (x ∷ xs) y (inr h) = let r = has_map f xs y h in (r.0, inr r.1, r.2)

-- a list in which each pointer of the stamp was renamed, and no other was changed
pub renames_map : {X : Type 0} (at : X → Pointer) (want : X → LivePage → Type 0) (s name : ℕ) (f : X → X) (xs : List X)
    → ((x : X) → (at x).stamp ≡ s → ((at (f x)).name ≡ name) × ((at (f x)).stamp ≡ s) × ((page : LivePage) → want x page → want (f x) page)) → ((x : X) → (at x).stamp ≢ s → f x ≡ x)
    → Renames at want s name xs (map f xs)
renames_map {X} at want s name f xs hit miss = record {
  each = λ y has. let h = has_map f xs y has in each y h.0 h.1 h.2 (cases_eq (at h.0).stamp s);
  count = λ t. times_same at f (λ x. stays x (cases_eq (at x).stamp s)) t xs;
  size = length-map xs f;
}
  where
    stays : (x : X) → ((at x).stamp ≡ s) ⊎ ((at x).stamp ≢ s) → (at (f x)).stamp ≡ (at x).stamp
    stays x (inl e) = (hit x e).1 ∙ sym e
    stays x (inr far) = ap (λ z. (at z).stamp) (miss x far)

    each : (y x : X) → Has xs x → f x ≡ y → ((at x).stamp ≡ s) ⊎ ((at x).stamp ≢ s)
        → (((at y).stamp ≢ s) × Has xs y) ⊎ (((at y).name ≡ name) × ((x : X) × Has xs x × ((at x).stamp ≡ s) × ((page : LivePage) → want x page → want y page)))
    each y x has e (inl is) = inr (sym (ap (λ z. (at z).name) e) ∙ (hit x is).0, (x, has, is, λ page w. subst (λ z. want z page) e ((hit x is).2 page w)))
    each y x has e (inr far) = inl (subst (λ z. (at z).stamp ≢ s) (sym (miss x far) ∙ e) far, subst (λ z. Has xs z) (sym (miss x far) ∙ e) has)

-- a list in which each pointer of the stamp was renamed has the same stamps behind each place
pub behind_map : {X : Type 0} (at : X → Pointer) (f : X → X) (xs : List X) → ((x : X) → (at (f x)).stamp ≡ (at x).stamp) → SameBehind at xs (map f xs)
behind_map at f xs same k t = ap (times at t) (drop-map f k xs) ∙ times_same at f same t (drop k xs)

pub behind_at : {X : Type 0} (at : X → Pointer) (front back : List X) (x y : X) → (at y).stamp ≡ (at x).stamp → SameBehind at (front ++ x ∷ back) (front ++ y ∷ back)
behind_at {X} at front back x y same k t = counted k front
  where
    counted : (k : ℕ) (zs : List X) → times at t (drop k (zs ++ y ∷ back)) ≡ times at t (drop k (zs ++ x ∷ back))
    counted zero [] = ap (λ (m : ℕ). one m t + times at t back) same
    counted zero (z ∷ zs) = ap (λ (m : ℕ). one (at z).stamp t + m) (counted zero zs)
    counted (suc k) [] = refl
    counted (suc k) (z ∷ zs) = counted k zs

-- one pointer was renamed in its place, where no other has its stamp
pub renames_at : {X : Type 0} (at : X → Pointer) (want : X → LivePage → Type 0) (s name : ℕ) (front back : List X) (x y : X)
    → (at x).stamp ≡ s → (at y).name ≡ name → (at y).stamp ≡ s → ((page : LivePage) → want x page → want y page) → times at s (front ++ x ∷ back) ≤ 1
    → Renames at want s name (front ++ x ∷ back) (front ++ y ∷ back)
renames_at {X} at want s name front back x y was named is keeps few = record {
  each = λ z has. each z (has_part front y back z has);
  count = λ t. behind_at at front back x y (is ∙ sym was) 0 t;
  size = sized front;
}
  where
    part : (a b o : ℕ) → a + (o + b) ≤ 1 → o ≡ 1 → (a ≡ 0) × (b ≡ 0)
    part a b o h e = (omega (arith, h, e), omega (arith, h, e))

    none : (times at s front ≡ 0) × (times at s back ≡ 0)
    none = part (times at s front) (times at s back) (one (at x).stamp s) (subst (λ (n : ℕ). n ≤ 1) (times_append at s front (x ∷ back)) few) (one_yes (at x).stamp s was)

    has_part : (zs : List X) (w : X) (ws : List X) (z : X) → Has (zs ++ w ∷ ws) z → Has zs z ⊎ ((w ≡ z) ⊎ Has ws z)
    has_part [] w ws z h = inr h
    has_part (v ∷ vs) w ws z (inl e) = inl (inl e)
    has_part (v ∷ vs) w ws z (inr h) = by (has_part vs w ws z h)
      where
        by : Has vs z ⊎ ((w ≡ z) ⊎ Has ws z) → Has (v ∷ vs) z ⊎ ((w ≡ z) ⊎ Has ws z)
        by (inl k) = inl (inr k)
        by (inr k) = inr k

    in_front : (zs ws : List X) (z : X) → Has zs z → Has (zs ++ ws) z
    in_front [] ws z h = absurd h
    in_front (v ∷ vs) ws z (inl e) = inl e
    in_front (v ∷ vs) ws z (inr h) = inr (in_front vs ws z h)

    in_back : (zs ws : List X) (z : X) → Has ws z → Has (zs ++ ws) z
    in_back [] ws z h = h
    in_back (v ∷ vs) ws z h = inr (in_back vs ws z h)

    zero_none : (n : ℕ) → n ≡ 0 → 1 ≤ n → ⊥
    zero_none n e h = omega (arith, e, h)

    each : (z : X) → Has front z ⊎ ((y ≡ z) ⊎ Has back z)
        → (((at z).stamp ≢ s) × Has (front ++ x ∷ back) z) ⊎ (((at z).name ≡ name) × ((w : X) × Has (front ++ x ∷ back) w × ((at w).stamp ≡ s) × ((page : LivePage) → want w page → want z page)))
    each z (inl h) = inl (λ e. zero_none (times at s front) none.0 (has_times at front z s h e), in_front front (x ∷ back) z h)
    each z (inr (inl e)) = inr (sym (ap (λ v. (at v).name) e) ∙ named, (x, in_back front (x ∷ back) x (inl refl), was, λ page w. subst (λ v. want v page) e (keeps page w)))
    each z (inr (inr h)) = inl (λ e. zero_none (times at s back) none.1 (has_times at back z s h e), in_back front (x ∷ back) z (inr h))

    sized : (zs : List X) → length (zs ++ y ∷ back) ≡ length (zs ++ x ∷ back)
    sized [] = refl
    sized (z ∷ zs) = ap suc (sized zs)

-- membership by recursion and by index
pub has_contains : {X : Type 0} (xs : List X) (x : X) → Has xs x → Contains xs x
has_contains [] x h = absurd h
has_contains (y ∷ ys) x (inl e) = (0, omega arith, e)
has_contains (y ∷ ys) x (inr h) = let r = has_contains ys x h in let le = r.1 in (suc r.0, omega (arith, le), r.2)

pub contains_has : {X : Type 0} (xs : List X) (x : X) → Contains xs x → Has xs x
contains_has {X} xs x c = at xs c.0 c.1 c.2
  where
    at : (xs : List X) (k : ℕ) → k < length xs → slice_index_or xs k x ≡ x → Has xs x
    at [] k le e = absurd (omega (arith, le))
    at (y ∷ ys) zero le e = inl e
    at (y ∷ ys) (suc k) le e = inr (at ys k (omega (arith, le)) e)

-- A part of a list was changed: so was the list.
has_append : {X : Type 0} (xs ys : List X) (z : X) → Has (xs ++ ys) z → Has xs z ⊎ Has ys z
has_append [] ys z h = inr h
has_append (x ∷ xs) ys z (inl e) = inl (inl e)
has_append (x ∷ xs) ys z (inr h) = by (has_append xs ys z h)
  where
    by : Has xs z ⊎ Has ys z → Has (x ∷ xs) z ⊎ Has ys z
    by (inl k) = inl (inr k)
    by (inr k) = inr k

has_left : {X : Type 0} (xs ys : List X) (z : X) → Has xs z → Has (xs ++ ys) z
has_left [] ys z h = absurd h
has_left (x ∷ xs) ys z (inl e) = inl e
has_left (x ∷ xs) ys z (inr h) = inr (has_left xs ys z h)

has_right : {X : Type 0} (xs ys : List X) (z : X) → Has ys z → Has (xs ++ ys) z
has_right [] ys z h = h
has_right (x ∷ xs) ys z h = inr (has_right xs ys z h)

module _ {X : Type 0} (at : X → Pointer) (front back : List X) where
  abbrev within : List X → List X
  within xs = front ++ (xs ++ back)

  times_within : (s : ℕ) (xs : List X) → times at s (within xs) ≡ times at s front + (times at s xs + times at s back)
  times_within s xs = times_append at s front (xs ++ back) ∙ ap (λ (n : ℕ). times at s front + n) (times_append at s xs back)

  length_within : (xs : List X) → length (within xs) ≡ length front + (length xs + length back)
  length_within xs = length-append front (xs ++ back) ∙ ap (λ (n : ℕ). length front + n) (length-append xs back)

  parts : (xs : List X) (z : X) → Has (within xs) z → Has front z ⊎ (Has xs z ⊎ Has back z)
  parts xs z h = by (has_append front (xs ++ back) z h)
    where
      by : Has front z ⊎ Has (xs ++ back) z → Has front z ⊎ (Has xs z ⊎ Has back z)
      by (inl k) = inl k
      by (inr k) = inr (has_append xs back z k)

  in_part : (xs : List X) (z : X) → Has xs z → Has (within xs) z
  in_part xs z h = has_right front (xs ++ back) z (has_left xs back z h)

  in_back_part : (xs : List X) (z : X) → Has back z → Has (within xs) z
  in_back_part xs z h = has_right front (xs ++ back) z (has_right xs back z h)

  pub gains_within : (x : X) (xs ys : List X) → ListGains at x xs ys → ListGains at x (within xs) (within ys)
  gains_within x xs ys g = record {
    has = in_part ys x g.has;
    only = λ z h. by z (parts ys z h);
    count = λ s. sum (times at s (within xs)) (times at s (within ys)) (times at s front) (times at s xs) (times at s ys) (times at s back) (one (at x).stamp s) (times_within s xs) (times_within s ys) (g.count s);
    size = sum (length (within xs)) (length (within ys)) (length front) (length xs) (length ys) (length back) 1 (length_within xs) (length_within ys) g.size;
  }
    where
      sum : (a b f x y k o : ℕ) → a ≡ f + (x + k) → b ≡ f + (y + k) → y ≡ x + o → b ≡ a + o
      sum a b f x y k o e d h = omega (arith, e, d, h)

      old : (z : X) → (z ≡ x) ⊎ Has xs z → (z ≡ x) ⊎ Has (within xs) z
      old z (inl e) = inl e
      old z (inr h) = inr (in_part xs z h)

      by : (z : X) → Has front z ⊎ (Has ys z ⊎ Has back z) → (z ≡ x) ⊎ Has (within xs) z
      by z (inl h) = inr (has_left front (xs ++ back) z h)
      by z (inr (inl h)) = old z (g.only z h)
      by z (inr (inr h)) = inr (in_back_part xs z h)

  pub loses_within : (x : X) (xs ys : List X) → ListLoses at x xs ys → ListLoses at x (within xs) (within ys)
  loses_within x xs ys l = record {
    had = in_part xs x l.had;
    only = λ z h. by z (parts ys z h);
    count = λ s. sum (times at s (within xs)) (times at s (within ys)) (times at s front) (times at s xs) (times at s ys) (times at s back) (one (at x).stamp s) (times_within s xs) (times_within s ys) (l.count s);
    size = sum (length (within xs)) (length (within ys)) (length front) (length xs) (length ys) (length back) 1 (length_within xs) (length_within ys) l.size;
  }
    where
      sum : (a b f x y k o : ℕ) → a ≡ f + (x + k) → b ≡ f + (y + k) → x ≡ y + o → a ≡ b + o
      sum a b f x y k o e d h = omega (arith, e, d, h)

      by : (z : X) → Has front z ⊎ (Has ys z ⊎ Has back z) → Has (within xs) z
      by z (inl h) = has_left front (xs ++ back) z h
      by z (inr (inl h)) = in_part xs z (l.only z h)
      by z (inr (inr h)) = in_back_part xs z h

  -- where no other part has the stamp
  pub renames_within : (want : X → LivePage → Type 0) (s name : ℕ) (xs ys : List X) → times at s front ≡ 0 → times at s back ≡ 0 → Renames at want s name xs ys → Renames at want s name (within xs) (within ys)
  renames_within want s name xs ys none_front none_back r = record {
    each = λ z h. by z (parts ys z h);
    count = λ t. sum (times at t (within xs)) (times at t (within ys)) (times at t front) (times at t xs) (times at t ys) (times at t back) (times_within t xs) (times_within t ys) (r.count t);
    size = sum (length (within xs)) (length (within ys)) (length front) (length xs) (length ys) (length back) (length_within xs) (length_within ys) r.size;
  }
    where
      sum : (a b f x y k : ℕ) → a ≡ f + (x + k) → b ≡ f + (y + k) → y ≡ x → b ≡ a
      sum a b f x y k e d h = omega (arith, e, d, h)

      no : (n : ℕ) → n ≡ 0 → 1 ≤ n → ⊥
      no n e h = omega (arith, e, h)

      inner : (z : X) → (((at z).stamp ≢ s) × Has xs z) ⊎ (((at z).name ≡ name) × ((w : X) × Has xs w × ((at w).stamp ≡ s) × ((page : LivePage) → want w page → want z page)))
          → (((at z).stamp ≢ s) × Has (within xs) z) ⊎ (((at z).name ≡ name) × ((w : X) × Has (within xs) w × ((at w).stamp ≡ s) × ((page : LivePage) → want w page → want z page)))
      inner z (inl k) = inl (k.0, in_part xs z k.1)
      inner z (inr k) = let w = k.1 in inr (k.0, (w.0, in_part xs w.0 w.1, w.2, w.3))

      by : (z : X) → Has front z ⊎ (Has ys z ⊎ Has back z)
          → (((at z).stamp ≢ s) × Has (within xs) z) ⊎ (((at z).name ≡ name) × ((w : X) × Has (within xs) w × ((at w).stamp ≡ s) × ((page : LivePage) → want w page → want z page)))
      by z (inl h) = inl ((λ e. no (times at s front) none_front (has_times at front z s h e)), has_left front (xs ++ back) z h)
      by z (inr (inl h)) = inner z (r.each z h)
      by z (inr (inr h)) = inl ((λ e. no (times at s back) none_back (has_times at back z s h e)), in_back_part xs z h)
