-- The list of the entries that places have, and the entry of a name in it.
use Rattle.std.proofs.Common.{◌≡◌, ◌≢◌, ℕ, zero, suc, ◌+◌, ◌-◌, ◌≤◌, ◌<◌, Bool, true, false, cond, List, [], ◌∷◌, ◌++◌, length, take, filter_map, find, get_or, refl, sym, ap, subst, ◌∙◌, Option, Some, None, is_some, IsSome, ◌⊎◌, inl, inr, arith, bytes_eq, nat_lt}
use Rattle.std.proofs.lemmas.Bool.{both_ways, cases_eq, cond-true, lt-ltb}
use Rattle.std.proofs.lemmas.List.{ext_get_or, get_or-take, get_or-set_same, get_or-set_other, length-set, length-take-le}
use Rattle.std.proofs.lemmas.List.Sums.{position_or_len_is}
use Rattle.std.proofs.lemmas.Option.{get_or_from_slice_get}
use Rattle.std.proofs.lemmas.Slice.Eq.{bytes_eq-Decides}
use Rattle.std.specs.List.{range_with_len, cons_option, position_or_len}
use Rattle.std.specs.Prelude.{position, slice_get, swap_remove, slice_set}
use Rattle.nl_field.specs.Members.{Has}
use Rattle.nl_field.specs.declared.entry.EntryRec.{EntryRec}
use Rattle.nl_meta.proofs.Lists.{some_in, none_some, none-find, find-some, member-find, member-some, some-member, member-range, range-member}
use Rattle.nl_dir.specs.Changes.{no_entry}

pub some-of : {X : Type 0} (o : Option X) → IsSome o → (x : X) × (o ≡ Some x)
some-of None h = absurd (both_ways _ refl h)
some-of (Some x) h = (x, refl)

-- ---- any function of places

-- the entries of the first n places
abbrev pub listed : (ℕ → Option EntryRec) → ℕ → List EntryRec
listed f n = filter_map f (range_with_len 0 n)

module _ (f : ℕ → Option EntryRec) where
  more-from : (a n : ℕ) → filter_map f (range_with_len a (suc n)) ≡ filter_map f (range_with_len a n) ++ cons_option (f (a + n)) []
  more-from a zero = ap (λ (k : ℕ). cons_option (f k) []) z
    where
      z : a ≡ a + 0
      z = omega arith
  more-from a (suc n) = by (f a) (more-from (a + 1) n ∙ ap (λ (k : ℕ). filter_map f (range_with_len (a + 1) n) ++ cons_option (f k) []) z)
    where
      z : a + 1 + n ≡ a + suc n
      z = omega arith

      by : (o : Option EntryRec) → filter_map f (range_with_len (a + 1) (suc n)) ≡ filter_map f (range_with_len (a + 1) n) ++ cons_option (f (a + suc n)) []
          → cons_option o (filter_map f (range_with_len (a + 1) (suc n))) ≡ cons_option o (filter_map f (range_with_len (a + 1) n)) ++ cons_option (f (a + suc n)) []
      by None e = e
      by (Some x) e = ap (λ (l : List EntryRec). x ∷ l) e

  pub listed-more : (n : ℕ) (e : EntryRec) → f n ≡ Some e → listed f (n + 1) ≡ listed f n ++ e ∷ []
  listed-more n e is = ap (listed f) one ∙ more-from 0 n ∙ ap (λ (o : Option EntryRec). listed f n ++ cons_option o []) (ap f z ∙ is)
    where
      z : 0 + n ≡ n
      z = omega arith

      one : n + 1 ≡ suc n
      one = omega arith

  length-from : (a n : ℕ) → ((i : ℕ) → a ≤ i → i < a + n → IsSome (f i)) → length (filter_map f (range_with_len a n)) ≡ n
  length-from a zero full = refl
  length-from a (suc n) full = by (some-of (f a) (full a (omega arith) (omega arith))) (length-from (a + 1) n (λ i l h. full i (omega (arith, l)) (omega (arith, h))))
    where
      by : (x : EntryRec) × (f a ≡ Some x) → length (filter_map f (range_with_len (a + 1) n)) ≡ n → length (cons_option (f a) (filter_map f (range_with_len (a + 1) n))) ≡ suc n
      by r e = ap (λ o. length (cons_option o (filter_map f (range_with_len (a + 1) n)))) r.1 ∙ ap suc e

  at-from : (a n i : ℕ) → ((i : ℕ) → a ≤ i → i < a + n → IsSome (f i)) → i < n → slice_get (filter_map f (range_with_len a n)) i ≡ f (a + i)
  at-from a zero i full h = absurd (none h)
    where
      none : i < 0 → ⊥
      none h = omega arith
  at-from a (suc n) zero full h = by (some-of (f a) (full a (omega arith) (omega arith)))
    where
      z : a ≡ a + 0
      z = omega arith

      by : (x : EntryRec) × (f a ≡ Some x) → slice_get (cons_option (f a) (filter_map f (range_with_len (a + 1) n))) 0 ≡ f (a + 0)
      by r = ap (λ o. slice_get (cons_option o (filter_map f (range_with_len (a + 1) n))) 0) r.1 ∙ sym r.1 ∙ ap f z
  at-from a (suc n) (suc i) full h =
      by (some-of (f a) (full a (omega arith) (omega arith))) (at-from (a + 1) n i (λ i l h. full i (omega (arith, l)) (omega (arith, h))) (omega (arith, h)))
    where
      z : a + 1 + i ≡ a + suc i
      z = omega arith

      by : (x : EntryRec) × (f a ≡ Some x) → slice_get (filter_map f (range_with_len (a + 1) n)) i ≡ f (a + 1 + i)
          → slice_get (cons_option (f a) (filter_map f (range_with_len (a + 1) n))) (suc i) ≡ f (a + suc i)
      by r e = ap (λ o. slice_get (cons_option o (filter_map f (range_with_len (a + 1) n))) (suc i)) r.1 ∙ e ∙ ap f z

same-from : (f g : ℕ → Option EntryRec) (a n : ℕ) → ((i : ℕ) → a ≤ i → i < a + n → g i ≡ f i) → filter_map g (range_with_len a n) ≡ filter_map f (range_with_len a n)
same-from f g a zero same = refl
same-from f g a (suc n) same =
    let here = same a (omega arith) (omega arith) in
    let rest = same-from f g (a + 1) n (λ i l h. same i (omega (arith, l)) (omega (arith, h))) in
    λ k. cons_option (here k) (rest k)

pub listed-same : (f g : ℕ → Option EntryRec) (n : ℕ) → ((i : ℕ) → i < n → g i ≡ f i) → listed g n ≡ listed f n
listed-same f g n same = same-from f g 0 n (λ i l h. same i (omega (arith, h)))

-- ---- places that each have an entry

module _ (f : ℕ → Option EntryRec) (n : ℕ) (full : (i : ℕ) → i < n → IsSome (f i)) where
  pub listed-length : length (listed f n) ≡ n
  listed-length = length-from f 0 n (λ i l h. full i (omega (arith, h)))

  pub listed-at : (i : ℕ) → i < n → slice_get (listed f n) i ≡ f i
  listed-at i h = at-from f 0 n i (λ i l h. full i (omega (arith, h))) h ∙ ap f z
    where
      z : 0 + i ≡ i
      z = omega arith

  pub listed-or : (i : ℕ) (e d : EntryRec) → i < n → f i ≡ Some e → get_or (listed f n) i d ≡ e
  listed-or i e d h is = get_or_from_slice_get (listed f n) i e d (listed-at i h ∙ is)

-- ---- names

abbrev pub is_named : List ℕ → EntryRec → Bool
is_named name e = bytes_eq e.name name

pub named-true : (name : List ℕ) (e : EntryRec) → e.name ≡ name → is_named name e ≡ true
named-true name e h = (bytes_eq-Decides e.name name).1 h

pub named-same : (name : List ℕ) (e : EntryRec) → is_named name e ≡ true → e.name ≡ name
named-same name e h = (bytes_eq-Decides e.name name).0 h

named-false : (name : List ℕ) (e : EntryRec) → e.name ≢ name → is_named name e ≡ false
named-false name e h = by (is_named name e) refl
  where
    by : (b : Bool) → is_named name e ≡ b → b ≡ false
    by true s = absurd (h (named-same name e s))
    by false s = refl

pub has-listed : (f : ℕ → Option EntryRec) (n : ℕ) (e : EntryRec) → Has (listed f n) e → (i : ℕ) × (i < n) × (f i ≡ Some e)
has-listed f n e h =
    let m = member-some f (range_with_len 0 n) e h in
    let r = member-range m.0 0 n m.1 in
    (m.0, below m.0 r.1, m.2)
  where
    below : (i : ℕ) → i < 0 + n → i < n
    below i h = omega (arith, h)

pub listed-has : (f : ℕ → Option EntryRec) (n i : ℕ) (e : EntryRec) → i < n → f i ≡ Some e → Has (listed f n) e
listed-has f n i e h is = some-member f (range_with_len 0 n) i e (range-member i 0 n (omega arith) (omega (arith, h))) is

pub none-named : (f : ℕ → Option EntryRec) (n : ℕ) (name : List ℕ) → ((i : ℕ) (e : EntryRec) → i < n → f i ≡ Some e → e.name ≢ name) → find (is_named name) (listed f n) ≡ None
none-named f n name none = none-find (is_named name) (listed f n) (λ e h. let p = has-listed f n e h in named-false name e (none p.0 e p.1 p.2))

abbrev pub NamesDiffer : (ℕ → Option EntryRec) → ℕ → Type 0
NamesDiffer f n = (i j : ℕ) (e g : EntryRec) → i < n → j < n → f i ≡ Some e → f j ≡ Some g → e.name ≡ g.name → i ≡ j

pub one-named : (f : ℕ → Option EntryRec) (n i : ℕ) (name : List ℕ) (e : EntryRec) → NamesDiffer f n → i < n → f i ≡ Some e → e.name ≡ name → find (is_named name) (listed f n) ≡ Some e
one-named f n i name e differ h is has =
    let r = find-some (is_named name) (listed f n) e (listed-has f n i e h is) (named-true name e has) in
    let m = member-find (is_named name) (listed f n) r.0 r.1 in
    let p = has-listed f n r.0 m.0 in
    let same = differ p.0 i r.0 e p.1 h p.2 is (named-same name r.0 m.1 ∙ sym has) in
    r.1 ∙ ap (λ (x : EntryRec). Some x) (some_in r.0 e (sym p.2 ∙ ap f same ∙ is))

-- what find gives stands at a place
pub named-at : (f : ℕ → Option EntryRec) (n : ℕ) (name : List ℕ) (e : EntryRec) → find (is_named name) (listed f n) ≡ Some e → (i : ℕ) × (i < n) × (f i ≡ Some e) × (e.name ≡ name)
named-at f n name e is =
    let m = member-find (is_named name) (listed f n) e is in
    let p = has-listed f n e m.0 in
    (p.0, p.1, p.2, named-same name e m.1)

-- The same entries under a name, at whatever places, are found the same.
pub find-same : (f g : ℕ → Option EntryRec) (n m : ℕ) (name : List ℕ) → NamesDiffer f n → NamesDiffer g m
    → ((i : ℕ) (e : EntryRec) → i < n → f i ≡ Some e → e.name ≡ name → (j : ℕ) × (j < m) × (g j ≡ Some e))
    → ((j : ℕ) (e : EntryRec) → j < m → g j ≡ Some e → e.name ≡ name → (i : ℕ) × (i < n) × (f i ≡ Some e))
    → find (is_named name) (listed g m) ≡ find (is_named name) (listed f n)
find-same f g n m name differ differ' there back = by (find (is_named name) (listed f n)) refl
  where
    none : find (is_named name) (listed f n) ≡ None → (j : ℕ) (e : EntryRec) → j < m → g j ≡ Some e → e.name ≢ name
    none is j e h at has = let p = back j e h at has in none_some e (sym is ∙ one-named f n p.0 name e differ p.1 p.2 has)

    by : (o : Option EntryRec) → find (is_named name) (listed f n) ≡ o → find (is_named name) (listed g m) ≡ o
    by None is = none-named g m name (none is)
    by (Some e) is =
        let p = named-at f n name e is in
        let q = there p.0 e p.1 p.2 p.3 in
        one-named g m q.0 name e differ' q.1 q.2 p.3

pub position-at : (f : ℕ → Option EntryRec) (n i : ℕ) (name : List ℕ) (e : EntryRec) → ((i : ℕ) → i < n → IsSome (f i)) → NamesDiffer f n → i < n → f i ≡ Some e → e.name ≡ name
    → position (is_named name) (listed f n) ≡ Some i
position-at f n i name e full differ h is has = ap at here ∙ cond-true (nat_lt i (length (listed f n))) (Some i) None (lt-ltb i _ below)
  where
    at : ℕ → Option ℕ
    at k = cond (nat_lt k (length (listed f n))) (Some k) None

    below : i < length (listed f n)
    below = let l = listed-length f n full in omega (arith, l, h)

    before : (k : ℕ) → k < i → is_named name (get_or (listed f n) k no_entry) ≡ false
    before k less =
        let low : k < n = omega (arith, less, h) in
        let s = some-of (f k) (full k low) in
        ap (is_named name) (listed-or f n full k s.0 no_entry low s.1) ∙ named-false name s.0 (λ same. apart k less (differ k i s.0 e low h s.1 is (same ∙ sym has)))
      where
        apart : (k : ℕ) → k < i → k ≡ i → ⊥
        apart k less same = omega arith

    here : position_or_len (is_named name) (listed f n) ≡ i
    here = position_or_len_is (is_named name) (listed f n) i no_entry (omega (arith, below)) before (λ _. ap (is_named name) (listed-or f n full i e no_entry h is) ∙ named-true name e has)

-- The last one takes the place of one.
pub listed-moved : (f g : ℕ → Option EntryRec) (n p : ℕ) → ((i : ℕ) → i < n → IsSome (f i)) → p < n → ((i : ℕ) → i < n - 1 → i ≢ p → g i ≡ f i) → (p < n - 1 → g p ≡ f (n - 1))
    → listed g (n - 1) ≡ swap_remove (listed f n) p no_entry
listed-moved f g n p full low others moved = ext_get_or no_entry (listed g (n - 1)) (swap_remove (listed f n) p no_entry) (count ∙ sym taken) each
  where
    len : length (listed f n) ≡ n
    len = listed-length f n full

    last : EntryRec
    last = get_or (listed f n) (length (listed f n) - 1) no_entry

    last-is : f (n - 1) ≡ Some last
    last-is =
        let s = some-of (f (n - 1)) (full (n - 1) (omega (arith, low))) in
        s.1 ∙ ap (λ (x : EntryRec). Some x) (sym (ap (λ (k : ℕ). get_or (listed f n) (k - 1) no_entry) len ∙ listed-or f n full (n - 1) s.0 no_entry (omega (arith, low)) s.1))

    full' : (i : ℕ) → i < n - 1 → IsSome (g i)
    full' i h = by (cases_eq i p)
      where
        by : (i ≡ p) ⊎ (i ≡ p → ⊥) → IsSome (g i)
        by (inl e) = ap is_some (ap g e ∙ moved (subst (λ (k : ℕ). k < n - 1) e h) ∙ last-is)
        by (inr far) = ap is_some (others i h far) ∙ full i (omega (arith, h))

    count : length (listed g (n - 1)) ≡ n - 1
    count = listed-length g (n - 1) full'

    placed : List EntryRec
    placed = slice_set (listed f n) p last

    taken : length (take (length (listed f n) - 1) placed) ≡ n - 1
    taken =
        let l = length-set (listed f n) p last in
        length-take-le (length (listed f n) - 1) placed (omega (arith, l)) ∙ ap (λ (k : ℕ). k - 1) len

    each : (i : ℕ) → i < length (listed g (n - 1)) → get_or (listed g (n - 1)) i no_entry ≡ get_or (take (length (listed f n) - 1) placed) i no_entry
    each i h = by (cases_eq i p)
      where
        less : i < n - 1
        less = omega (arith, h, count)

        right : get_or (take (length (listed f n) - 1) placed) i no_entry ≡ get_or placed i no_entry
        right = get_or-take (length (listed f n) - 1) placed i no_entry (omega (arith, less, len))

        by : (i ≡ p) ⊎ (i ≡ p → ⊥) → get_or (listed g (n - 1)) i no_entry ≡ get_or (take (length (listed f n) - 1) placed) i no_entry
        by (inl e) =
            listed-or g (n - 1) full' i last no_entry less (ap g e ∙ moved (subst (λ (k : ℕ). k < n - 1) e less) ∙ last-is)
            ∙ sym (right ∙ ap (λ (k : ℕ). get_or placed k no_entry) e ∙ get_or-set_same (listed f n) p last no_entry (omega (arith, len, low)))
        by (inr far) =
            let s = some-of (f i) (full i (omega (arith, less))) in
            listed-or g (n - 1) full' i s.0 no_entry less (others i less far ∙ s.1)
            ∙ sym (right ∙ get_or-set_other (listed f n) p i last no_entry far ∙ listed-or f n full i s.0 no_entry (omega (arith, less)) s.1)
