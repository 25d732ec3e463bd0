-- One more entry among places in order.
use Rattle.std.proofs.Common.{◌≡◌, ◌↔◌, ℕ, zero, suc, ◌+◌, ◌≤◌, ◌<◌, true, false, List, [], ◌∷◌, ◌++◌, length, map, take, drop, refl, sym, ap, subst, ◌∙◌, Some, ◌⊎◌, inl, inr, arith}
use Rattle.std.proofs.lemmas.Bool.{both_ways, cases_Bool, cases_lt}
use Rattle.std.proofs.lemmas.Grind.{flat_map-append}
use Rattle.std.proofs.lemmas.Option.{get_or_from_slice_get}
use Rattle.std.specs.Prelude.{slice_get, slice_index_or}
use Rattle.nl_field.specs.Graph.{Graph}
use Rattle.nl_field.specs.Members.{Has}
use Rattle.nl_field.specs.declared.entry.EntryRec.{EntryRec}
use Rattle.nl_field.specs.declared.inode.InodeRec.{InodeRec}
use Rattle.nl_meta.specs.Committed.{VirtualMap}
use Rattle.nl_meta.specs.Nodes.{entries_of_inode}
use Rattle.nl_meta.proofs.Lists.{none_some, some_in}
use Rattle.nl_dir.specs.Changes.{no_entry}
use Rattle.nl_dir.specs.Directory.{IsDirectory}
use Rattle.nl_dir.proofs.LawProofs.{entries_in_order}
use Rattle.nl_namespace.specs.Listing.{IsListing, Rising, is_before, mark_of, text_of}
use Rattle.nl_namespace.specs.Sorting.{IsOrder, Parts, entries_at}
use Rattle.nl_namespace.proofs.Order.{before-then, last-take, more-take, same-name, take-all, take-more}

-- ---- positions

pub at-has : (xs : List EntryRec) (i : ℕ) (x : EntryRec) → slice_get xs i ≡ Some x → Has xs x
at-has [] i x e = absurd (none_some x e)
at-has (y ∷ xs) zero x e = inl (some_in y x e)
at-has (y ∷ xs) (suc i) x e = inr (at-has xs i x e)

pub place-has : (ps : List ℕ) (i p : ℕ) → slice_get ps i ≡ Some p → Has ps p
place-has [] i p e = absurd (none_some p e)
place-has (q ∷ ps) zero p e = inl (some_in q p e)
place-has (q ∷ ps) (suc i) p e = inr (place-has ps i p e)

has-at : (xs : List EntryRec) (k : ℕ) (x : EntryRec) → Has (take k xs) x → (i : ℕ) × (i < k) × (slice_get xs i ≡ Some x)
has-at [] zero x h = absurd h
has-at [] (suc k) x h = absurd h
has-at (y ∷ xs) zero x h = absurd h
has-at (y ∷ xs) (suc k) x (inl same) = (zero, omega arith, ap (λ (z : EntryRec). Some z) same)
has-at (y ∷ xs) (suc k) x (inr h) = let r = has-at xs k x h in let l = r.1 in (suc r.0, omega (arith, l), r.2)

-- the entry at a position of the places
pub listed-at : (es : List EntryRec) (ps : List ℕ) (i p : ℕ) (e : EntryRec) → slice_get ps i ≡ Some p → slice_get es p ≡ Some e → slice_get (entries_at es ps) i ≡ Some e
listed-at es [] i p e at is = absurd (none_some p at)
listed-at es (q ∷ ps) zero p e at is = ap (λ (z : EntryRec). Some z) (get_or_from_slice_get es q e no_entry (ap (slice_get es) (some_in q p at) ∙ is))
listed-at es (q ∷ ps) (suc i) p e at is = listed-at es ps i p e at is

pub count-listed : (es : List EntryRec) (ps : List ℕ) → length (entries_at es ps) ≡ length ps
count-listed es [] = refl
count-listed es (p ∷ ps) = ap (λ (n : ℕ). suc n) (count-listed es ps)

-- an earlier one comes before a later one
rising-at : (xs : List EntryRec) → Rising xs → (i j : ℕ) (x y : EntryRec) → i < j → slice_get xs i ≡ Some x → slice_get xs j ≡ Some y → is_before x y ≡ true
unfolding Rising
rising-at [] r i j x y l a b = absurd (none_some x a)
rising-at (z ∷ xs) r i zero x y l a b = absurd (never l)
  where
    never : i < 0 → ⊥
    never l = omega (arith, l)
rising-at (z ∷ xs) r zero (suc j) x y l a b = ap (λ (w : EntryRec). is_before w y) (sym (some_in z x a)) ∙ r.0 y (at-has xs j y b)
rising-at (z ∷ xs) r (suc i) (suc j) x y l a b = rising-at xs r.1 i j x y (omega (arith, l)) a b

-- ---- one half of what is looked through

-- an entry of a name
abbrev pub named : List ℕ → EntryRec
named name = record no_entry { name = name }

module _ (xs : List EntryRec) (rising : Rising xs) (e other : EntryRec) (low high middle : ℕ) (parts : Parts xs e.name low high) (at : slice_get xs middle ≡ Some other) where
  pub upper-half : is_before other e ≡ true → Parts xs e.name (middle + 1) high
  upper-half b = record { before = λ i x l is. by i x is (cases_lt i middle) (omega (arith, l)); behind = parts.behind }
    where
      by : (i : ℕ) (x : EntryRec) → slice_get xs i ≡ Some x → (i < middle) ⊎ (middle ≤ i) → i ≤ middle → is_before x e ≡ true
      by i x is (inl l) m = before-then x other e (rising-at xs rising i middle x other l is at) b
      by i x is (inr l) m = let same : i ≡ middle = omega (arith, l, m) in ap (λ (z : EntryRec). is_before z e) (some_in x other (sym is ∙ ap (slice_get xs) same ∙ at)) ∙ b

  pub lower-half : is_before other e ≡ false → Parts xs e.name low middle
  lower-half b = record { before = parts.before; behind = λ i x l is. by i x is (cases_lt middle i) l }
    where
      not-before : (x : EntryRec) → is_before other x ≡ true → (is_before x e ≡ true) ⊎ (is_before x e ≡ false) → is_before x e ≡ false
      not-before x o (inr f) = f
      not-before x o (inl t) = absurd (both_ways _ b (before-then other x e o t))

      by : (i : ℕ) (x : EntryRec) → slice_get xs i ≡ Some x → (middle < i) ⊎ (i ≤ middle) → middle ≤ i → is_before x e ≡ false
      by i x is (inl l) m = not-before x (rising-at xs rising middle i other x l at is) (cases_Bool (is_before x e))
      by i x is (inr l) m = let same : i ≡ middle = omega (arith, l, m) in ap (λ (z : EntryRec). is_before z e) (some_in x other (sym is ∙ ap (slice_get xs) same ∙ at)) ∙ b

-- ---- one entry more

map-between : (f : ℕ → EntryRec) (ps : List ℕ) (i p : ℕ) → map f (take i ps ++ p ∷ drop i ps) ≡ take i (map f ps) ++ f p ∷ drop i (map f ps)
map-between f [] zero p = refl
map-between f [] (suc i) p = refl
map-between f (q ∷ ps) zero p = refl
map-between f (q ∷ ps) (suc i) p = ap (λ (xs : List EntryRec). f q ∷ xs) (map-between f ps i p)

length-between : (ps : List ℕ) (i p : ℕ) → length (take i ps ++ p ∷ drop i ps) ≡ length ps + 1
length-between [] zero p = refl
length-between [] (suc i) p = refl
length-between (q ∷ ps) zero p = omega arith
length-between (q ∷ ps) (suc i) p = let r = length-between ps i p in omega (arith, r)

place-between : (ps : List ℕ) (i p q : ℕ) → Has (take i ps ++ p ∷ drop i ps) q → (q ≡ p) ⊎ Has ps q
place-between [] zero p q (inl e) = inl (sym e)
place-between [] zero p q (inr h) = absurd h
place-between [] (suc i) p q (inl e) = inl (sym e)
place-between [] (suc i) p q (inr h) = absurd h
place-between (r ∷ ps) zero p q (inl e) = inl (sym e)
place-between (r ∷ ps) zero p q (inr h) = inr h
place-between (r ∷ ps) (suc i) p q (inl e) = inr (inl e)
place-between (r ∷ ps) (suc i) p q (inr h) = by (place-between ps i p q h)
  where
    by : (q ≡ p) ⊎ Has ps q → (q ≡ p) ⊎ ((r ≡ q) ⊎ Has ps q)
    by (inl e) = inl e
    by (inr h) = inr (inr h)

has-between : (xs : List EntryRec) (i : ℕ) (x f : EntryRec) → Has (take i xs ++ x ∷ drop i xs) f ↔ ((f ≡ x) ⊎ Has xs f)
has-between [] zero x f = ((λ h. only h), (λ h. back h))
  where
    only : (x ≡ f) ⊎ Has [] f → (f ≡ x) ⊎ Has [] f
    only (inl e) = inl (sym e)
    only (inr h) = inr h

    back : (f ≡ x) ⊎ Has [] f → (x ≡ f) ⊎ Has [] f
    back (inl e) = inl (sym e)
    back (inr h) = inr h
has-between [] (suc i) x f = ((λ h. only h), (λ h. back h))
  where
    only : (x ≡ f) ⊎ Has [] f → (f ≡ x) ⊎ Has [] f
    only (inl e) = inl (sym e)
    only (inr h) = inr h

    back : (f ≡ x) ⊎ Has [] f → (x ≡ f) ⊎ Has [] f
    back (inl e) = inl (sym e)
    back (inr h) = inr h
has-between (y ∷ xs) zero x f = ((λ h. only h), (λ h. back h))
  where
    only : (x ≡ f) ⊎ Has (y ∷ xs) f → (f ≡ x) ⊎ Has (y ∷ xs) f
    only (inl e) = inl (sym e)
    only (inr h) = inr h

    back : (f ≡ x) ⊎ Has (y ∷ xs) f → (x ≡ f) ⊎ Has (y ∷ xs) f
    back (inl e) = inl (sym e)
    back (inr h) = inr h
has-between (y ∷ xs) (suc i) x f = ((λ h. only (has-between xs i x f).0 h), (λ h. back (has-between xs i x f).1 h))
  where
    only : (Has (take i xs ++ x ∷ drop i xs) f → (f ≡ x) ⊎ Has xs f) → (y ≡ f) ⊎ Has (take i xs ++ x ∷ drop i xs) f → (f ≡ x) ⊎ Has (y ∷ xs) f
    only rest (inl e) = inr (inl e)
    only rest (inr h) = by (rest h)
      where
        by : (f ≡ x) ⊎ Has xs f → (f ≡ x) ⊎ Has (y ∷ xs) f
        by (inl e) = inl e
        by (inr m) = inr (inr m)

    back : ((f ≡ x) ⊎ Has xs f → Has (take i xs ++ x ∷ drop i xs) f) → (f ≡ x) ⊎ Has (y ∷ xs) f → (y ≡ f) ⊎ Has (take i xs ++ x ∷ drop i xs) f
    back rest (inl e) = inr (rest (inl e))
    back rest (inr (inl e)) = inl e
    back rest (inr (inr m)) = inr (rest (inr m))

-- the order stays, where what is before comes before, and it before what is behind
rising-between : (xs : List EntryRec) (i : ℕ) (x : EntryRec) → Rising xs → ((j : ℕ) (y : EntryRec) → j < i → slice_get xs j ≡ Some y → is_before y x ≡ true) → ((j : ℕ) (y : EntryRec) → i ≤ j → slice_get xs j ≡ Some y → is_before x y ≡ true)
    → Rising (take i xs ++ x ∷ drop i xs)
unfolding Rising
rising-between [] zero x r before behind = ((λ f h. absurd h), tt)
rising-between [] (suc i) x r before behind = ((λ f h. absurd h), tt)
rising-between (y ∷ xs) zero x r before behind = ((λ f h. first f (has-at (y ∷ xs) (suc (length xs)) f (subst (λ (zs : List EntryRec). Has zs f) (sym (take-all (y ∷ xs) (suc (length xs)) (omega arith))) h))), r)
  where
    first : (f : EntryRec) → (i : ℕ) × (i < suc (length xs)) × (slice_get (y ∷ xs) i ≡ Some f) → is_before x f ≡ true
    first f a = behind a.0 f (omega arith) a.2
rising-between (y ∷ xs) (suc i) x r before behind =
    ((λ f h. by f ((has-between xs i x f).0 h)), rising-between xs i x r.1 (λ j z l at. before (suc j) z (omega (arith, l)) at) (λ j z l at. behind (suc j) z (omega (arith, l)) at))
  where
    by : (f : EntryRec) → (f ≡ x) ⊎ Has xs f → is_before y f ≡ true
    by f (inl e) = ap (is_before y) e ∙ before zero y (omega arith) refl
    by f (inr h) = r.0 f h

module _ (es : List EntryRec) (k : ℕ) (ps : List ℕ) (order : IsOrder es k ps) (e : EntryRec) (is : slice_get es k ≡ Some e) (other : (x : EntryRec) → Has (take k es) x → x.name ≡ e.name → ⊥) (at : ℕ) (parts : Parts (entries_at es ps) e.name at at) where
  listed-is : entries_at es (take at ps ++ k ∷ drop at ps) ≡ take at (entries_at es ps) ++ e ∷ drop at (entries_at es ps)
  listed-is =
      map-between _ ps at k
      ∙ ap (λ (x : EntryRec). take at (entries_at es ps) ++ x ∷ drop at (entries_at es ps)) (get_or_from_slice_get es k e no_entry is)

  then-behind : (j : ℕ) (y : EntryRec) → at ≤ j → slice_get (entries_at es ps) j ≡ Some y → is_before e y ≡ true
  then-behind j y l a = by (cases_Bool (is_before e y))
    where
      by : (is_before e y ≡ true) ⊎ (is_before e y ≡ false) → is_before e y ≡ true
      by (inl t) = t
      by (inr f) = absurd (other y ((order.each y).0 (at-has (entries_at es ps) j y a)) (sym (same-name e y f (parts.behind j y l a))))

  pub order-more : IsOrder es (k + 1) (take at ps ++ k ∷ drop at ps)
  order-more = record {
    counted = length-between ps at k ∙ ap (λ (n : ℕ). n + 1) order.counted;
    below = λ p h. below p (place-between ps at k p h);
    each = λ f. (
      (λ h. there f ((has-between (entries_at es ps) at e f).0 (subst (λ (xs : List EntryRec). Has xs f) listed-is h))),
      (λ h. subst (λ (xs : List EntryRec). Has xs f) (sym listed-is) ((has-between (entries_at es ps) at e f).1 (back f (take-more es k e f is (subst (λ (n : ℕ). Has (take n es) f) one-more h))))),
    );
    rising = subst Rising (sym listed-is) (rising-between (entries_at es ps) at e order.rising parts.before then-behind);
  }
    where
      one-more : k + 1 ≡ suc k
      one-more = omega arith

      below : (p : ℕ) → (p ≡ k) ⊎ Has ps p → p < k + 1
      below p (inl e) = omega (arith, e)
      below p (inr h) = let l = order.below p h in omega (arith, l)

      there : (f : EntryRec) → (f ≡ e) ⊎ Has (entries_at es ps) f → Has (take (k + 1) es) f
      there f (inl same) = subst (λ (n : ℕ). Has (take n es) f) (sym one-more) (subst (Has (take (suc k) es)) (sym same) (last-take es k e is))
      there f (inr h) = subst (λ (n : ℕ). Has (take n es) f) (sym one-more) (more-take es k f ((order.each f).0 h))

      back : (f : EntryRec) → Has (take k es) f ⊎ (f ≡ e) → (f ≡ e) ⊎ Has (entries_at es ps) f
      back f (inl h) = inr ((order.each f).1 h)
      back f (inr same) = inl same

pub order-none : (es : List EntryRec) → IsOrder es 0 []
unfolding Rising
order-none es = record { counted = refl; below = λ p h. absurd h; each = λ e. ((λ h. absurd h), (λ h. absurd h)); rising = tt }

-- nothing is before or behind
pub parts-all : (xs : List EntryRec) (name : List ℕ) (high : ℕ) → length xs ≤ high → Parts xs name 0 high
parts-all xs name high most = record { before = λ i x l is. absurd (never i l); behind = λ i x l is. absurd (outside xs i x is (omega (arith, most, l))) }
  where
    never : (i : ℕ) → i < 0 → ⊥
    never i l = omega (arith, l)

    outside : (xs : List EntryRec) (i : ℕ) (x : EntryRec) → slice_get xs i ≡ Some x → length xs ≤ i → ⊥
    outside [] i x is l = none_some x is
    outside (y ∷ xs) zero x is l = never' l
      where
        never' : suc (length xs) ≤ 0 → ⊥
        never' l = omega (arith, l)
    outside (y ∷ xs) (suc i) x is l = outside xs i x is (omega (arith, l))

pub listed-count : (es : List EntryRec) (ps : List ℕ) → length (entries_at es ps) ≡ length ps
listed-count = count-listed

-- two places of a directory have two names
pub names-apart : (pages : VirtualMap) (rec : InodeRec) → IsDirectory pages rec → (k : ℕ) (e : EntryRec) → k < rec.size → slice_get (entries_of_inode pages rec) k ≡ Some e → (x : EntryRec) → Has (take k (entries_of_inode pages rec)) x → x.name ≡ e.name → ⊥
names-apart pages rec is k e below at x h same =
    let r = has-at (entries_of_inode pages rec) k x h in
    let each = (entries_in_order pages rec is).each in
    let l = r.1 in
    let one = is.names_differ r.0 k x e (omega (arith, l, below)) below (sym (each r.0 (omega (arith, l, below))) ∙ r.2) (sym (each k below) ∙ at) same in
    never r.0 l one
  where
    never : (i : ℕ) → i < k → i ≡ k → ⊥
    never i l e = omega (arith, l, e)

-- ---- what is printed

-- the entries that were printed first
pub printed-more : (graph : Graph) (es : List EntryRec) (ps : List ℕ) (i p : ℕ) (e : EntryRec) (text : List ℕ) → slice_get ps i ≡ Some p → slice_get es p ≡ Some e → text ≡ text_of graph (entries_at es (take i ps))
    → text ++ text_of graph (e ∷ []) ≡ text_of graph (entries_at es (take (i + 1) ps))
unfolding text_of
printed-more graph es ps i p e text at is so =
    ap (λ (t : List ℕ). t ++ text_of graph (e ∷ [])) so ∙ sym (flat_map-append (λ (x : EntryRec). 32 ∷ x.name ++ mark_of (graph x.ino).body) (entries_at es (take i ps)) (e ∷ []))
    ∙ ap (text_of graph) (sym (ap (λ (k : ℕ). entries_at es (take k ps)) one ∙ taken-more ps i at))
  where
    one : i + 1 ≡ suc i
    one = omega arith

    taken-more : (ps : List ℕ) (i : ℕ) → slice_get ps i ≡ Some p → entries_at es (take (suc i) ps) ≡ entries_at es (take i ps) ++ e ∷ []
    taken-more [] i at = absurd (none_some p at)
    taken-more (q ∷ ps) zero at = ap (λ (z : EntryRec). z ∷ []) (get_or_from_slice_get es q e no_entry (ap (slice_get es) (some_in q p at) ∙ is))
    taken-more (q ∷ ps) (suc i) at = ap (λ (xs : List EntryRec). slice_index_or es q no_entry ∷ xs) (taken-more ps i at)

pub all-listed : (graph : Graph) (es : List EntryRec) (ps : List ℕ) (n : ℕ) (text : List ℕ) → IsOrder es n ps → length es ≡ n → text ≡ text_of graph (entries_at es (take n ps)) → IsListing graph es n text
all-listed graph es ps n text order count so = record {
  listed = entries_at es ps;
  each = λ e. ((λ h. subst (λ (xs : List EntryRec). Has xs e) whole ((order.each e).0 h)), (λ h. (order.each e).1 (subst (λ (xs : List EntryRec). Has xs e) (sym whole) h)));
  rising = order.rising;
  counted = sym order.counted ∙ sym (count-listed es ps);
  printed = so ∙ ap (λ (qs : List ℕ). text_of graph (entries_at es qs)) (places-all ps n (let c = order.counted in omega (arith, c)));
}
  where
    whole : take n es ≡ es
    whole = take-all es n (omega (arith, count))

    places-all : (ps : List ℕ) (n : ℕ) → length ps ≤ n → take n ps ≡ ps
    places-all [] zero h = refl
    places-all [] (suc n) h = refl
    places-all (x ∷ ps) zero h = absurd (none h)
      where
        none : suc (length ps) ≤ 0 → ⊥
        none h = omega (arith, h)
    places-all (x ∷ ps) (suc n) h = ap (λ (ys : List ℕ). x ∷ ys) (places-all ps n (omega (arith, h)))

-- the place at a position
pub place-at-position : (ps : List ℕ) (i : ℕ) → i < length ps → slice_get ps i ≡ Some (slice_index_or ps i 0)
place-at-position [] i h = absurd (never i h)
  where
    never : (i : ℕ) → i < 0 → ⊥
    never i h = omega (arith, h)
place-at-position (p ∷ ps) zero h = refl
place-at-position (p ∷ ps) (suc i) h = place-at-position ps i (omega (arith, h))

pub none-printed : (graph : Graph) (es : List EntryRec) (ps : List ℕ) → [] ≡ text_of graph (entries_at es (take 0 ps))
unfolding text_of
none-printed graph es [] = refl
none-printed graph es (p ∷ ps) = refl
