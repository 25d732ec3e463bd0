-- The pages as they are kept.
use Rattle.std.proofs.Common.{◌≡◌, ℕ, zero, suc, ◌+◌, ◌^◌, ◌≤◌, ◌<◌, Bool, true, false, cond, List, [], ◌∷◌, ◌++◌, length, map, replicate, take, get_or, unwrap_or, slice_get, position, not, nat_lt, ◌==◌, refl, sym, ap, subst, ◌∙◌, Option, Some, None, is_some, IsSome, ◌⊎◌, inl, inr, arith}
use Rattle.std.proofs.Math.ListN.{set}
use Rattle.std.proofs.lemmas.Bool.{cond-true, eq-eqb, eqb-false, lt-ltb, not_from_true}
use Rattle.std.proofs.lemmas.List.Quantifiers.{position-Some}
use Rattle.std.specs.List.{filter, list_any, prefix_len}
use Rattle.std.proofs.lemmas.List.{get_or-set_other, length-append, length-set, length-map, length-take-le, length-replicate}
use Rattle.nl_field.specs.Members.{Has}
use Rattle.nl_field.specs.Page.{PageBytes}
use Rattle.nl_meta.specs.Inside.{IsMetaState, slots, no_page}
use Rattle.nl_meta.specs.Pages.{IsPages, rises, with_address}
use Rattle.nl_meta.proofs.Lists.{any-none}
use Rattle.nl_meta.proofs.Rising.{Room, room, with-member, with-rises}

abbrev shown : Bool → PageBytes → Option (List ℕ)
shown b page = cond b (Some page.main) None

pub slots-length : (bs : List Bool) (pages : List PageBytes) → length bs ≡ length pages → length (slots bs pages) ≡ length bs
unfolding slots
slots-length [] pages e = refl
slots-length (b ∷ bs) [] e = absurd (none e)
  where
    none : suc (length bs) ≡ 0 → ⊥
    none e = omega arith
slots-length (b ∷ bs) (page ∷ pages) e = ap suc (slots-length bs pages (less e))
  where
    less : suc (length bs) ≡ suc (length pages) → length bs ≡ length pages
    less e = omega arith

pub slots-at : (bs : List Bool) (pages : List PageBytes) (v : ℕ) → length bs ≡ length pages → v < length bs → get_or (slots bs pages) v None ≡ shown (get_or bs v false) (get_or pages v no_page)
unfolding slots
slots-at [] pages v e lt = absurd (none lt)
  where
    none : v < 0 → ⊥
    none h = omega arith
slots-at (b ∷ bs) [] v e lt = absurd (none e)
  where
    none : suc (length bs) ≡ 0 → ⊥
    none e = omega arith
slots-at (b ∷ bs) (page ∷ pages) zero e lt = refl
slots-at (b ∷ bs) (page ∷ pages) (suc v) e lt = slots-at bs pages v (omega (arith, e)) (omega (arith, lt))

-- what is_some tells of a page is which are resident
pub slots-resident : (bs : List Bool) (pages : List PageBytes) (v : ℕ) → length bs ≡ length pages → is_some (get_or (slots bs pages) v None) ≡ get_or bs v false
unfolding slots
slots-resident [] pages v e = refl
slots-resident (b ∷ bs) [] v e = absurd (none e)
  where
    none : suc (length bs) ≡ 0 → ⊥
    none e = omega arith
slots-resident (true ∷ bs) (page ∷ pages) zero e = refl
slots-resident (false ∷ bs) (page ∷ pages) zero e = refl
slots-resident (b ∷ bs) (page ∷ pages) (suc v) e = slots-resident bs pages v (omega (arith, e))

pub resident-below : (bs : List Bool) (v : ℕ) → get_or bs v false ≡ true → v < length bs
resident-below [] v e = absurd (no e)
  where
    no : false ≡ true → ⊥
    no e = cc
resident-below (b ∷ bs) zero e = omega arith
resident-below (b ∷ bs) (suc v) e = let h = resident-below bs v e in omega (arith, h)

-- a resident page is replaced
pub slots-set : (bs : List Bool) (pages : List PageBytes) (v : ℕ) (page : PageBytes) → length bs ≡ length pages → get_or bs v false ≡ true → slots bs (set pages v page) ≡ set (slots bs pages) v (Some page.main)
unfolding slots
slots-set [] pages v page e is = refl
slots-set (b ∷ bs) [] v page e is = absurd (none e)
  where
    none : suc (length bs) ≡ 0 → ⊥
    none e = omega arith
slots-set (b ∷ bs) (p ∷ pages) zero page e is = ap (λ (b : Bool). shown b page ∷ slots bs pages) is
slots-set (b ∷ bs) (p ∷ pages) (suc v) page e is = ap (λ (xs : List (Option (List ℕ))). shown b p ∷ xs) (slots-set bs pages v page (omega (arith, e)) is)

-- an address becomes resident
pub slots-held : (bs : List Bool) (pages : List PageBytes) (v : ℕ) → length bs ≡ length pages → slots (set bs v true) pages ≡ set (slots bs pages) v (Some (get_or pages v no_page).main)
unfolding slots
slots-held [] pages v e = refl
slots-held (b ∷ bs) [] v e = absurd (none e)
  where
    none : suc (length bs) ≡ 0 → ⊥
    none e = omega arith
slots-held (b ∷ bs) (p ∷ pages) zero e = refl
slots-held (b ∷ bs) (p ∷ pages) (suc v) e = ap (λ (xs : List (Option (List ℕ))). shown b p ∷ xs) (slots-held bs pages v (omega (arith, e)))

pub slots-count : (bs : List Bool) (pages : List PageBytes) → length bs ≡ length pages → length (filter is_some (slots bs pages)) ≡ length (filter (λ b. b) bs)
unfolding slots
slots-count [] pages e = refl
slots-count (b ∷ bs) [] e = absurd (none e)
  where
    none : suc (length bs) ≡ 0 → ⊥
    none e = omega arith
slots-count (true ∷ bs) (page ∷ pages) e = ap suc (slots-count bs pages (omega (arith, e)))
slots-count (false ∷ bs) (page ∷ pages) e = slots-count bs pages (omega (arith, e))

pub slots-none : (n : ℕ) (pages : List PageBytes) → n ≡ length pages → slots (replicate n false) pages ≡ replicate n None
unfolding slots
slots-none zero pages e = refl
slots-none (suc n) [] e = absurd (none e)
  where
    none : suc n ≡ 0 → ⊥
    none e = omega arith
slots-none (suc n) (page ∷ pages) e = ap (λ (xs : List (Option (List ℕ))). None ∷ xs) (slots-none n pages (omega (arith, e)))

-- ---- how many are resident

pub count-none : (n : ℕ) → length (filter (λ (b : Bool). b) (replicate n false)) ≡ 0
count-none zero = refl
count-none (suc n) = count-none n

pub count-more : (bs : List Bool) (v : ℕ) → v < length bs → get_or bs v false ≡ false → length (filter (λ b. b) (set bs v true)) ≡ length (filter (λ b. b) bs) + 1
count-more [] v lt e = absurd (none lt)
  where
    none : v < 0 → ⊥
    none h = omega arith
count-more (true ∷ bs) zero lt e = absurd (no e)
  where
    no : true ≡ false → ⊥
    no e = cc
count-more (false ∷ bs) zero lt e = omega arith
count-more (true ∷ bs) (suc v) lt e = let h = count-more bs v (omega (arith, lt)) e in omega (arith, h)
count-more (false ∷ bs) (suc v) lt e = count-more bs v (omega (arith, lt)) e

pub count-most : (bs : List Bool) (v : ℕ) → v < length bs → get_or bs v false ≡ false → length (filter (λ b. b) bs) < length bs
count-most [] v lt e = absurd (none lt)
  where
    none : v < 0 → ⊥
    none h = omega arith
count-most (true ∷ bs) zero lt e = absurd (no e)
  where
    no : true ≡ false → ⊥
    no e = cc
count-most (false ∷ bs) zero lt e = let h = all bs in omega (arith, h)
  where
    all : (bs : List Bool) → length (filter (λ b. b) bs) ≤ length bs
    all [] = omega arith
    all (true ∷ bs) = let h = all bs in omega (arith, h)
    all (false ∷ bs) = let h = all bs in omega (arith, h)
count-most (true ∷ bs) (suc v) lt e = let h = count-most bs v (omega (arith, lt)) e in omega (arith, h)
count-most (false ∷ bs) (suc v) lt e = let h = count-most bs v (omega (arith, lt)) e in omega (arith, h)

pub slots-dropped : (bs : List Bool) (pages : List PageBytes) (v : ℕ) → length bs ≡ length pages → slots (set bs v false) pages ≡ set (slots bs pages) v None
unfolding slots
slots-dropped [] pages v e = refl
slots-dropped (b ∷ bs) [] v e = absurd (none e)
  where
    none : suc (length bs) ≡ 0 → ⊥
    none e = omega arith
slots-dropped (b ∷ bs) (p ∷ pages) zero e = refl
slots-dropped (b ∷ bs) (p ∷ pages) (suc v) e = ap (λ (xs : List (Option (List ℕ))). shown b p ∷ xs) (slots-dropped bs pages v (omega (arith, e)))

pub count-less : (bs : List Bool) (v : ℕ) → get_or bs v false ≡ true → length (filter (λ b. b) (set bs v false)) + 1 ≡ length (filter (λ b. b) bs)
count-less [] v e = absurd (no e)
  where
    no : false ≡ true → ⊥
    no e = cc
count-less (true ∷ bs) zero e = omega arith
count-less (false ∷ bs) zero e = absurd (no e)
  where
    no : false ≡ true → ⊥
    no e = cc
count-less (true ∷ bs) (suc v) e = let h = count-less bs v e in omega (arith, h)
count-less (false ∷ bs) (suc v) e = count-less bs v e

pub set-same : (bs : List Bool) (v : ℕ) → get_or bs v false ≡ true → set bs v true ≡ bs
set-same [] v e = refl
set-same (b ∷ bs) zero e = ap (λ (b : Bool). b ∷ bs) (sym e)
set-same (b ∷ bs) (suc v) e = ap (λ (xs : List Bool). b ∷ xs) (set-same bs v e)

pub set-keeps : (bs : List Bool) (v u : ℕ) → get_or bs u false ≡ true → get_or (set bs v true) u false ≡ true
set-keeps [] v u e = e
set-keeps (b ∷ bs) zero zero e = refl
set-keeps (b ∷ bs) zero (suc u) e = e
set-keeps (b ∷ bs) (suc v) zero e = e
set-keeps (b ∷ bs) (suc v) (suc u) e = set-keeps bs v u e

-- ---- what the calls keep

module _ (pages : List PageBytes) (resident : List Bool) (count : ℕ) (dirty recent frozen : List ℕ) (images : List PageBytes) (is : IsMetaState pages resident count dirty recent frozen images) where
  pub here : (v : ℕ) → IsSome (get_or (slots resident pages) v None) → get_or resident v false ≡ true
  here v h = sym (slots-resident resident pages v is.each) ∙ h

  pub within : (v : ℕ) → get_or resident v false ≡ true → v < length pages
  within v e = let h = resident-below resident v e in let l = is.each in omega (arith, h, l)

  pub shown-at : (v : ℕ) → get_or resident v false ≡ true → get_or (slots resident pages) v None ≡ Some (get_or pages v no_page).main
  shown-at v e = slots-at resident pages v is.each (resident-below resident v e) ∙ ap (λ (b : Bool). shown b (get_or pages v no_page)) e

  pub kept-pages : IsPages (record { running = slots resident pages; dirty = dirty; recent = recent; frozen = record { addresses = frozen; images = map (λ page. page.main) (take (length frozen) images) } })
  kept-pages = record {
    dirty_rise = is.dirty_rise;
    dirty_there = λ v m. some_from v (is.dirty_there v m);
    few_dirty = is.few_dirty;
    frozen_rise = is.frozen_rise;
    frozen_images = length-map _ _ ∙ length-take-le (length frozen) images enough;
    few_frozen = is.most_frozen;
  }
    where
      some_from : (v : ℕ) → get_or resident v false ≡ true → IsSome (get_or (slots resident pages) v None)
      some_from v e = slots-resident resident pages v is.each ∙ e

      enough : length frozen ≤ length images
      enough = let a = is.most_frozen in let b = is.images_room in omega (arith, a, b)

  pub marked : (v : ℕ) → IsSome (get_or (slots resident pages) v None) → Room v dirty → IsMetaState pages resident count (with_address v dirty) recent frozen images
  marked v there enough = record {
    each = is.each;
    room = is.room;
    counted = is.counted;
    dirty_rise = with-rises v dirty is.dirty_rise;
    dirty_there = λ u m. by u (with-member v dirty u m);
    few_dirty = enough.others;
    most_dirty = enough.whole;
    frozen_rise = is.frozen_rise;
    most_frozen = is.most_frozen;
    images_room = is.images_room;
  }
    where
      by : (u : ℕ) → (v ≡ u) ⊎ Has dirty u → get_or resident u false ≡ true
      by u (inl e) = ap (λ (w : ℕ). get_or resident w false) (sym e) ∙ here v there
      by u (inr m) = is.dirty_there u m

  pub held : (v n : ℕ) (last : List ℕ) → n ≡ length (filter (λ b. b) (set resident v true)) → IsMetaState pages (set resident v true) n dirty last frozen images
  held v n last e = record {
    each = length-set resident v true ∙ is.each;
    room = is.room;
    counted = e;
    dirty_rise = is.dirty_rise;
    dirty_there = λ u m. set-keeps resident v u (is.dirty_there u m);
    few_dirty = is.few_dirty;
    most_dirty = is.most_dirty;
    frozen_rise = is.frozen_rise;
    most_frozen = is.most_frozen;
    images_room = is.images_room;
  }

  pub dropped : (v n : ℕ) → list_any (λ a. a == v) dirty ≡ false → n ≡ length (filter (λ b. b) (set resident v false)) → IsMetaState pages (set resident v false) n dirty recent frozen images
  dropped v n clean e = record {
    each = length-set resident v false ∙ is.each;
    room = is.room;
    counted = e;
    dirty_rise = is.dirty_rise;
    dirty_there = λ u m. get_or-set_other resident v u false false (eqb-false u v (any-none (λ a. a == v) dirty clean u m)) ∙ is.dirty_there u m;
    few_dirty = is.few_dirty;
    most_dirty = is.most_dirty;
    frozen_rise = is.frozen_rise;
    most_frozen = is.most_frozen;
    images_room = is.images_room;
  }

  pub frozen-now : (all : List PageBytes) → length all ≡ length images → IsMetaState pages resident count [] recent dirty all
  unfolding rises
  frozen-now all e = record {
    each = is.each;
    room = is.room;
    counted = is.counted;
    dirty_rise = refl;
    dirty_there = λ v m. absurd m;
    few_dirty = omega arith;
    most_dirty = omega arith;
    frozen_rise = is.dirty_rise;
    most_frozen = is.most_dirty;
    images_room = e ∙ is.images_room;
  }

  pub imaged : (v : ℕ) (all : List PageBytes) → rises (frozen ++ v ∷ []) ≡ true → length frozen < 64 → length all ≡ length images → IsMetaState pages resident count dirty recent (frozen ++ v ∷ []) all
  imaged v all rise few e = record {
    each = is.each;
    room = is.room;
    counted = is.counted;
    dirty_rise = is.dirty_rise;
    dirty_there = is.dirty_there;
    few_dirty = is.few_dirty;
    most_dirty = is.most_dirty;
    frozen_rise = rise;
    most_frozen = (let n = length-append frozen (v ∷ []) in omega (arith, n, few));
    images_room = e ∙ is.images_room;
  }

  pub thawed : IsMetaState pages resident count dirty recent [] images
  unfolding rises
  thawed = record {
    each = is.each;
    room = is.room;
    counted = is.counted;
    dirty_rise = is.dirty_rise;
    dirty_there = is.dirty_there;
    few_dirty = is.few_dirty;
    most_dirty = is.most_dirty;
    frozen_rise = refl;
    most_frozen = omega arith;
    images_room = is.images_room;
  }

  pub images-same : (xs : List ℕ) → ((v : ℕ) → Has xs v → get_or resident v false ≡ true)
      → map (λ (page : PageBytes). page.main) (map (λ v. get_or pages v no_page) xs) ≡ map (λ v. unwrap_or (get_or (slots resident pages) v None) []) xs
  images-same [] f = refl
  images-same (x ∷ xs) f = λ i. unwrap_or (sym (shown-at x (f x (inl refl))) i) [] ∷ images-same xs (λ v m. f v (inr m)) i

pub blank : (pages images : List PageBytes) (n : ℕ) → length pages ≡ n → n < 2 ^ 32 → length images ≡ 64 → IsMetaState pages (replicate n false) 0 [] [] [] images
unfolding rises
blank pages images n e small room = record {
  each = length-replicate n false ∙ sym e;
  room = omega (arith, e, small);
  counted = sym (count-none n);
  dirty_rise = refl;
  dirty_there = λ v m. absurd m;
  few_dirty = omega arith;
  most_dirty = omega arith;
  frozen_rise = refl;
  most_frozen = omega arith;
  images_room = room;
}

pub set-set : {X : Type 0} (xs : List X) (v : ℕ) (a b : X) → set (set xs v a) v b ≡ set xs v b
set-set [] v a b = refl
set-set (x ∷ xs) zero a b = refl
set-set (x ∷ xs) (suc v) a b = ap (λ ys. x ∷ ys) (set-set xs v a b)

-- the i-th frozen page
pub image-at : (images : List PageBytes) (n i : ℕ) → i < n → n ≤ length images → slice_get (map (λ page. page.main) (take n images)) i ≡ Some (get_or images i no_page).main
image-at [] n i lt le = absurd (none lt le)
  where
    none : i < n → n ≤ 0 → ⊥
    none a b = omega arith
image-at (x ∷ images) zero i lt le = absurd (none lt)
  where
    none : i < 0 → ⊥
    none h = omega arith
image-at (x ∷ images) (suc n) zero lt le = refl
image-at (x ∷ images) (suc n) (suc i) lt le = image-at images n i (omega (arith, lt)) (omega (arith, le))

-- what an index reads is the element
pub same-at : (pages : List PageBytes) (v : ℕ) (page other : PageBytes) → v < length pages → page ≡ get_or pages v page → get_or pages v other ≡ page
same-at [] v page other lt e = absurd (none lt)
  where
    none : v < 0 → ⊥
    none h = omega arith
same-at (x ∷ pages) zero page other lt e = sym e
same-at (x ∷ pages) (suc v) page other lt e = same-at pages v page other (omega (arith, lt)) e

pub none-at : (bs : List Bool) (v : ℕ) → length bs ≤ v → get_or bs v false ≡ false
none-at [] v h = refl
none-at (b ∷ bs) zero h = absurd (none h)
  where
    none : suc (length bs) ≤ 0 → ⊥
    none h = omega arith
none-at (b ∷ bs) (suc v) h = none-at bs v (omega (arith, h))

pub has-at : (xs : List ℕ) (i : ℕ) → i < length xs → Has xs (get_or xs i 0)
has-at [] i lt = absurd (none lt)
  where
    none : i < 0 → ⊥
    none h = omega arith
has-at (x ∷ xs) zero lt = inl refl
has-at (x ∷ xs) (suc i) lt = inr (has-at xs i (omega (arith, lt)))

-- ---- where an address stands

first-has : (xs : List ℕ) (v : ℕ) → Has xs v → prefix_len (λ a. not (a == v)) xs < length xs
first-has [] v m = absurd m
first-has (x ∷ xs) v (inl e) = subst (λ (b : Bool). cond b (1 + prefix_len (λ a. not (a == v)) xs) 0 < suc (length xs)) (sym (not_from_true _ (eq-eqb x v e))) (omega arith)
first-has (x ∷ xs) v (inr m) =
    let h = first-has xs v m in
    elim (not (x == v)) as (λ b. cond b (1 + prefix_len (λ a. not (a == v)) xs) 0 < suc (length xs)) [ true ↦ omega (arith, h) | false ↦ omega arith ]

pub position-has : (xs : List ℕ) (v : ℕ) → Has xs v → position (λ a. a == v) xs ≡ None → ⊥
position-has xs v m e = no (sym (cond-true (nat_lt (prefix_len (λ a. not (a == v)) xs) (length xs)) _ _ (lt-ltb _ _ (first-has xs v m))) ∙ e)
  where
    no : {i : ℕ} → Some i ≡ None → ⊥
    no e = cc

pub position-below : (xs : List ℕ) (v i : ℕ) → position (λ a. a == v) xs ≡ Some i → i < length xs
position-below xs v i e = (position-Some (λ a. a == v) xs i 0 e).0
