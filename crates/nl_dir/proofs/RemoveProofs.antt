-- The last entry of a directory takes the place of one.
use Rattle.std.proofs.Common.{◌≡◌, ◌≢◌, ℕ, ◌-◌, ◌*◌, ◌/◌, ◌%◌, ◌≤◌, ◌<◌, true, false, ◌==◌, List, [], ◌∷◌, ◌++◌, length, find, get_or, refl, sym, ap, subst, ◌∙◌, Option, Some, unwrap_or, is_some, IsSome, ◌⊎◌, inl, inr, arith}
use Rattle.std.proofs.lemmas.Bool.{cases_eq, cond-true, cond-false, eq-eqb, ne_eqb}
use Rattle.std.specs.Int.{div_ceil}
use Rattle.std.specs.Prelude.{IsTrue}
use Rattle.nl_field.specs.Bytes.{all_zero, zeros}
use Rattle.nl_field.specs.EntryRecord.{entry_of}
use Rattle.nl_field.specs.Members.{Has}
use Rattle.nl_field.specs.declared.entry.EntryRec.{EntryRec}
use Rattle.nl_field.specs.declared.inode.InodeRec.{InodeRec}
use Rattle.nl_meta.specs.Nodes.{address_of_place, bytes_at, bytes_of_place, entries_of_inode, entry_named}
use Rattle.nl_meta.specs.Pages.{Pages, page_of, with_address}
use Rattle.nl_meta.specs.SlotLaws.{with_slot}
use Rattle.nl_meta.specs.Steps.{with_dirty}
use Rattle.nl_meta.proofs.Lists.{some_in}
use Rattle.nl_meta.proofs.SlotProofs.{one_slot}
use Rattle.nl_dir.specs.Changes.{ChangesPages, RemovesDirectoryEntry, with_addresses}
use Rattle.nl_dir.specs.Directory.{HasPlaces, HasRoomForDirty, IsDirectory, entry_at, given_up, last_alone, shorter}
use Rattle.nl_dir.specs.Looking.{IsNamedAt}
use Rattle.nl_dir.specs.Slots.{DropsLast, FillsPlace, PutsSlot}
use Rattle.nl_dir.proofs.EntryLists.{find-same, is_named, listed, listed-moved, none-named, position-at, some-of}
use Rattle.nl_dir.proofs.PlaceFacts.{apart, below-length, no-page, one-page, one-slot, page-at, page-beside, room-after, same-place, shown, slot-put, zeros-zero}
use Rattle.nl_dir.proofs.Records.{SpelledDir, alone-rows, beside-addresses, beside-rows, dir-spelled, shorter-address, shorter-spelled, spelled-dir}

-- ---- a slot of a page of the directory

-- What a slot that is put means for the places.
pub record PutsPlace (rec : InodeRec) (place : ℕ) (bytes : List ℕ) (p q : Pages) : Type 0 where
  pub at : bytes_of_place (page_of q) rec place ≡ bytes
  pub others : (k : ℕ) → k ≢ place → k < 64 * div_ceil rec.size 64 → bytes_of_place (page_of q) rec k ≡ bytes_of_place (page_of p) rec k
  pub there : (u : ℕ) → IsSome (page_of p u) → IsSome (page_of q u)
  pub pages : ChangesPages (address_of_place rec place ∷ []) p q
  pub recent : q.recent ≡ p.recent
  pub room : HasRoomForDirty 2 p → HasRoomForDirty 1 q

pub puts-place : (p q : Pages) (rec : InodeRec) (place : ℕ) (bytes : List ℕ) → HasPlaces (page_of p) rec → place < rec.size → length bytes ≡ 64
    → PutsSlot (address_of_place rec place) (place % 64) bytes p q → PutsPlace rec place bytes p q
puts-place p q rec place bytes has below width puts = record {
  at = shown (page_of q) rec place page new-page ∙ slot-put (place % 64) bytes main puts.whole low width;
  others = λ k far h.
      ap (λ (x : Pages). bytes_of_place (page_of x) rec k) puts.page
      ∙ one_slot.place v (place % 64) (page_of p) (page_of (with_dirty p v page)) (one-slot p v (place % 64) bytes main main-is puts.whole low width) rec k (apart (page_of p) rec has place k within h far);
  there = λ u h. by u h (cases_eq u v);
  pages = subst (λ (x : Pages). ChangesPages (v ∷ []) p x) (sym puts.page) (one-page p v page inside);
  recent = ap (λ (x : Pages). x.recent) puts.page;
  room = λ h. subst (λ (x : Pages). HasRoomForDirty 1 x) (sym puts.page) (room-after p v page h);
}
  where
    v : ℕ
    v = address_of_place rec place

    main : List ℕ
    main = bytes_at (page_of p) v

    page : List ℕ
    page = with_slot 64 (place % 64) bytes main

    within : place < 64 * div_ceil rec.size 64
    within = omega (arith, below)

    there : IsSome (page_of p v)
    there = has.there place below

    inside : v < length p.running
    inside = below-length p v there

    main-is : page_of p v ≡ Some main
    main-is = let s = some-of (page_of p v) there in s.1 ∙ ap (λ (o : Option (List ℕ)). Some (unwrap_or o [])) (sym s.1)

    low : place % 64 < 64
    low = omega arith

    new-page : page_of q v ≡ Some page
    new-page = ap (λ (x : Pages). page_of x v) puts.page ∙ page-at p v page inside

    by : (u : ℕ) → IsSome (page_of p u) → (u ≡ v) ⊎ (u ≡ v → ⊥) → IsSome (page_of q u)
    by u h (inl e) = ap is_some (ap (page_of q) e ∙ new-page)
    by u h (inr far) = ap is_some (ap (λ (x : Pages). page_of x u) puts.page ∙ page-beside p v page u far) ∙ h

-- ---- the last entry stands at the place too

pub fills : (p q : Pages) (rec : InodeRec) (place : ℕ) (bytes : List ℕ) → place ≢ rec.size - 1 → bytes ≡ bytes_of_place (page_of p) rec (rec.size - 1) → PutsPlace rec place bytes p q → FillsPlace place rec p q
fills p q rec place bytes far is puts = record {
  at = puts.at ∙ is;
  others = puts.others;
  pages = subst (λ (vs : List ℕ). ChangesPages vs p q) (sym (cond-false (place == rec.size - 1) [] (address_of_place rec place ∷ []) (ne_eqb place (rec.size - 1) far))) puts.pages;
  recent = puts.recent;
}

pub fills-none : (p : Pages) (rec : InodeRec) (place : ℕ) → place ≡ rec.size - 1 → FillsPlace place rec p p
fills-none p rec place e = record {
  at = ap (bytes_of_place (page_of p) rec) e;
  others = λ k far h. refl;
  pages = subst (λ (vs : List ℕ). ChangesPages vs p p) (sym (cond-true (place == rec.size - 1) [] (address_of_place rec place ∷ []) (eq-eqb place (rec.size - 1) e))) (no-page p);
  recent = refl;
}

pub places-filled : (p q : Pages) (rec : InodeRec) (place : ℕ) (bytes : List ℕ) → HasPlaces (page_of p) rec → place < rec.size → PutsPlace rec place bytes p q → HasPlaces (page_of q) rec
places-filled p q rec place bytes has below puts = record {
  is_dir = has.is_dir;
  spelled = has.spelled;
  there = λ k h. puts.there (address_of_place rec k) (has.there k h);
  one_use = has.one_use;
  rest = λ k h l. ap all_zero (puts.others k (λ e. less k h e) l) ∙ has.rest k h l;
}
  where
    less : (k : ℕ) → rec.size ≤ k → k ≡ place → ⊥
    less k h e = omega (arith, h, e, below)

-- ---- the last place is gone

module _ (p q : Pages) (rec : InodeRec) (has : HasPlaces (page_of p) rec) (some : 0 < rec.size) where
  spelled : SpelledDir (shorter rec)
  spelled = shorter-spelled rec (spelled-dir rec has.is_dir has.spelled) some

  -- what is left to show, once the places are known
  places-of : ((u : ℕ) → IsSome (page_of p u) → IsSome (page_of q u)) → DropsLast rec (shorter rec) p q → HasPlaces (page_of q) (shorter rec)
  places-of there drops = record {
    is_dir = has.is_dir;
    spelled = dir-spelled (shorter rec) has.is_dir spelled;
    there = λ k h. subst (λ (v : ℕ). IsSome (page_of q v)) (sym (shorter-address rec k h)) (there (address_of_place rec k) (has.there k (omega (arith, h))));
    one_use = λ i j h l e. has.one_use i j (omega (arith, h)) (omega (arith, l)) (sym (shorter-address rec i h) ∙ e ∙ shorter-address rec j l);
    rest = drops.rest;
  }

  pub drops-page : q ≡ p → last_alone rec ≡ true → DropsLast rec (shorter rec) p q × HasPlaces (page_of q) (shorter rec)
  drops-page same alone = (drops, places-of (λ u h. ap (λ (x : Pages). is_some (page_of x u)) same ∙ h) drops)
    where
      none : (k : ℕ) → rec.size - 1 ≤ k → k < 64 * div_ceil (rec.size - 1) 64 → ⊥
      none k h l = let n = alone-rows rec alone in omega (arith, h, l, n)

      drops : DropsLast rec (shorter rec) p q
      drops = record {
        record_after = refl;
        kept = λ k h. same-place (page_of p) (page_of q) rec (shorter rec) k (shorter-address rec k h) (ap (λ (x : Pages). page_of x (address_of_place rec k)) same);
        rest = λ k h l. absurd (none k h l);
        pages = subst (λ (vs : List ℕ). ChangesPages vs p q) (sym (cond-true (last_alone rec) [] _ alone)) (subst (λ (x : Pages). ChangesPages [] p x) (sym same) (no-page p));
        recent = ap (λ (x : Pages). x.recent) same;
      }

  pub drops-place : PutsPlace rec (rec.size - 1) (zeros 64) p q → last_alone rec ≡ false → DropsLast rec (shorter rec) p q × HasPlaces (page_of q) (shorter rec)
  unfolding bytes_of_place
  drops-place puts beside = (drops, places-of puts.there drops)
    where
      odd : (rec.size - 1) % 64 ≢ 0
      odd = beside-rows rec beside

      -- the record's addresses are the same
      alike : (k : ℕ) → bytes_of_place (page_of q) (shorter rec) k ≡ bytes_of_place (page_of q) rec k
      alike k = same-place (page_of q) (page_of q) rec (shorter rec) k (ap (λ (l : List ℕ). get_or l (k / 64) 0) (beside-addresses rec beside)) refl

      rest : (k : ℕ) → rec.size - 1 ≤ k → k < 64 * div_ceil (rec.size - 1) 64 → (k ≡ rec.size - 1) ⊎ (k ≡ rec.size - 1 → ⊥) → IsTrue (all_zero (bytes_of_place (page_of q) rec k))
      rest k h l (inl e) = ap all_zero (ap (bytes_of_place (page_of q) rec) e ∙ puts.at) ∙ zeros-zero 64
      rest k h l (inr far) = ap all_zero (puts.others k far (omega (arith, l, odd, some))) ∙ has.rest k (omega (arith, h, far)) (omega (arith, l, odd, some))

      drops : DropsLast rec (shorter rec) p q
      drops = record {
        record_after = refl;
        kept = λ k h. alike k ∙ puts.others k (λ e. less k h e) (omega (arith, h));
        rest = λ k h l. ap all_zero (alike k) ∙ rest k h l (cases_eq k (rec.size - 1));
        pages = subst (λ (vs : List ℕ). ChangesPages vs p q) (sym (cond-false (last_alone rec) [] _ beside)) puts.pages;
        recent = puts.recent;
      }
        where
          less : (k : ℕ) → k < rec.size - 1 → k ≡ rec.size - 1 → ⊥
          less k h e = omega (arith, h, e)

-- ---- both

with-both : (us vs : List ℕ) (dirty : List ℕ) → with_addresses (us ++ vs) dirty ≡ with_addresses vs (with_addresses us dirty)
unfolding with_addresses
with-both [] vs dirty = refl
with-both (u ∷ us) vs dirty = with-both us vs (with_address u dirty)

has-left : (us vs : List ℕ) (u : ℕ) → Has us u → Has (us ++ vs) u
has-left [] vs u none = elim none [ ]
has-left (x ∷ us) vs u (inl e) = inl e
has-left (x ∷ us) vs u (inr h) = inr (has-left us vs u h)

has-right : (us vs : List ℕ) (u : ℕ) → Has vs u → Has (us ++ vs) u
has-right [] vs u h = h
has-right (x ∷ us) vs u h = inr (has-right us vs u h)

has-either : (us vs : List ℕ) (u : ℕ) → Has (us ++ vs) u → Has us u ⊎ Has vs u
has-either [] vs u h = inr h
has-either (x ∷ us) vs u (inl e) = inl (inl e)
has-either (x ∷ us) vs u (inr h) = by (has-either us vs u h)
  where
    by : Has us u ⊎ Has vs u → Has (x ∷ us) u ⊎ Has vs u
    by (inl h) = inl (inr h)
    by (inr h) = inr h

has-or-not : (vs : List ℕ) (u : ℕ) → Has vs u ⊎ (Has vs u → ⊥)
has-or-not [] u = inr (λ h. h)
has-or-not (v ∷ vs) u = by (cases_eq v u) (has-or-not vs u)
  where
    by : (v ≡ u) ⊎ (v ≡ u → ⊥) → Has vs u ⊎ (Has vs u → ⊥) → Has (v ∷ vs) u ⊎ (Has (v ∷ vs) u → ⊥)
    by (inl e) _ = inl (inl e)
    by (inr far) (inl h) = inl (inr h)
    by (inr far) (inr none) = inr (λ h. neither h)
      where
        neither : (v ≡ u) ⊎ Has vs u → ⊥
        neither (inl e) = far e
        neither (inr h) = none h

both-pages : (us vs : List ℕ) (p m q : Pages) → ChangesPages us p m → ChangesPages vs m q → ChangesPages (us ++ vs) p q
both-pages us vs p m q one two = record {
  count = two.count ∙ one.count;
  others = λ u none. two.others u (λ h. none (has-right us vs u h)) ∙ one.others u (λ h. none (has-left us vs u h));
  there = λ u h. by u (has-or-not vs u) (has-either us vs u h);
  dirty = two.dirty ∙ ap (with_addresses vs) one.dirty ∙ sym (with-both us vs p.dirty);
  frozen = two.frozen ∙ one.frozen;
}
  where
    by : (u : ℕ) → Has vs u ⊎ (Has vs u → ⊥) → Has us u ⊎ Has vs u → IsSome (page_of q u)
    by u (inl h) _ = two.there u h
    by u (inr none) (inl h) = ap is_some (two.others u none) ∙ one.there u h
    by u (inr none) (inr h) = absurd (none h)

module _ (p m q : Pages) (rec : InodeRec) (name : List ℕ) (place : ℕ) (dir : IsDirectory (page_of p) rec) (at : IsNamedAt (page_of p) rec name place)
    (filled : FillsPlace place rec p m) (dropped : DropsLast rec (shorter rec) m q) (has : HasPlaces (page_of q) (shorter rec)) where
  abbrev after : InodeRec
  after = shorter rec

  abbrev f : ℕ → Option EntryRec
  f = entry_at (page_of p) rec

  abbrev g : ℕ → Option EntryRec
  g = entry_at (page_of q) after

  below : place < rec.size
  below = at.below

  kept : (k : ℕ) → k < rec.size - 1 → k ≢ place → g k ≡ f k
  kept k h far = ap entry_of (dropped.kept k h ∙ filled.others k far (omega (arith, h)))

  moved : place < rec.size - 1 → g place ≡ f (rec.size - 1)
  moved h = ap entry_of (dropped.kept place h ∙ filled.at)

  -- where the entry of a place stood before
  from : (k : ℕ) → k < rec.size - 1 → (i : ℕ) × (i < rec.size) × (i ≢ place) × (g k ≡ f i) × ((k ≡ i) ⊎ ((k ≡ place) × (i ≡ rec.size - 1)))
  from k h = by (cases_eq k place)
    where
      by : (k ≡ place) ⊎ (k ≡ place → ⊥) → (i : ℕ) × (i < rec.size) × (i ≢ place) × (g k ≡ f i) × ((k ≡ i) ⊎ ((k ≡ place) × (i ≡ rec.size - 1)))
      by (inl e) = (rec.size - 1, omega (arith, below), (λ s. not-last s e), ap g e ∙ moved (subst (λ (i : ℕ). i < rec.size - 1) e h), inr (e, refl))
        where
          not-last : rec.size - 1 ≡ place → k ≡ place → ⊥
          not-last s e = omega (arith, s, e, h)
      by (inr far) = (k, omega (arith, h), far, kept k h far, inl refl)

  full : (k : ℕ) → k < rec.size - 1 → IsSome (g k)
  full k h = let r = from k h in ap is_some r.3 ∙ dir.entries r.0 r.1

  names-differ : (i j : ℕ) (e d : EntryRec) → i < rec.size - 1 → j < rec.size - 1 → g i ≡ Some e → g j ≡ Some d → e.name ≡ d.name → i ≡ j
  names-differ i j e d h l is js names =
      let r = from i h in
      let s = from j l in
      by r.4 s.4 (dir.names_differ r.0 s.0 e d r.1 s.1 (sym r.3 ∙ is) (sym s.3 ∙ js) names)
    where
      by : {a b : ℕ} → (i ≡ a) ⊎ ((i ≡ place) × (a ≡ rec.size - 1)) → (j ≡ b) ⊎ ((j ≡ place) × (b ≡ rec.size - 1)) → a ≡ b → i ≡ j
      by (inl x) (inl y) e = x ∙ e ∙ sym y
      by (inl x) (inr y) e = absurd (none (x ∙ e ∙ y.1) h)
        where
          none : {k : ℕ} → k ≡ rec.size - 1 → k < rec.size - 1 → ⊥
          none e h = omega (arith, e, h)
      by (inr x) (inl y) e = absurd (none (y ∙ sym e ∙ x.1) l)
        where
          none : {k : ℕ} → k ≡ rec.size - 1 → k < rec.size - 1 → ⊥
          none e h = omega (arith, e, h)
      by (inr x) (inr y) e = x.0 ∙ sym y.0

  directory : IsDirectory (page_of q) after
  directory = record { places = has; entries = full; names_differ = names-differ }

  no-name : (k : ℕ) (e : EntryRec) → k < rec.size - 1 → g k ≡ Some e → e.name ≢ name
  no-name k e h is same =
      let r = from k h in
      r.2 (dir.names_differ r.0 place e at.entry r.1 below (sym r.3 ∙ is) at.at (same ∙ sym at.has_name))

  others : (other : List ℕ) → other ≢ name → find (is_named other) (listed g (rec.size - 1)) ≡ find (is_named other) (listed f rec.size)
  others other far = find-same f g rec.size (rec.size - 1) other dir.names_differ names-differ there back
    where
      back : (j : ℕ) (e : EntryRec) → j < rec.size - 1 → g j ≡ Some e → e.name ≡ other → (i : ℕ) × (i < rec.size) × (f i ≡ Some e)
      back j e h is has = let r = from j h in (r.0, r.1, sym r.3 ∙ is)

      there : (i : ℕ) (e : EntryRec) → i < rec.size → f i ≡ Some e → e.name ≡ other → (j : ℕ) × (j < rec.size - 1) × (g j ≡ Some e)
      there i e h is has = by (cases_eq i (rec.size - 1))
        where
          apart : i ≡ place → ⊥
          apart s = far (sym has ∙ ap (λ (x : EntryRec). x.name) (some_in e at.entry (sym is ∙ ap f s ∙ at.at)) ∙ at.has_name)

          by : (i ≡ rec.size - 1) ⊎ (i ≡ rec.size - 1 → ⊥) → (j : ℕ) × (j < rec.size - 1) × (g j ≡ Some e)
          by (inl s) = let low : place < rec.size - 1 = before s in (place, low, moved low ∙ ap f (sym s) ∙ is)
            where
              before : i ≡ rec.size - 1 → place < rec.size - 1
              before s = omega (arith, below, s, apart)
          by (inr less) = (i, omega (arith, h, less), kept i (omega (arith, h, less)) apart ∙ is)

  pub removes : RemovesDirectoryEntry name (given_up rec) rec after p q
  unfolding entry_named entries_of_inode
  removes = record {
    record_after = refl;
    given = refl;
    directory = directory;
    place = place;
    had_name = position-at f rec.size place name at.entry dir.entries dir.names_differ below at.at at.has_name;
    entries = listed-moved f g rec.size place dir.entries below kept moved;
    named = none-named g (rec.size - 1) name no-name;
    others = others;
    pages = both-pages _ _ p m q filled.pages dropped.pages;
    recent = dropped.recent ∙ filled.recent;
  }
