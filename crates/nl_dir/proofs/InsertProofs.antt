-- An entry behind those of a directory.
use Rattle.std.proofs.Common.{◌≡◌, ◌≢◌, ℕ, ◌+◌, ◌*◌, ◌/◌, ◌%◌, ◌<◌, true, false, List, [], ◌∷◌, ◌++◌, length, find, refl, sym, ap, subst, ◌∙◌, Option, Some, None, unwrap_or, is_some, IsSome, ◌⊎◌, inl, inr, arith}
use Rattle.std.proofs.lemmas.Bool.{cases_eq}
use Rattle.std.proofs.lemmas.List.{get_or-set_other, length-set}
use Rattle.std.specs.Int.{div_ceil}
use Rattle.std.specs.Prelude.{IsTrue}
use Rattle.nl_field.specs.Bytes.{all_zero, zeros}
use Rattle.nl_field.specs.EntryRecord.{entry_bytes, entry_of}
use Rattle.nl_field.specs.declared.entry.EntryRec.{EntryRec}
use Rattle.nl_field.specs.declared.inode.InodeRec.{InodeRec}
use Rattle.nl_meta.specs.Committed.{VirtualMap}
use Rattle.nl_meta.specs.Nodes.{address_of_place, bytes_at, bytes_of_place, entries_of_inode, entry_named, slot_in}
use Rattle.nl_meta.specs.Pages.{Pages, page_of, with_address}
use Rattle.nl_meta.specs.SlotLaws.{with_slot}
use Rattle.nl_meta.specs.Steps.{with_admitted, with_dirty}
use Rattle.nl_meta.proofs.Lists.{some_in, none_some}
use Rattle.nl_meta.proofs.SlotProofs.{one_slot}
use Rattle.nl_dir.specs.Changes.{ChangesPages, InsertsEntry, touched_by, with_addresses}
use Rattle.nl_dir.specs.Directory.{FitsFresh, IsDirectory, entry_at, longer}
use Rattle.nl_dir.specs.Slots.{AdmitsAddress, PutsEntry}
use Rattle.nl_dir.proofs.EntryLists.{find-same, is_named, listed, listed-more, listed-same, one-named, some-of}
use Rattle.nl_dir.proofs.PlaceFacts.{apart, below-length, one-page, one-row, one-slot, page-at, page-beside, row-there, same-place, shown, slot-kept, slot-put, slot-zero, spelled-there, zeros-length, zeros-zero}
use Rattle.nl_dir.proofs.Records.{SpelledDir, dir-spelled, longer-address, longer-spelled, new-address, none-fits, some-fits, spelled-dir}

-- What the places have with one entry more.
pub record Grows (entry : EntryRec) (fresh : Option ℕ) (rec : InodeRec) (old new : VirtualMap) : Type 0 where
  pub kept : (k : ℕ) → k < rec.size → bytes_of_place new (longer rec fresh) k ≡ bytes_of_place old rec k
  pub at : entry_at new (longer rec fresh) rec.size ≡ Some entry
  pub rest : (k : ℕ) → rec.size < k → k < 64 * div_ceil (rec.size + 1) 64 → IsTrue (all_zero (bytes_of_place new (longer rec fresh) k))
  -- the place's page is that of no other row
  pub own_row : (k : ℕ) → k < rec.size → address_of_place (longer rec fresh) k ≡ address_of_place (longer rec fresh) rec.size → k / 64 ≡ rec.size / 64

module _ (p q : Pages) (rec : InodeRec) (entry : EntryRec) (fresh : Option ℕ) (dir : IsDirectory (page_of p) rec) (few : rec.size < 1024)
    (absent : entry_named (page_of p) rec entry.name ≡ None) (fits : FitsFresh p rec fresh) (grows : Grows entry fresh rec (page_of p) (page_of q)) where
  abbrev after : InodeRec
  after = longer rec fresh

  abbrev f : ℕ → Option EntryRec
  f = entry_at (page_of p) rec

  abbrev g : ℕ → Option EntryRec
  g = entry_at (page_of q) after

  same : (k : ℕ) → k < rec.size → g k ≡ f k
  same k h = ap entry_of (grows.kept k h)

  last-or : (k : ℕ) → k < rec.size + 1 → (k ≡ rec.size) ⊎ (k < rec.size)
  last-or k h = by (cases_eq k rec.size)
    where
      by : (k ≡ rec.size) ⊎ (k ≡ rec.size → ⊥) → (k ≡ rec.size) ⊎ (k < rec.size)
      by (inl e) = inl e
      by (inr far) = inr (omega (arith, h, far))

  at-last : (k : ℕ) → k ≡ rec.size → g k ≡ Some entry
  at-last k e = ap g e ∙ grows.at

  full : (k : ℕ) → k < rec.size + 1 → IsSome (g k)
  full k h = by (last-or k h)
    where
      by : (k ≡ rec.size) ⊎ (k < rec.size) → IsSome (g k)
      by (inl e) = ap is_some (at-last k e)
      by (inr l) = ap is_some (same k l) ∙ dir.entries k l

  spelled : SpelledDir after
  spelled = longer-spelled p rec fresh dir.places.is_dir (spelled-dir rec dir.places.is_dir dir.places.spelled) few fits

  one-use : (i j : ℕ) → i < rec.size + 1 → j < rec.size + 1 → address_of_place after i ≡ address_of_place after j → i / 64 ≡ j / 64
  one-use i j h l e = by (last-or i h) (last-or j l)
    where
      by : (i ≡ rec.size) ⊎ (i < rec.size) → (j ≡ rec.size) ⊎ (j < rec.size) → i / 64 ≡ j / 64
      by (inl a) (inl b) = ap (λ (k : ℕ). k / 64) (a ∙ sym b)
      by (inl a) (inr b) = sym (grows.own_row j b (sym e ∙ ap (address_of_place after) a) ∙ ap (λ (k : ℕ). k / 64) (sym a))
      by (inr a) (inl b) = grows.own_row i a (e ∙ ap (address_of_place after) b) ∙ ap (λ (k : ℕ). k / 64) (sym b)
      by (inr a) (inr b) = dir.places.one_use i j a b (sym (longer-address p rec fresh fits i a) ∙ e ∙ longer-address p rec fresh fits j b)

  -- no other entry has the name
  new-name : (k : ℕ) (e : EntryRec) → k < rec.size → g k ≡ Some e → e.name ≡ entry.name → ⊥
  unfolding entry_named entries_of_inode
  new-name k e h is has = none_some e (sym absent ∙ one-named f rec.size k entry.name e dir.names_differ h (sym (same k h) ∙ is) has)

  names-differ : (i j : ℕ) (e d : EntryRec) → i < rec.size + 1 → j < rec.size + 1 → g i ≡ Some e → g j ≡ Some d → e.name ≡ d.name → i ≡ j
  names-differ i j e d h l is at names = by (last-or i h) (last-or j l)
    where
      by : (i ≡ rec.size) ⊎ (i < rec.size) → (j ≡ rec.size) ⊎ (j < rec.size) → i ≡ j
      by (inl a) (inl b) = a ∙ sym b
      by (inl a) (inr b) = absurd (new-name j d b at (sym names ∙ ap (λ (x : EntryRec). x.name) (some_in e entry (sym is ∙ at-last i a))))
      by (inr a) (inl b) = absurd (new-name i e a is (names ∙ ap (λ (x : EntryRec). x.name) (some_in d entry (sym at ∙ at-last j b))))
      by (inr a) (inr b) = dir.names_differ i j e d a b (sym (same i a) ∙ is) (sym (same j b) ∙ at) names

  directory : IsDirectory (page_of q) after
  directory = record {
    places = record {
      is_dir = dir.places.is_dir;
      spelled = dir-spelled after dir.places.is_dir spelled;
      there = λ k h. spelled-there (page_of q) after k (full k h);
      one_use = one-use;
      rest = λ k h l. grows.rest k (omega (arith, h)) l;
    };
    entries = full;
    names_differ = names-differ;
  }

  one-more : listed g (rec.size + 1) ≡ listed f rec.size ++ entry ∷ []
  one-more = listed-more g rec.size entry grows.at ∙ ap (λ (l : List EntryRec). l ++ entry ∷ []) (listed-same f g rec.size same)

  others : (other : List ℕ) → other ≢ entry.name → find (is_named other) (listed g (rec.size + 1)) ≡ find (is_named other) (listed f rec.size)
  others other far = find-same f g rec.size (rec.size + 1) other dir.names_differ names-differ (λ i e h is has. (i, omega (arith, h), same i h ∙ is)) back
    where
      back : (j : ℕ) (e : EntryRec) → j < rec.size + 1 → g j ≡ Some e → e.name ≡ other → (i : ℕ) × (i < rec.size) × (f i ≡ Some e)
      back j e h is has = by (last-or j h)
        where
          by : (j ≡ rec.size) ⊎ (j < rec.size) → (i : ℕ) × (i < rec.size) × (f i ≡ Some e)
          by (inl a) = absurd (far (sym has ∙ ap (λ (x : EntryRec). x.name) (some_in e entry (sym is ∙ at-last j a))))
          by (inr a) = (j, a, sym (same j a) ∙ is)

  pub inserts : ChangesPages (address_of_place after rec.size ∷ []) p q → q.recent ≡ touched_by fresh p.recent → InsertsEntry entry fresh rec after p q
  unfolding entry_named entries_of_inode
  inserts pages recent = record {
    record_after = refl;
    directory = directory;
    entries = one-more;
    named = one-named g (rec.size + 1) rec.size entry.name entry names-differ (omega arith) grows.at refl;
    others = others;
    pages = pages;
    recent = recent;
  }

-- ---- the last page has room

pub inserts-behind : (p q : Pages) (rec : InodeRec) (entry : EntryRec) → IsDirectory (page_of p) rec → rec.size < 1024 → entry_named (page_of p) rec entry.name ≡ None → FitsFresh p rec None
    → PutsEntry (address_of_place rec rec.size) (rec.size % 64) entry false p q → InsertsEntry entry None rec (longer rec None) p q
unfolding bytes_of_place
inserts-behind p q rec entry dir few absent fits puts =
    inserts p q rec entry None dir few absent fits grows (subst (λ (x : Pages). ChangesPages (v ∷ []) p x) (sym puts.page) (one-page p v page inside)) (ap (λ (x : Pages). x.recent) puts.page)
  where
    v : ℕ
    v = address_of_place rec rec.size

    main : List ℕ
    main = bytes_at (page_of p) v

    page : List ℕ
    page = with_slot 64 (rec.size % 64) (entry_bytes entry) main

    odd : rec.size % 64 ≢ 0
    odd = none-fits p rec fits

    within : rec.size < 64 * div_ceil rec.size 64
    within = omega (arith, odd)

    there : IsSome (page_of p v)
    there = row-there (page_of p) rec dir.places rec.size within

    inside : v < length p.running
    inside = below-length p v there

    main-is : page_of p v ≡ Some main
    main-is = let s = some-of (page_of p v) there in s.1 ∙ ap (λ (o : Option (List ℕ)). Some (unwrap_or o [])) (sym s.1)

    low : rec.size % 64 < 64
    low = omega arith

    new-page : page_of q v ≡ Some page
    new-page = ap (λ (x : Pages). page_of x v) puts.page ∙ page-at p v page inside

    kept : (k : ℕ) → k ≢ rec.size → k < 64 * div_ceil rec.size 64 → bytes_of_place (page_of q) rec k ≡ bytes_of_place (page_of p) rec k
    kept k far h =
        ap (λ (x : Pages). bytes_of_place (page_of x) rec k) puts.page
        ∙ one_slot.place v (rec.size % 64) (page_of p) (page_of (with_dirty p v page)) (one-slot p v (rec.size % 64) (entry_bytes entry) main main-is puts.whole low puts.width) rec k
        (apart (page_of p) rec dir.places rec.size k within h far)

    grows : Grows entry None rec (page_of p) (page_of q)
    grows = record {
      kept = λ k h. kept k (λ e. less k h e) (omega (arith, h));
      at = ap entry_of (shown (page_of q) rec rec.size page new-page ∙ slot-put (rec.size % 64) (entry_bytes entry) main puts.whole low puts.width) ∙ puts.back;
      rest = λ k h l. ap all_zero (kept k (λ e. more k h e) (omega (arith, l, odd))) ∙ dir.places.rest k (omega (arith, h)) (omega (arith, l, odd));
      own_row = λ k h e. one-row (page_of p) rec dir.places k rec.size (omega (arith, h)) within e;
    }
      where
        less : (k : ℕ) → k < rec.size → k ≡ rec.size → ⊥
        less k h e = omega (arith, h, e)

        more : (k : ℕ) → rec.size < k → k ≡ rec.size → ⊥
        more k h e = omega (arith, h, e)

-- ---- a new page

pub inserts-first : (p m q : Pages) (rec : InodeRec) (entry : EntryRec) (a : ℕ) → IsDirectory (page_of p) rec → rec.size < 1024 → entry_named (page_of p) rec entry.name ≡ None → FitsFresh p rec (Some a)
    → AdmitsAddress a p m → PutsEntry a 0 entry true m q → InsertsEntry entry (Some a) rec (longer rec (Some a)) p q
unfolding with_addresses
inserts-first p m q rec entry a dir few absent fits holds puts =
    inserts p q rec entry (Some a) dir few absent fits grows pages (ap (λ (x : Pages). x.recent) whole)
  where
    page : List ℕ
    page = with_slot 64 0 (entry_bytes entry) (zeros 4096)

    even : rec.size % 64 ≡ 0
    even = some-fits p rec a fits

    s : SpelledDir rec
    s = spelled-dir rec dir.places.is_dir dir.places.spelled

    inside : a < length p.running
    inside = fits.inside a refl

    whole : q ≡ with_dirty (with_admitted p a holds.bytes) a page
    whole = puts.page ∙ ap (λ (x : Pages). with_dirty x a page) holds.page

    inside-set : a < length (with_admitted p a holds.bytes).running
    inside-set = let l = length-set p.running a (Some holds.bytes) in omega (arith, l, inside)

    new-page : page_of q a ≡ Some page
    new-page = ap (λ (x : Pages). page_of x a) whole ∙ page-at (with_admitted p a holds.bytes) a page inside-set

    beside : (u : ℕ) → u ≢ a → page_of q u ≡ page_of p u
    beside u far =
        ap (λ (x : Pages). page_of x u) whole ∙ page-beside (with_admitted p a holds.bytes) a page u far ∙ get_or-set_other p.running a u (Some holds.bytes) None far

    address : (k : ℕ) → k / 64 ≡ rec.size / 64 → address_of_place (longer rec (Some a)) k ≡ a
    address k e = new-address rec a k s few e

    zeros-whole : length (zeros 4096) ≡ 4096
    zeros-whole = zeros-length 4096

    pages : ChangesPages (address_of_place (longer rec (Some a)) rec.size ∷ []) p q
    pages = record {
      count = ap (λ (x : Pages). length x.running) whole ∙ length-set (with_admitted p a holds.bytes).running a (Some page) ∙ length-set p.running a (Some holds.bytes);
      others = λ u none. beside u (λ e. none (inl (address rec.size refl ∙ sym e)));
      there = λ u h. by u h;
      dirty = ap (λ (x : Pages). x.dirty) whole ∙ ap (λ (v : ℕ). with_address v p.dirty) (sym (address rec.size refl));
      frozen = ap (λ (x : Pages). x.frozen) whole;
    }
      where
        by : (u : ℕ) → (address_of_place (longer rec (Some a)) rec.size ≡ u) ⊎ ⊥ → IsSome (page_of q u)
        by u (inl e) = ap is_some (ap (page_of q) (sym e ∙ address rec.size refl) ∙ new-page)
        by u (inr none) = elim none [ ]

    place : (k : ℕ) → k / 64 ≡ rec.size / 64 → bytes_of_place (page_of q) (longer rec (Some a)) k ≡ slot_in 64 (k % 64) page
    place k e = shown (page_of q) (longer rec (Some a)) k page (ap (page_of q) (address k e) ∙ new-page)

    grows : Grows entry (Some a) rec (page_of p) (page_of q)
    grows = record {
      kept = λ k h. same-place (page_of p) (page_of q) rec (longer rec (Some a)) k (longer-address p rec (Some a) fits k h) (beside (address_of_place rec k) (fits.unused a k refl h));
      at =
          ap entry_of (place rec.size refl ∙ ap (λ (i : ℕ). slot_in 64 i page) even ∙ slot-put 0 (entry_bytes entry) (zeros 4096) zeros-whole (omega arith) puts.width) ∙ puts.back;
      rest = λ k h l.
          let row : k / 64 ≡ rec.size / 64 = omega (arith, h, l, even) in
          ap all_zero (place k row ∙ slot-kept 0 (k % 64) (entry_bytes entry) (zeros 4096) zeros-whole (omega arith) puts.width (not-first k h row))
          ∙ slot-zero 64 (k % 64) (zeros 4096) (zeros-zero 4096);
      own_row = λ k h e. absurd (fits.unused a k refl h (sym (longer-address p rec (Some a) fits k h) ∙ e ∙ address rec.size refl));
    }
      where
        not-first : (k : ℕ) → rec.size < k → k / 64 ≡ rec.size / 64 → k % 64 ≡ 0 → ⊥
        not-first k h row e = omega (arith, h, row, e, even)
