-- Pages of one sequence number.
use Rattle.std.proofs.Common.{◌≡◌, ℕ, ◌<◌, ◌≤◌, Bool, true, false, not, ◌&&◌, List, map, find, refl, sym, ap, subst, ◌∙◌, Option, Some, None, option_map, ◌⊎◌, inl, inr, arith, ◌≢◌, nat_lt, ◌==◌}
use Rattle.std.proofs.lemmas.Bool.{not-false, not-true, not_from_true, not_from_false, cases_eq, and_parts, and_from, and_cases, eqb-false, eq-eqb, ne_eqb, lt-ltb, ltb-true, leb-true, cases_order}
use Rattle.std.proofs.lemmas.Slice.Eq.{bytes_eq-Decides}
use Rattle.std.specs.List.{list_any, enumerate_from}
use Rattle.std.specs.Prelude.{◌↔◌}
use Rattle.nl_field.specs.Medium.{Readable, stamp_on, first_physical, shape_of_image, virtual_pages, physical_pages, readable, readable_pages}
use Rattle.nl_field.specs.Members.{Has}
use Rattle.nl_field.specs.Page.{Image, Page, erased, uncorrectable, written}
use Rattle.nl_field.specs.Scan.{without_wear, agree, agrees_below, differs_from_lower}
use Rattle.nl_field.specs.ScanList.{seen_of, seen_in, virtual_seen, physical_seen}
use Rattle.nl_field.specs.SpareRecord.{spare_bytes, spare_rec_of}
use Rattle.nl_field.specs.declared.seen.Seen.{Seen}
use Rattle.nl_field.specs.declared.shape.Shape.{Shape}
use Rattle.nl_field.specs.declared.spare.SpareRec.{SpareRec}
use Rattle.nl_field.proofs.ScanLists.{virtual_is, physical_is}
use Rattle.nl_meta.specs.Consistent.{AllAgree, SamePage, StampsRight}
use Rattle.nl_meta.specs.Walk.{or_then, stamp_fault}
use Rattle.nl_meta.specs.WalkLaw.{ListsAgree}
use Rattle.nl_meta.proofs.Lists.{some_in, true_false, none_some, find-none, none-find, any-none, none-any, member_any, map_none, none_map, then_none, none_then, member-filter, member-some, member-map, map-member}
use Rattle.nl_meta.proofs.Pairs.{two_map, enumerate_rises, two_same, itself}

-- ---- a page number has one page

pub at_number : (image : Image) (r : Readable) → Has (readable_pages image) r → (x : ℕ × Page) × Has (enumerate_from 0 image.contents) x × (readable x ≡ Some r) × (x.0 ≡ r.page)
unfolding readable_pages
at_number image r m =
    let q = member-some readable (enumerate_from 0 image.contents) r m in
    (q.0, q.1, q.2, number q.0.0 q.0.1 q.2)
  where
    of : (p : ℕ) (main : List ℕ) (o : Option SpareRec) → option_map (λ rec. record { page = p; rec = rec; main = main }) o ≡ Some r → p ≡ r.page
    of p main None e = absurd (none_some r e)
    of p main (Some rec) e = ap (λ (z : Readable). z.page) (some_in (record { page = p; rec = rec; main = main }) r e)

    number : (p : ℕ) (page : Page) → readable (p, page) ≡ Some r → p ≡ r.page
    number p erased e = absurd (none_some r e)
    number p uncorrectable e = absurd (none_some r e)
    number p (written bytes) e = of p bytes.main (spare_rec_of bytes.spare) e

pub one_page : (image : Image) (r q : Readable) → Has (readable_pages image) r → Has (readable_pages image) q → r.page ≡ q.page → r ≡ q
one_page image r q m n e =
    let x = at_number image r m in
    let y = at_number image q n in
    let same = two_same (λ (z : ℕ × Page). z.0) (enumerate_from 0 image.contents)
    (two_map (λ a b. a.0 < b.0) (λ a b. a.0 ≢ b.0) (λ a b h s. itself a.0 b.0 s h) (enumerate_from 0 image.contents) (enumerate_rises 0 image.contents)) x.0 y.0 x.1 y.1 (x.3 ∙ e ∙ sym y.3) in
    some_in r q (sym x.2 ∙ ap readable same ∙ y.2)

pub virtual_readable : (image : Image) (r : Readable) → Has (virtual_pages image) r → Has (readable_pages image) r
unfolding virtual_pages
virtual_readable image r m = (member-filter _ (readable_pages image) r m).0

pub physical_readable : (image : Image) (r : Readable) → Has (physical_pages image) r → Has (readable_pages image) r
unfolding physical_pages
physical_readable image r m = (member-filter _ (readable_pages image) r m).0

-- ---- pages of one stamp

abbrev differs : Readable → Readable → Bool
differs q r = stamp_on q == stamp_on r && not (agree q r)

tells : (q r : Readable) → differs q r ≡ false → stamp_on q ≡ stamp_on r → SamePage q r
tells q r e s = by (and_cases _ _ e)
  where
    by : (stamp_on q == stamp_on r ≡ false) ⊎ (not (agree q r) ≡ false) → SamePage q r
    by (inl h) = absurd (eqb-false _ _ h s)
    by (inr h) =
        let p = and_parts _ _ (not-false _ h) in
        record { main = (bytes_eq-Decides q.main r.main).0 p.0; rec = (bytes_eq-Decides (spare_bytes (without_wear q.rec)) (spare_bytes (without_wear r.rec))).0 p.1 }

told : (q r : Readable) → (stamp_on q ≡ stamp_on r → SamePage q r) → differs q r ≡ false
told q r f = by (cases_eq (stamp_on q) (stamp_on r))
  where
    by : (stamp_on q ≡ stamp_on r) ⊎ (stamp_on q ≡ stamp_on r → ⊥) → differs q r ≡ false
    by (inl e) =
        let same = f e in
        ap (λ t. stamp_on q == stamp_on r && not t) (and_from _ _ ((bytes_eq-Decides q.main r.main).1 same.main) ((bytes_eq-Decides (spare_bytes (without_wear q.rec)) (spare_bytes (without_wear r.rec))).1 same.rec))
        ∙ elim (stamp_on q == stamp_on r) as (λ t. (t && false) ≡ false) [ true ↦ refl | false ↦ refl ]
    by (inr far) = ap (λ t. t && not (agree q r)) (ne_eqb _ _ far)

-- pages of different numbers
module _ (pages : List Readable) (one : (r q : Readable) → Has pages r → Has pages q → r.page ≡ q.page → r ≡ q) where
  lower : (q r : Readable) → nat_lt q.page r.page && stamp_on q == stamp_on r && not (agree q r) ≡ false → q.page < r.page → stamp_on q ≡ stamp_on r → SamePage q r
  lower q r e below s = by (and_cases _ _ e)
    where
      first : (a b c : Bool) → (a && b) && c ≡ false → a ≡ true → b && c ≡ false
      first true b c e f = e
      first false b c e f = absurd (true_false (sym f))

      by : (nat_lt q.page r.page && stamp_on q == stamp_on r ≡ false) ⊎ (not (agree q r) ≡ false) → SamePage q r
      by h = tells q r (first (nat_lt q.page r.page) (stamp_on q == stamp_on r) (not (agree q r)) e (lt-ltb _ _ below)) s

  abbrev lower_fault : Option ℕ
  lower_fault = option_map (λ r. r.page) (find (differs_from_lower pages) pages)

  stamps_of : (lower_fault ≡ None) ↔ StampsRight pages
  unfolding differs_from_lower
  stamps_of = (there, back)
    where
      there : option_map (λ r. r.page) (find (λ r. list_any (λ q. nat_lt q.page r.page && stamp_on q == stamp_on r && not (agree q r)) pages) pages) ≡ None → StampsRight pages
      there e r q m n s = by (cases_order r.page q.page)
        where
          below : (r q : Readable) → Has pages r → Has pages q → stamp_on r ≡ stamp_on q → r.page < q.page → SamePage r q
          below r q m n s h = lower r q (any-none _ pages (find-none _ pages (map_none (λ r. r.page) _ e) q n) r m) h s

          by : (r.page ≡ q.page) ⊎ ((r.page < q.page) ⊎ (q.page < r.page)) → SamePage r q
          by (inl h) = subst (λ (z : Readable). SamePage r z) (one r q m n h) (record { main = refl; rec = refl })
          by (inr (inl h)) = below r q m n s h
          by (inr (inr h)) = let p = below q r n m (sym s) h in record { main = sym p.main; rec = sym p.rec }

      back : StampsRight pages → option_map (λ r. r.page) (find (λ r. list_any (λ q. nat_lt q.page r.page && stamp_on q == stamp_on r && not (agree q r)) pages) pages) ≡ None
      back h = none_map (λ r. r.page) _ (none-find _ pages (λ r m. none-any _ pages (λ q n. last (nat_lt q.page r.page) (stamp_on q == stamp_on r) (not (agree q r)) (told q r (λ s. h q r n m s)))))
        where
          last : (a b c : Bool) → b && c ≡ false → (a && b) && c ≡ false
          last true b c e = e
          last false b c e = refl

-- ---- the list of an image

-- a test on the page of one number: it is asked of that page alone
asked : (pages : List Readable) → ((r q : Readable) → Has pages r → Has pages q → r.page ≡ q.page → r ≡ q) → (test : Readable → Bool) (r : Readable) → Has pages r
    → list_any (λ q. q.page == r.page && test q) pages ≡ test r
asked pages one test r m = by (test r) refl
  where
    by : (b : Bool) → test r ≡ b → list_any (λ q. q.page == r.page && test q) pages ≡ test r
    by true e = member_any (λ q. q.page == r.page && test q) pages r m (and_from _ _ (eq-eqb r.page r.page refl) e) ∙ sym e
    by false e = none-any (λ q. q.page == r.page && test q) pages (λ q n. other q n (cases_eq q.page r.page)) ∙ sym e
      where
        other : (q : Readable) → Has pages q → (q.page ≡ r.page) ⊎ (q.page ≡ r.page → ⊥) → (q.page == r.page && test q) ≡ false
        other q n (inl s) = ap (λ b. (q.page == r.page) && b) (ap test (one q r n m s) ∙ e) ∙ elim (q.page == r.page) as (λ b. (b && false) ≡ false) [ true ↦ refl | false ↦ refl ]
        other q n (inr far) = ap (λ b. b && test q) (ne_eqb q.page r.page far)

-- no page of the list has this number
absent : (pages : List Readable) (test : Readable → Bool) (r : Readable) → ((q : Readable) → Has pages q → q.page ≡ r.page → ⊥) → list_any (λ q. q.page == r.page && test q) pages ≡ false
absent pages test r none = none-any (λ q. q.page == r.page && test q) pages (λ q n. ap (λ b. b && test q) (ne_eqb q.page r.page (none q n)))

module _ (image : Image) where
  one_virtual : (r q : Readable) → Has (virtual_pages image) r → Has (virtual_pages image) q → r.page ≡ q.page → r ≡ q
  one_virtual r q m n = one_page image r q (virtual_readable image r m) (virtual_readable image q n)

  one_physical : (r q : Readable) → Has (physical_pages image) r → Has (physical_pages image) q → r.page ≡ q.page → r ≡ q
  one_physical r q m n = one_page image r q (physical_readable image r m) (physical_readable image q n)

  -- a page is in one segment
  apart : (r q : Readable) → Has (virtual_pages image) r → Has (physical_pages image) q → q.page ≡ r.page → ⊥
  unfolding virtual_pages physical_pages
  apart r q m n e =
      let low = ltb-true _ _ (and_parts _ _ (member-filter _ (readable_pages image) r m).1).0 in
      let high = leb-true _ _ (and_parts _ _ (member-filter _ (readable_pages image) q n).1).0 in
      below (first_physical (shape_of_image image)) r.page q.page low high e
    where
      below : (f a b : ℕ) → a < f → f ≤ b → b ≡ a → ⊥
      below f a b low high e = omega (arith, low, high, e)

  virtual_agrees : (r : Readable) → Has (virtual_pages image) r → agrees_below image r ≡ not (differs_from_lower (virtual_pages image) r)
  unfolding agrees_below
  virtual_agrees r m =
      (λ i. not (asked (virtual_pages image) one_virtual (differs_from_lower (virtual_pages image)) r m i)
      && not (absent (physical_pages image) (differs_from_lower (physical_pages image)) r (λ q n e. apart r q m n e) i))
      ∙ last (not (differs_from_lower (virtual_pages image) r))
    where
      last : (b : Bool) → (b && true) ≡ b
      last true = refl
      last false = refl

  physical_agrees : (r : Readable) → Has (physical_pages image) r → agrees_below image r ≡ not (differs_from_lower (physical_pages image) r)
  unfolding agrees_below
  physical_agrees r m =
      λ i. not (absent (virtual_pages image) (differs_from_lower (virtual_pages image)) r (λ q n e. apart q r n m (sym e)) i)
      && not (asked (physical_pages image) one_physical (differs_from_lower (physical_pages image)) r m i)

  -- all pages of a segment agree exactly where none is at fault
  segment : (pages : List Readable) → ((r : Readable) → Has pages r → agrees_below image r ≡ not (differs_from_lower pages r))
      → ((r q : Readable) → Has pages r → Has pages q → r.page ≡ q.page → r ≡ q) → AllAgree (map (seen_of image) pages) ↔ StampsRight pages
  segment pages agrees one = ((λ all. (stamps_of pages one).0 (none_map (λ r. r.page) _ (none-find _ pages (λ r m. not_from r m (all (seen_of image r) (map-member (seen_of image) pages r m)))))), back)
    where
      not_from : (r : Readable) → Has pages r → agrees_below image r ≡ true → differs_from_lower pages r ≡ false
      not_from r m e = not-true _ (sym (agrees r m) ∙ e)

      back : StampsRight pages → AllAgree (map (seen_of image) pages)
      back h s m =
          let q = member-map (seen_of image) pages s m in
          sym (ap (λ (z : Seen). z.agrees) q.2) ∙ agrees q.0 q.1 ∙ not_from_false _ (find-none _ pages (map_none (λ r. r.page) _ ((stamps_of pages one).1 h)) q.0 q.1)

  pub same_virtual : AllAgree (virtual_seen (shape_of_image image) (seen_in image)) ↔ StampsRight (virtual_pages image)
  same_virtual = subst (λ (ss : List Seen). AllAgree ss ↔ StampsRight (virtual_pages image)) (sym (virtual_is image)) (segment (virtual_pages image) virtual_agrees one_virtual)

  pub same_physical : AllAgree (physical_seen (shape_of_image image) (seen_in image)) ↔ StampsRight (physical_pages image)
  same_physical = subst (λ (ss : List Seen). AllAgree ss ↔ StampsRight (physical_pages image)) (sym (physical_is image)) (segment (physical_pages image) physical_agrees one_physical)

module _ (pages : List Readable) (one : (r q : Readable) → Has pages r → Has pages q → r.page ≡ q.page → r ≡ q) where
  none_differs : StampsRight pages → (r : Readable) → list_any (λ q. q.page == r.page && differs_from_lower pages q) pages ≡ false
  none_differs right r = none-any _ pages (λ q m. both (q.page == r.page) (differs_from_lower pages q) (find-none _ pages (map_none (λ r. r.page) _ ((stamps_of pages one).1 right)) q m))
    where
      both : (a b : Bool) → b ≡ false → (a && b) ≡ false
      both true b e = e
      both false b e = refl

-- Where pages of one stamp are one page, each page agrees with those below it.
pub one_stamp_agrees : (image : Image) → ((r q : Readable) → Has (readable_pages image) r → Has (readable_pages image) q → stamp_on r ≡ stamp_on q → r.page ≡ q.page) → (r : Readable) → agrees_below image r ≡ true
unfolding agrees_below
one_stamp_agrees image one r = λ i. not (none_differs (virtual_pages image) (one_virtual image) virtual r i) && not (none_differs (physical_pages image) (one_physical image) physical r i)
  where
    same : (r q : Readable) → r ≡ q → SamePage r q
    same r q e = subst (λ (z : Readable). SamePage r z) e (record { main = refl; rec = refl })

    virtual : StampsRight (virtual_pages image)
    virtual r q m n s = same r q (one_virtual image r q m n (one r q (virtual_readable image r m) (virtual_readable image q n) s))

    physical : StampsRight (physical_pages image)
    physical r q m n s = same r q (one_physical image r q m n (one r q (physical_readable image r m) (physical_readable image q n) s))

pub lists_agree : ListsAgree
lists_agree image = record { virtual = same_virtual image; physical = same_physical image }

-- ---- the phase

pub all_agree : (seen : List Seen) → (stamp_fault seen ≡ None) ↔ AllAgree seen
unfolding stamp_fault
all_agree seen = (
  (λ e s m. not-false _ (find-none (λ s. not s.agrees) seen (map_none (λ s. s.page) _ e) s m)),
  (λ all. none_map (λ s. s.page) _ (none-find (λ s. not s.agrees) seen (λ s m. not_from_true _ (all s m)))),
)

pub stamps : (shape : Shape) (seen : List Seen) → (or_then (stamp_fault (virtual_seen shape seen)) (stamp_fault (physical_seen shape seen)) ≡ None) ↔ (AllAgree (virtual_seen shape seen) × AllAgree (physical_seen shape seen))
stamps shape seen = (
  (λ e. let p = then_none _ _ e in ((all_agree (virtual_seen shape seen)).0 p.0, (all_agree (physical_seen shape seen)).0 p.1)),
  (λ h. none_then _ _ ((all_agree (virtual_seen shape seen)).1 h.0) ((all_agree (physical_seen shape seen)).1 h.1)),
)
