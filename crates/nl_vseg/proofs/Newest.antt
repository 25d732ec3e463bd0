-- The newest page of an address is that of the map.
use Rattle.std.proofs.Common.{◌≡◌, inl, inr, ⊎_elim, ℕ, ◌+◌, ◌<◌, ◌==◌, nat_lt, Bool, true, not, ◌&&◌, Option, Some, None, List, [], ◌∷◌, length, get_or, filter, find, option_map, refl, sym, ◌∙◌, ap, subst, arith, eq-eqb, eqb-true}
use Rattle.std.specs.List.{list_any, enumerate_from}
use Rattle.std.proofs.lemmas.Bool.{cases_lt, cases_Bool, and_parts, and_from, lt-ltb, ltb-true, not-true, false≢true}
use Rattle.std.proofs.lemmas.List.{get_or_past}
use Rattle.std.proofs.lemmas.Option.{none-some, same_Some}
use Rattle.nl_field.specs.Page.{Page, erased, uncorrectable, written, Image, page_at}
use Rattle.nl_field.specs.SpareRecord.{spare_rec_of, stamp_of}
use Rattle.nl_field.specs.Medium.{Readable, readable, readable_pages, virtual_pages, shape_of_image, first_physical, is_virtual_rec, address_of, address_on, stamp_on}
use Rattle.nl_field.specs.Space.{has_greatest_stamp, virtual_spare, is_outside}
use Rattle.nl_field.specs.Virtual.{or_first_in, or_zeros, newest, virtual_bytes}
use Rattle.nl_field.specs.declared.shape.Shape.{Shape}
use Rattle.nl_field.specs.declared.spare.SpareRec.{SpareRec}
use Rattle.nl_field.specs.declared.spare.SpareRec.TheVariants.{Virtual, Physical}
use Rattle.nl_vseg.specs.Maps.{RepresentsMap, Dominated}
use Rattle.nl_vseg.specs.Pages.{Fact, fact_of, fact_with, PageShows}
use Rattle.nl_vseg.proofs.Members.{In, filter_to, filter_from, filter_map_to, filter_map_from, enumerate_to, enumerate_from_at, any_from, any_to, find_in}

-- what a readable virtual page shows
shown_rec : (shape : Shape) (p : ℕ) (main : List ℕ) (rec : SpareRec) → is_virtual_rec shape rec ≡ true → (address_of rec < shape.vaddrs) × (fact_with (Some rec) main ≡ Some (address_of rec, stamp_of rec, main))
shown_rec shape p main (Virtual v s w) is = (ltb-true v shape.vaddrs is, refl)
shown_rec shape p main (Physical tag s w) is = absurd (false≢true is)

written_shown : (shape : Shape) (p : ℕ) (main : List ℕ) (o : Option SpareRec) (r : Readable) → option_map (λ rec. record { page = p; rec = rec; main = main }) o ≡ Some r → is_virtual_rec shape r.rec ≡ true
    → (r.page ≡ p) × (address_on r < shape.vaddrs) × (fact_with o main ≡ Some (address_on r, stamp_on r, r.main))
written_shown shape p main None r is virtual = absurd (none-some r is)
written_shown shape p main (Some rec) r is virtual =
    let e : ◌≡◌ {A = Readable} (record { page = p; rec = rec; main = main }) r = same_Some (record { page = p; rec = rec; main = main }) r is in
    let shown = shown_rec shape p main rec (ap (λ (q : Readable). is_virtual_rec shape q.rec) e ∙ virtual) in
    (sym (ap (λ (q : Readable). q.page) e), subst (λ (q : Readable). address_on q < shape.vaddrs) e shown.0, shown.1 ∙ ap (λ (q : Readable). Some (address_on q, stamp_on q, q.main)) e)

readable_shown : (shape : Shape) (p : ℕ) (page : Page) (r : Readable) → readable (p, page) ≡ Some r → is_virtual_rec shape r.rec ≡ true
    → (r.page ≡ p) × (address_on r < shape.vaddrs) × (fact_of page ≡ Some (address_on r, stamp_on r, r.main))
readable_shown shape p erased r is virtual = absurd (none-some r is)
readable_shown shape p uncorrectable r is virtual = absurd (none-some r is)
readable_shown shape p (written bytes) r is virtual = written_shown shape p bytes.main (spare_rec_of bytes.spare) r is virtual

-- the readable page that a page which shows something is
rec_readable : (shape : Shape) (p : ℕ) (main : List ℕ) (o : Option SpareRec) (v t : ℕ) (n : List ℕ) → fact_with o main ≡ Some (v, t, n) → v < shape.vaddrs
    → (r : Readable) × (option_map (λ rec. record { page = p; rec = rec; main = main }) o ≡ Some r) × (r.page ≡ p) × (is_virtual_rec shape r.rec ≡ true) × (address_on r ≡ v) × (stamp_on r ≡ t) × (r.main ≡ n)
rec_readable shape p main None v t n is below = absurd (none-some (v, t, n) is)
rec_readable shape p main (Some (Physical tag s w)) v t n is below = absurd (none-some (v, t, n) is)
rec_readable shape p main (Some (Virtual u s w)) v t n is below =
    let e = same_Some (u, s, main) (v, t, n) is in
    let same : u ≡ v = ap (λ (x : Fact). x.0) e in
    (record { page = p; rec = Virtual u s w; main = main }, refl, refl, lt-ltb u shape.vaddrs (omega (arith, same, below)), same, ap (λ (x : Fact). x.1) e, ap (λ (x : Fact). x.2) e)

shown_readable : (shape : Shape) (p : ℕ) (page : Page) (v t : ℕ) (n : List ℕ) → fact_of page ≡ Some (v, t, n) → v < shape.vaddrs
    → (r : Readable) × (readable (p, page) ≡ Some r) × (r.page ≡ p) × (is_virtual_rec shape r.rec ≡ true) × (address_on r ≡ v) × (stamp_on r ≡ t) × (r.main ≡ n)
shown_readable shape p erased v t n is below = absurd (none-some (v, t, n) is)
shown_readable shape p uncorrectable v t n is below = absurd (none-some (v, t, n) is)
shown_readable shape p (written bytes) v t n is below = rec_readable shape p bytes.main (spare_rec_of bytes.spare) v t n is below

-- the readable virtual pages are those that show an address
pub from_pages : (image : Image) (r : Readable) → In r (virtual_pages image)
    → (address_on r < (shape_of_image image).vaddrs) × PageShows (first_physical (shape_of_image image)) image (address_on r) (stamp_on r) r.main
unfolding virtual_pages readable_pages
from_pages image r is =
    let shape = shape_of_image image in
    let f = filter_to (λ (q : Readable). nat_lt q.page (first_physical shape) && is_virtual_rec shape q.rec) r (readable_pages image) is in
    let parts = and_parts (nat_lt r.page (first_physical shape)) (is_virtual_rec shape r.rec) f.1 in
    let m = filter_map_to readable r (enumerate_from 0 image.contents) f.0 in
    let e = enumerate_to 0 m.0 image.contents m.1 in
    let shown = readable_shown shape m.0.0 m.0.1 r m.2 parts.1 in
    let at : page_at image r.page ≡ m.0.1 = ap (λ k. get_or image.contents k erased) (omega (arith, shown.0, e.1)) ∙ e.2 erased in
    (shown.1, (r.page, ltb-true r.page (first_physical shape) parts.0, ap fact_of at ∙ shown.2))

pub to_pages : (image : Image) (v t : ℕ) (n : List ℕ) → v < (shape_of_image image).vaddrs → (shows : PageShows (first_physical (shape_of_image image)) image v t n)
    → (r : Readable) × In r (virtual_pages image) × (address_on r ≡ v) × (stamp_on r ≡ t) × (r.main ≡ n) × (r.page ≡ shows.0)
unfolding virtual_pages readable_pages
to_pages image v t n below shows =
    let shape = shape_of_image image in
    let found = shown_readable shape shows.0 (page_at image shows.0) v t n shows.2 below in
    let there : shows.0 < length image.contents = within image shows.0 (v, t, n) shows.2 in
    let listed : In (0 + shows.0, page_at image shows.0) (enumerate_from 0 image.contents) = enumerate_from_at 0 shows.0 erased image.contents there in
    let zero : 0 + shows.0 ≡ shows.0 = omega arith in
    let listed_at : In (shows.0, page_at image shows.0) (enumerate_from 0 image.contents) = subst (λ k. In (k, page_at image shows.0) (enumerate_from 0 image.contents)) zero listed in
    let passes = and_from (nat_lt found.0.page (first_physical shape)) (is_virtual_rec shape found.0.rec) (lt-ltb found.0.page (first_physical shape) (omega (arith, found.2, shows.1))) found.3 in (
      found.0,
      filter_from (λ (q : Readable). nat_lt q.page (first_physical shape) && is_virtual_rec shape q.rec) found.0 (readable_pages image)
          (filter_map_from readable (shows.0, page_at image shows.0) found.0 (enumerate_from 0 image.contents) listed_at found.1) passes,
      found.4,
      found.5,
      found.6,
      found.2,
    )
  where
    within : (image : Image) (p : ℕ) (f : Fact) → fact_of (page_at image p) ≡ Some f → p < length image.contents
    within image p f shows = elim (cases_lt p (length image.contents)) [
      | inl lt ↦ lt
      | inr past ↦ absurd (none-some f (sym (ap fact_of (get_or_past image.contents p erased past)) ∙ shows))
    ]

picked_none : (xs : List Readable) (o : Option Readable) → or_first_in xs o ≡ None → (r : Readable) → In r xs → ⊥
picked_none [] o none r is = is
picked_none (x ∷ xs) None none r is = none-some x (sym none)
picked_none (x ∷ xs) (Some y) none r is = none-some y (sym none)

picked_some : (xs : List Readable) (o : Option Readable) (r : Readable) → (o ≡ Some r → In r xs) → or_first_in xs o ≡ Some r → In r xs
picked_some xs (Some y) r rest is = rest is
picked_some [] None r rest is = absurd (none-some r is)
picked_some (x ∷ xs) None r rest is = inl (same_Some x r is)

module _ (image : Image) (map : ℕ → Option (ℕ × List ℕ)) (stands : RepresentsMap (first_physical (shape_of_image image)) (shape_of_image image).vaddrs image map) (v : ℕ) (below : v < (shape_of_image image).vaddrs) where
  dominated : (r : Readable) → In r (virtual_pages image) → address_on r ≡ v → Dominated (map v) (stamp_on r) r.main
  dominated r is at =
      let f = from_pages image r is in
      stands.each v (stamp_on r) r.main below (subst (λ u. PageShows (first_physical (shape_of_image image)) image u (stamp_on r) r.main) at f.1)

  is_greatest : (s : ℕ) (main : List ℕ) (r : Readable) → map v ≡ Some (s, main) → address_on r ≡ v → stamp_on r ≡ s → has_greatest_stamp (virtual_pages image) r ≡ true
  is_greatest s main r value at stamp = elim (cases_Bool (list_any (λ q. address_on q == address_on r && nat_lt (stamp_on r) (stamp_on q)) (virtual_pages image))) [
    | inr fails ↦ ap not fails
    | inl holds ↦
        let q = any_to (λ q. address_on q == address_on r && nat_lt (stamp_on r) (stamp_on q)) (virtual_pages image) holds in
        let parts = and_parts (address_on q.0 == address_on r) (nat_lt (stamp_on r) (stamp_on q.0)) q.2 in
        let less = ltb-true (stamp_on r) (stamp_on q.0) parts.1 in
        let d = subst (λ x. Dominated x (stamp_on q.0) q.0.main) value (dominated q.0 q.1 (eqb-true (address_on q.0) (address_on r) parts.0 ∙ at)) in
        absurd (⊎_elim (λ older. omega (arith, older, less, stamp)) (λ same. omega (arith, same.0, less, stamp)) d)
  ]

  picked : (o : Option Readable) → (o ≡ None → (r : Readable) → In r (virtual_pages image) → address_on r ≡ v → has_greatest_stamp (virtual_pages image) r ≡ true → ⊥)
      → ((r : Readable) → o ≡ Some r → In r (virtual_pages image) × (address_on r ≡ v) × (has_greatest_stamp (virtual_pages image) r ≡ true))
      → (x : Option (ℕ × List ℕ)) → map v ≡ x → option_map (λ (r : Readable). r.main) o ≡ option_map (λ (y : ℕ × List ℕ). y.1) x
  picked None none some None value = refl
  picked None none some (Some x) value =
      let r = to_pages image v x.0 x.1 below (stands.there v x.0 x.1 value) in
      absurd (none refl r.0 r.1 r.2 (is_greatest x.0 x.1 r.0 value r.2 r.3))
  picked (Some r) none some None value =
      let f = some r refl in
      absurd (subst (λ x. Dominated x (stamp_on r) r.main) value (dominated r f.0 f.1))
  picked (Some r) none some (Some x) value =
      let f = some r refl in
      let newer = to_pages image v x.0 x.1 below (stands.there v x.0 x.1 value) in
      ⊎_elim
      (λ older. absurd (false≢true (sym (not-true (list_any (λ q. address_on q == address_on r && nat_lt (stamp_on r) (stamp_on q)) (virtual_pages image)) f.2)
      ∙ any_from (λ q. address_on q == address_on r && nat_lt (stamp_on r) (stamp_on q)) newer.0 (virtual_pages image) newer.1
      (and_from (address_on newer.0 == address_on r) (nat_lt (stamp_on r) (stamp_on newer.0)) (eq-eqb (address_on newer.0) (address_on r) (newer.2 ∙ sym f.1))
      (lt-ltb (stamp_on r) (stamp_on newer.0) (omega (arith, older, newer.3)))))))
      (λ same. ap (λ (n : List ℕ). Some n) same.1)
      (subst (λ y. Dominated y (stamp_on r) r.main) value (dominated r f.0 f.1))

  pub newest_value : option_map (λ (r : Readable). r.main) (newest image v) ≡ option_map (λ (y : ℕ × List ℕ). y.1) (map v)
  unfolding newest
  newest_value =
      let test : Readable → Bool = λ r. address_on r == v && has_greatest_stamp (virtual_pages image) r in
      let outside : Readable → Bool = λ r. is_outside image.pages (virtual_spare image) r.page in
      let greatest = filter test (virtual_pages image) in
      picked (or_first_in greatest (find outside greatest))
      (λ none r there at is. picked_none greatest (find outside greatest) none r (filter_from test r (virtual_pages image) there (and_from (address_on r == v) (has_greatest_stamp (virtual_pages image) r) (eq-eqb (address_on r) v at) is)))
      (λ r is.
      let f = filter_to test r (virtual_pages image) (picked_some greatest (find outside greatest) r (λ found. find_in outside r greatest found) is) in
      let parts = and_parts (address_on r == v) (has_greatest_stamp (virtual_pages image) r) f.1 in
      (f.0, eqb-true (address_on r) v parts.0, parts.1))
      (map v) refl

-- the bytes of a virtual address are the value of the map, and zeros in an inode page that was never written
pub virtual_value : (image : Image) (map : ℕ → Option (ℕ × List ℕ)) (v : ℕ) → RepresentsMap (first_physical (shape_of_image image)) (shape_of_image image).vaddrs image map → v < (shape_of_image image).vaddrs
    → virtual_bytes image v ≡ or_zeros (shape_of_image image) v (option_map (λ (y : ℕ × List ℕ). y.1) (map v))
unfolding virtual_bytes
virtual_value image map v stands below = ap (or_zeros (shape_of_image image) v) (newest_value image map stands v below)
