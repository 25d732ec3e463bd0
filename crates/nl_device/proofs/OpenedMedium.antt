-- After an opening the map of the virtual segment is what the image stores.
use Rattle.std.proofs.Common.{◌≡◌, inl, inr, ℕ, ◌+◌, ◌*◌, ◌/◌, ◌<◌, ◌≤◌, ◌==◌, ◌∙◌, nat_lt, Bool, true, ◌&&◌, max, List, [], ◌∷◌, length, get_or, filter, find, option_map, Option, Some, None, refl, sym, ap, subst, arith, eqb-true}
use Rattle.std.specs.List.{enumerate_from}
use Rattle.std.proofs.lemmas.Bool.{and_parts, cases_lt, false≢true, ltb-true}
use Rattle.std.proofs.lemmas.List.{get_or_past}
use Rattle.std.proofs.lemmas.Nat.{div_below}
use Rattle.std.proofs.lemmas.Option.{none-some, same_Some}
use Rattle.nl_field.specs.Page.{Page, erased, uncorrectable, written, Image, page_at}
use Rattle.nl_field.specs.Medium.{Readable, address_on, first_physical, is_virtual_rec, readable, readable_pages, shape_of_image, stamp_on, virtual_pages}
use Rattle.nl_field.specs.Scan.{next_stamp_of}
use Rattle.nl_field.specs.Space.{has_greatest_stamp, is_outside, virtual_spare}
use Rattle.nl_field.specs.SpareRecord.{spare_rec_of}
use Rattle.nl_field.specs.Virtual.{newest, or_first_in}
use Rattle.nl_field.specs.declared.shape.Shape.{Shape}
use Rattle.nl_field.specs.declared.spare.SpareRec.{SpareRec}
use Rattle.nl_field.specs.declared.spare.SpareRec.TheVariants.{Virtual, Physical}
use Rattle.nl_iface.specs.Stored.{NamedPage, stored_in, value_on}
use Rattle.nl_nand.specs.Nand.{ImageOf}
use Rattle.nl_nand.specs.declared.geometry.Geometry.{Geometry}
use Rattle.nl_pseg.specs.Segment.{CanSpareBlock, IsPhysicalOf, Physical as Named}
use Rattle.nl_scan.specs.Tables.{IsTableOf, ScanTable, greatest_stamp}
use Rattle.nl_vseg.proofs.Members.{In, enumerate_from_at, enumerate_to, filter_map_from, filter_map_to, filter_to, find_in}
use Rattle.nl_vseg.proofs.Places.{in_block}
use Rattle.nl_vseg.specs.Pages.{Fact, PageShows, fact_of, fact_with, main_of}
use Rattle.nl_vseg.specs.Places.{PlacesShow, map_of, place_of, value_at}
use Rattle.nl_vseg.specs.Segment.{IsSegmentOf, Segment, is_taken_as_erased}
use Rattle.nl_vseg.specs.declared.place.Place.{Place}
use Rattle.nl_device.specs.Device.{HasLive, HasSegments, HasSpareBlock, IsOnMedium}
use Rattle.nl_device.specs.Opening.{IsOpenedVirtual, SaysErased, needed_of, pick_of, place_on}
use Rattle.nl_device.specs.Shown.{bytes_at}
use Rattle.nl_device.proofs.Leaving.{names_alone}
use Rattle.nl_device.proofs.Forms.{shape_is}
use Rattle.nl_device.proofs.Made.{live_held, made_medium}
use Rattle.nl_device.proofs.OpenedImage.{fold_has, own_on, pages_is, pick_is}
use Rattle.nl_device.proofs.OpenedSpare.{spare_is}
use Rattle.nl_device.proofs.PhysicalPages.{page_is}

-- what a readable virtual page shows
spelled_shows : (shape : Shape) (p : ℕ) (main : List ℕ) (o : Option SpareRec) (r : Readable) → option_map (λ rec. record { page = p; rec = rec; main = main }) o ≡ Some r → is_virtual_rec shape r.rec ≡ true
    → (fact_with o main ≡ Some (address_on r, stamp_on r, r.main)) × (main ≡ r.main)
spelled_shows shape p main None r is virtual = absurd (none-some r is)
spelled_shows shape p main (Some (Physical tag s w)) r is virtual =
    let q : Readable = record { page = p; rec = Physical tag s w; main = main } in
    absurd (false≢true (ap (λ (q : Readable). is_virtual_rec shape q.rec) (same_Some q r is) ∙ virtual))
spelled_shows shape p main (Some (Virtual v s w)) r is virtual =
    let q : Readable = record { page = p; rec = Virtual v s w; main = main } in
    let e = same_Some q r is in
    (ap (λ (q : Readable). Some (address_on q, stamp_on q, q.main)) e, ap (λ (q : Readable). q.main) e)

readable_shows : (shape : Shape) (p : ℕ) (x : Page) (r : Readable) → readable (p, x) ≡ Some r → is_virtual_rec shape r.rec ≡ true
    → (fact_of x ≡ Some (address_on r, stamp_on r, r.main)) × (main_of x ≡ r.main)
readable_shows shape p erased r is virtual = absurd (none-some r is)
readable_shows shape p uncorrectable r is virtual = absurd (none-some r is)
readable_shows shape p (written bytes) r is virtual = spelled_shows shape p bytes.main (spare_rec_of bytes.spare) r is virtual

-- a readable virtual page lies in the segment and shows its address, its stamp and its bytes
pub record IsShown (image : Image) (r : Readable) : Type 0 where
  pub within : r.page < first_physical (shape_of_image image)
  pub shows : fact_of (page_at image r.page) ≡ Some (address_on r, stamp_on r, r.main)
  pub bytes : main_of (page_at image r.page) ≡ r.main

pub is_shown : (image : Image) (r : Readable) → In r (virtual_pages image) → IsShown image r
unfolding virtual_pages readable_pages
is_shown image r is =
    let shape = shape_of_image image in
    let f = filter_to (λ (q : Readable). nat_lt q.page (first_physical shape) && is_virtual_rec shape q.rec) r (readable_pages image) is in
    let parts = and_parts (nat_lt r.page (first_physical shape)) (is_virtual_rec shape r.rec) f.1 in
    let m = filter_map_to readable r (enumerate_from 0 image.contents) f.0 in
    let e = enumerate_to 0 m.0 image.contents m.1 in
    let shown = readable_shows shape m.0.0 m.0.1 r m.2 parts.1 in
    let same = page_is m.0.0 m.0.1 r m.2 in
    let at : page_at image r.page ≡ m.0.1 = ap (λ k. get_or image.contents k erased) (omega (arith, same, e.1)) ∙ e.2 erased in
    record {
      within = ltb-true r.page (first_physical shape) parts.0;
      shows = ap fact_of at ∙ shown.0;
      bytes = ap main_of at ∙ shown.1;
    }

-- the readable page that a page is which shows something
fact_spelled : (p : ℕ) (main : List ℕ) (o : Option SpareRec) (v s : ℕ) (n : List ℕ) → fact_with o main ≡ Some (v, s, n)
    → (r : Readable) × (option_map (λ rec. record { page = p; rec = rec; main = main }) o ≡ Some r) × (stamp_on r ≡ s)
fact_spelled p main None v s n is = absurd (none-some (v, s, n) is)
fact_spelled p main (Some (Physical tag t w)) v s n is = absurd (none-some (v, s, n) is)
fact_spelled p main (Some (Virtual u t w)) v s n is = (record { page = p; rec = Virtual u t w; main = main }, refl, ap (λ (x : Fact). x.1) (same_Some (u, t, main) (v, s, n) is))

fact_readable : (p : ℕ) (x : Page) (v s : ℕ) (n : List ℕ) → fact_of x ≡ Some (v, s, n) → (r : Readable) × (readable (p, x) ≡ Some r) × (stamp_on r ≡ s)
fact_readable p erased v s n is = absurd (none-some (v, s, n) is)
fact_readable p uncorrectable v s n is = absurd (none-some (v, s, n) is)
fact_readable p (written bytes) v s n is = fact_spelled p bytes.main (spare_rec_of bytes.spare) v s n is

shown_listed : (image : Image) (p v s : ℕ) (n : List ℕ) → fact_of (page_at image p) ≡ Some (v, s, n) → (r : Readable) × In r (readable_pages image) × (stamp_on r ≡ s)
unfolding readable_pages
shown_listed image p v s n shows =
    let found = fact_readable p (page_at image p) v s n shows in
    let there : p < length image.contents = within in
    let zero : 0 + p ≡ p = omega arith in
    let listed : In (p, page_at image p) (enumerate_from 0 image.contents) = subst (λ k. In (k, page_at image p) (enumerate_from 0 image.contents)) zero (enumerate_from_at 0 p erased image.contents there) in
    (found.0, filter_map_from readable (p, page_at image p) found.0 (enumerate_from 0 image.contents) listed found.1, found.2)
  where
    within : p < length image.contents
    within = elim (cases_lt p (length image.contents)) [
      | inl lt ↦ lt
      | inr past ↦ absurd (none-some (v, s, n) (sym (ap fact_of (get_or_past image.contents p erased past)) ∙ shows))
    ]

pub below_next : (image : Image) (r : Readable) → In r (readable_pages image) → stamp_on r < next_stamp_of image
unfolding next_stamp_of
below_next image r is =
    let le = fold_has (λ (best : ℕ) (q : Readable). max best (stamp_on q)) (λ n q. omega arith) r (stamp_on r) (λ n. omega arith) (readable_pages image) 0 is in
    omega (arith, le)

-- each stamp that the image shows is below the next one
pub opened_below : (image : Image) (t : ScanTable) → IsTableOf image t → (bound v s : ℕ) (n : List ℕ) → PageShows bound image v s n → s < 1 + greatest_stamp t.seen
opened_below image t is bound v s n shows =
    let r = shown_listed image shows.0 v s n shows.2 in
    let less = below_next image r.0 r.1 in
    let next = is.next in
    let stamp = r.2 in
    omega (arith, less, next, stamp)

first_from : (xs : List Readable) (o : Option Readable) (r : Readable) → (o ≡ Some r → In r xs) → or_first_in xs o ≡ Some r → In r xs
first_from xs (Some y) r rest is = rest is
first_from [] None r rest is = absurd (none-some r is)
first_from (x ∷ xs) None r rest is = inl (same_Some x r is)

-- the newest page of an address is one of the needed ones of that address
pub newest_from : (image : Image) (v : ℕ) (r : Readable) → newest image v ≡ Some r → In r (virtual_pages image) × (address_on r ≡ v) × (has_greatest_stamp (virtual_pages image) r ≡ true)
unfolding newest
newest_from image v r is =
    let pages = virtual_pages image in
    let test : Readable → Bool = λ r. address_on r == v && has_greatest_stamp pages r in
    let out : Readable → Bool = λ r. is_outside image.pages (virtual_spare image) r.page in
    let f = filter_to test r pages (first_from (filter test pages) (find out (filter test pages)) r (λ found. find_in out r (filter test pages) found) is) in
    let parts = and_parts (address_on r == v) (has_greatest_stamp pages r) f.1 in
    (f.0, eqb-true (address_on r) v parts.0, parts.1)

abbrev pub place_for : Readable → Place
place_for r = place_on (own_on r)

placed : (o : Option Readable) → option_map place_on (option_map own_on o) ≡ option_map place_for o
placed None = refl
placed (Some r) = refl

from_placed : (o : Option Readable) (place : Place) → option_map place_for o ≡ Some place → (r : Readable) × (o ≡ Some r) × (place_for r ≡ place)
from_placed None place is = absurd (none-some place is)
from_placed (Some r) place is = (r, refl, same_Some (place_for r) place is)

-- the pages of a block that the table says is erased
pub erased_in : (image : Image) (t : ScanTable) → IsTableOf image t → 0 < (shape_of_image image).pages → (p : ℕ) → p / (shape_of_image image).pages < image.blocks → SaysErased t (p / (shape_of_image image).pages) → page_at image p ≡ erased
erased_in image t is some p within says =
    let size = (shape_of_image image).pages in
    let at = in_block p size (p / size) some refl in
    let same = pages_is image in
    (is.each_block (p / size) within).0 says p (subst (λ n. p / size * n ≤ p) same at.0) (subst (λ n. p < p / size * n + n) same at.1)

module _ (image : Image) (t : ScanTable) (vseg : Segment) (is : IsTableOf image t) (opened : IsOpenedVirtual (shape_of_image image) t vseg) where
  -- the place of an address is that of its newest page
  pub opened_place : (v : ℕ) → v < (shape_of_image image).vaddrs → place_of vseg.places v ≡ option_map place_for (newest image v)
  opened_place v below =
      let shape = shape_of_image image in
      opened.places v below
      ∙ (ap (λ spare. option_map place_on (pick_of shape.pages spare (needed_of shape t.seen) v)) (spare_is image t opened.spreads is opened.are_spreads)
      ∙ (ap (option_map place_on) (pick_is image t v is)
      ∙ placed (newest image v)))

  pub opened_past : (v : ℕ) → (shape_of_image image).vaddrs ≤ v → place_of vseg.places v ≡ None
  opened_past v past = get_or_past vseg.places v None (subst (λ n. n ≤ v) (sym opened.addresses) past)

  -- the page of a place is the newest one of its address
  pub opened_from : (v : ℕ) (place : Place) → place_of vseg.places v ≡ Some place → (r : Readable) × (newest image v ≡ Some r) × (place_for r ≡ place)
  opened_from v place at = elim (cases_lt v (shape_of_image image).vaddrs) [
    | inl below ↦ from_placed (newest image v) place (sym (opened_place v below) ∙ at)
    | inr past ↦ absurd (none-some place (sym (opened_past v past) ∙ at))
  ]

  pub opened_holds : PlacesShow image vseg.places
  opened_holds v place at =
      let f = opened_from v place at in
      let r = f.0 in
      let n = newest_from image v r f.1 in
      let shown = is_shown image r n.0 in
      subst (λ (x : Place). fact_of (page_at image x.page) ≡ Some (v, x.stamp, main_of (page_at image x.page))) f.2
      (shown.shows ∙ (λ i. Some (n.1 i, stamp_on r, sym shown.bytes i)))

  pub opened_erased : 0 < (shape_of_image image).pages → (shape_of_image image).vblocks ≤ image.blocks → (p : ℕ) → is_taken_as_erased vseg p ≡ true → page_at image p ≡ erased
  opened_erased some few p blank =
      let shape = shape_of_image image in
      let b = opened.blank p blank in
      let within : p / shape.pages < shape.vblocks = div_below p shape.pages shape.vblocks some (subst (λ n. p < n) opened.same_bound b.0) in
      erased_in image t is some p (omega (arith, within, few)) b.1

  pub opened_segment : 0 < (shape_of_image image).pages → (shape_of_image image).vblocks ≤ image.blocks → IsSegmentOf image vseg
  opened_segment some few = record { holds = opened_holds; erased_is = opened_erased some few }

  -- the map has what the image stores
  pub opened_map : (v : ℕ) → v < (shape_of_image image).vaddrs → map_of vseg.places image v ≡ option_map value_on (newest image v)
  opened_map v below = ap (value_at image) (opened_place v below) ∙ by (newest image v) refl
    where
      by : (o : Option Readable) → newest image v ≡ o → value_at image (option_map place_for o) ≡ option_map value_on o
      by None e = refl
      by (Some r) e = ap (λ (n : List ℕ). Some (stamp_on r, n)) (is_shown image r (newest_from image v r e).0).bytes

  pub opened_map_past : (v : ℕ) → (shape_of_image image).vaddrs ≤ v → map_of vseg.places image v ≡ None
  opened_map_past v past = ap (value_at image) (opened_past v past)

  -- each value of the map is shown in the segment
  pub opened_there : (v s : ℕ) (main : List ℕ) → map_of vseg.places image v ≡ Some (s, main) → PageShows (first_physical (shape_of_image image)) image v s main
  opened_there v s main value = elim (cases_lt v (shape_of_image image).vaddrs) [
    | inr past ↦ absurd (none-some (s, main) (sym (opened_map_past v past) ∙ value))
    | inl below ↦ by (newest image v) refl (sym (opened_map v below) ∙ value)
  ]
    where
      by : (o : Option Readable) → newest image v ≡ o → option_map value_on o ≡ Some (s, main) → PageShows (first_physical (shape_of_image image)) image v s main
      by None e has = absurd (none-some (s, main) has)
      by (Some r) e has =
          let n = newest_from image v r e in
          let shown = is_shown image r n.0 in
          let same : value_on r ≡ (s, main) = same_Some (value_on r) (s, main) has in
          (r.page, shown.within, shown.shows ∙ (λ i. Some (n.1 i, (same i).0, (same i).1)))

-- the medium of a device that was opened so
pub opened_on : {geometry : Geometry} {shape : Shape} {vseg : Segment} {pseg : Named} {image : Image} (t : ScanTable) → HasSegments geometry shape vseg pseg → ImageOf geometry image → HasLive pseg → IsPhysicalOf image pseg
    → IsTableOf image t → IsOpenedVirtual shape t vseg → ((p : ℕ) (page : NamedPage) → (stored_in image).named p ≡ Some page → page.stamp + 1 ≤ 1 + greatest_stamp t.seen) → pseg.pairs ≡ [] → HasSpareBlock pseg → CanSpareBlock image pseg
    → IsOnMedium shape (1 + greatest_stamp t.seen) image vseg pseg
opened_on {geometry} {shape} {vseg} {pseg} {image} t segments fit live physical is opened named none spare on =
    let e = shape_is segments fit in
    let own = subst (λ s. IsOpenedVirtual s t vseg) (sym e) opened in
    let some : 0 < (shape_of_image image).pages = subst (λ (s : Shape). 0 < s.pages) (sym e) segments.some in
    let split = segments.split in
    let blocks = fit.blocks ∙ segments.blocks in
    let few : (shape_of_image image).vblocks ≤ image.blocks = subst (λ (s : Shape). s.vblocks ≤ image.blocks) (sym e) (omega (arith, split, blocks)) in
    made_medium segments fit live (opened_segment image t vseg is own some few) physical
    (subst (λ s. (v n : ℕ) (main : List ℕ) → map_of vseg.places image v ≡ Some (n, main) → PageShows (first_physical s) image v n main) e (opened_there image t vseg is own))
    (λ v s n shows. opened_below image t is (shape.vblocks * shape.pages) v s n shows)
    named spare on (names_alone shape pseg (λ p. bytes_at (shape.vblocks * shape.pages) image p) (stored_in image) none (live_held segments fit live physical))
