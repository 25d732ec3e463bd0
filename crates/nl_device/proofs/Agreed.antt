-- Where the pages that a scan saw agree, the image shows nothing of an address but its map's value and older ones.
use Rattle.std.proofs.Common.{◌≡◌, inl, inr, ⊎_elim, ℕ, zero, suc, ◌+◌, ◌<◌, ◌≤◌, ◌==◌, ◌∙◌, nat_lt, Bool, true, false, not, ◌&&◌, List, [], ◌∷◌, length, filter, find, option_map, Option, Some, None, refl, sym, ap, subst, arith, eqb-true, eq-eqb}
use Rattle.std.specs.List.{enumerate_from, list_all}
use Rattle.std.proofs.lemmas.Bool.{and_from, and_parts, cases_Bool, cases_eq, cases_lt, lt-ltb, ltb-true, true≢false}
use Rattle.std.proofs.lemmas.List.{get_or_past}
use Rattle.std.proofs.lemmas.Option.{none-some, same_Some}
use Rattle.std.proofs.lemmas.Slice.Eq.{bytes_eq-Decides}
use Rattle.nl_field.specs.Page.{Page, erased, uncorrectable, written, Image, page_at}
use Rattle.nl_field.specs.Medium.{Readable, address_on, first_physical, is_virtual_rec, readable, readable_pages, shape_of_image, stamp_on, virtual_pages}
use Rattle.nl_field.specs.Scan.{agree, agrees_below, differs_from_lower, next_stamp_of}
use Rattle.nl_field.specs.Space.{has_greatest_stamp, is_outside, virtual_spare}
use Rattle.nl_field.specs.SpareRecord.{spare_rec_of}
use Rattle.nl_field.specs.Virtual.{newest, or_first_in}
use Rattle.nl_field.specs.declared.shape.Shape.{Shape}
use Rattle.nl_field.specs.declared.spare.SpareRec.{SpareRec}
use Rattle.nl_field.specs.declared.spare.SpareRec.TheVariants.{Virtual, Physical}
use Rattle.nl_iface.specs.Stored.{value_on}
use Rattle.nl_scan.specs.Tables.{IsTableOf, ScanTable}
use Rattle.nl_field.specs.ScanList.{seen_of}
use Rattle.nl_field.proofs.ScanLists.{each as list_of}
use Rattle.nl_field.specs.declared.seen.Seen.{Seen}
use Rattle.nl_vseg.proofs.Members.{In, any_from, any_to, enumerate_from_at, filter_from, filter_map_from, filter_to}
use Rattle.nl_vseg.specs.Maps.{Dominated}
use Rattle.nl_vseg.specs.Pages.{Fact, PageShows, fact_of, fact_with, main_of}
use Rattle.nl_vseg.specs.Places.{map_of}
use Rattle.nl_vseg.specs.Segment.{Segment}
use Rattle.nl_device.specs.Opening.{IsOpenedVirtual}
use Rattle.nl_device.proofs.OpenedImage.{in_map}
use Rattle.nl_device.proofs.OpenedMedium.{below_next, is_shown, newest_from, opened_map}
use Rattle.nl_device.proofs.Spreads.{all_at, from_in}

from_not : (b : Bool) → not b ≡ false → b ≡ true
from_not true is = refl
from_not false is = sym is

-- a readable page with these numbers
record IsPageOf (shape : Shape) (p v s : ℕ) (n : List ℕ) (r : Readable) : Type 0 where
  pub page : r.page ≡ p
  pub virtual : is_virtual_rec shape r.rec ≡ true
  pub address : address_on r ≡ v
  pub stamp : stamp_on r ≡ s
  pub main : r.main ≡ n

spelled_page : (shape : Shape) (p : ℕ) (main : List ℕ) (o : Option SpareRec) (v s : ℕ) (n : List ℕ) → v < shape.vaddrs → fact_with o main ≡ Some (v, s, n)
    → (r : Readable) × (option_map (λ rec. record { page = p; rec = rec; main = main }) o ≡ Some r) × IsPageOf shape p v s n r
spelled_page shape p main None v s n below is = absurd (none-some (v, s, n) is)
spelled_page shape p main (Some (Physical tag t w)) v s n below is = absurd (none-some (v, s, n) is)
spelled_page shape p main (Some (Virtual u t w)) v s n below is =
    let e = same_Some (u, t, main) (v, s, n) is in
    let address = ap (λ (x : Fact). x.0) e in (
      record { page = p; rec = Virtual u t w; main = main },
      refl,
      record {
        page = refl;
        virtual = lt-ltb u shape.vaddrs (subst (λ k. k < shape.vaddrs) (sym address) below);
        address = address;
        stamp = ap (λ (x : Fact). x.1) e;
        main = ap (λ (x : Fact). x.2) e;
      },
    )

shown_page : (shape : Shape) (p : ℕ) (x : Page) (v s : ℕ) (n : List ℕ) → v < shape.vaddrs → fact_of x ≡ Some (v, s, n) → (r : Readable) × (readable (p, x) ≡ Some r) × IsPageOf shape p v s n r
shown_page shape p erased v s n below is = absurd (none-some (v, s, n) is)
shown_page shape p uncorrectable v s n below is = absurd (none-some (v, s, n) is)
shown_page shape p (written bytes) v s n below is = spelled_page shape p bytes.main (spare_rec_of bytes.spare) v s n below is

-- a page that shows an address of the volume is one of the virtual pages
listed : (image : Image) (p v s : ℕ) (n : List ℕ) → p < first_physical (shape_of_image image) → v < (shape_of_image image).vaddrs → fact_of (page_at image p) ≡ Some (v, s, n)
    → (r : Readable) × In r (virtual_pages image) × IsPageOf (shape_of_image image) p v s n r
unfolding virtual_pages readable_pages
listed image p v s n low below shows =
    let shape = shape_of_image image in
    let found = shown_page shape p (page_at image p) v s n below shows in
    let zero_is : 0 + p ≡ p = omega arith in
    let there : In (p, page_at image p) (enumerate_from 0 image.contents) = subst (λ k. In (k, page_at image p) (enumerate_from 0 image.contents)) zero_is (enumerate_from_at 0 p erased image.contents within) in
    let one = filter_map_from readable (p, page_at image p) found.0 (enumerate_from 0 image.contents) there found.1 in
    let page = found.2.page in (
      found.0,
      filter_from (λ (q : Readable). nat_lt q.page (first_physical shape) && is_virtual_rec shape q.rec) found.0 (readable_pages image) one
          (and_from _ _ (lt-ltb found.0.page (first_physical shape) (omega (arith, low, page))) found.2.virtual),
      found.2,
    )
  where
    within : p < length image.contents
    within = elim (cases_lt p (length image.contents)) [
      | inl lt ↦ lt
      | inr past ↦ absurd (none-some (v, s, n) (sym (ap fact_of (get_or_past image.contents p erased past)) ∙ shows))
    ]

-- one of the pages of an address has the greatest stamp
greatest_from : (pages : List Readable) (bound : ℕ) → ((q : Readable) → In q pages → stamp_on q < bound) → (k : ℕ) (r : Readable) → In r pages → bound ≤ stamp_on r + k
    → (m : Readable) × In m pages × (address_on m ≡ address_on r) × (has_greatest_stamp pages m ≡ true)
greatest_from pages bound below zero r is enough = let lt = below r is in absurd (omega (arith, lt, enough))
greatest_from pages bound below (suc k) r is enough =
    ⊎_elim
    (λ greatest. (r, is, refl, greatest))
    (λ other.
    let q = any_to (λ q. address_on q == address_on r && nat_lt (stamp_on r) (stamp_on q)) pages (from_not _ other) in
    let parts = and_parts (address_on q.0 == address_on r) (nat_lt (stamp_on r) (stamp_on q.0)) q.2 in
    let more = ltb-true (stamp_on r) (stamp_on q.0) parts.1 in
    let rest = greatest_from pages bound below k q.0 q.1 (omega (arith, more, enough)) in
    (rest.0, rest.1, rest.2 ∙ eqb-true (address_on q.0) (address_on r) parts.0, rest.3))
    (cases_Bool (has_greatest_stamp pages r))

first_there : (xs : List Readable) (o : Option Readable) (m : Readable) → In m xs → or_first_in xs o ≡ None → ⊥
first_there xs (Some y) m is none = none-some y (sym none)
first_there [] None m is none = is
first_there (x ∷ xs) None m is none = none-some x (sym none)

newest_there : (image : Image) (v : ℕ) (m : Readable) → In m (virtual_pages image) → address_on m ≡ v → has_greatest_stamp (virtual_pages image) m ≡ true → newest image v ≡ None → ⊥
unfolding newest
newest_there image v m is address greatest none =
    let pages = virtual_pages image in
    let mine = filter (λ (r : Readable). address_on r == v && has_greatest_stamp pages r) pages in
    first_there mine (find (λ (r : Readable). is_outside image.pages (virtual_spare image) r.page) mine) m
    (filter_from (λ (r : Readable). address_on r == v && has_greatest_stamp pages r) m pages is (and_from _ _ (eq-eqb (address_on m) v address) greatest)) none

module _ (image : Image) (t : ScanTable) (is : IsTableOf image t) (agreed : list_all (λ (s : Seen). s.agrees) t.seen ≡ true) where
  agrees : (r : Readable) → In r (virtual_pages image) → agrees_below image r ≡ true
  unfolding virtual_pages
  agrees r there =
      let seen = in_map (seen_of image) r (readable_pages image) (filter_to _ r (readable_pages image) there).0 in
      all_at (λ (s : Seen). s.agrees) (seen_of image r) t.seen (from_in (seen_of image r) t.seen (subst (In (seen_of image r)) (sym (is.each_page ∙ list_of image)) seen)) agreed

  -- of two pages of one stamp the lower one has the bytes of the other
  same_bytes : (r m : Readable) → In r (virtual_pages image) → In m (virtual_pages image) → r.page < m.page → stamp_on r ≡ stamp_on m → r.main ≡ m.main
  unfolding agrees_below differs_from_lower
  same_bytes r m r_in m_in lower stamps =
      let pages = virtual_pages image in
      let fine = (and_parts _ _ (agrees m m_in)).0 in
      ⊎_elim
      (λ yes. (bytes_eq-Decides r.main m.main).0 (and_parts _ _ yes).0)
      (λ differ.
      let lower_one = any_from (λ q. nat_lt q.page m.page && stamp_on q == stamp_on m && not (agree q m)) r pages r_in (and_from _ _ (and_from _ _ (lt-ltb r.page m.page lower) (eq-eqb (stamp_on r) (stamp_on m) stamps)) (ap not differ)) in
      let some = any_from (λ q. q.page == m.page && differs_from_lower pages q) m pages m_in (and_from _ _ (eq-eqb m.page m.page refl) lower_one) in
      absurd (true≢false (sym fine ∙ ap not some)))
      (cases_Bool (agree r m))

  -- a page of an address has no greater stamp than its newest one
  stamp_is : (r w : Readable) → In r (virtual_pages image) → In w (virtual_pages image) → address_on r ≡ address_on w → has_greatest_stamp (virtual_pages image) w ≡ true → stamp_on w ≤ stamp_on r → stamp_on r ≡ stamp_on w
  stamp_is r w r_in w_in address greatest least =
      ⊎_elim
      (λ more.
      let any = any_from (λ q. address_on q == address_on w && nat_lt (stamp_on w) (stamp_on q)) r (virtual_pages image) r_in (and_from _ _ (eq-eqb (address_on r) (address_on w) address) (lt-ltb (stamp_on w) (stamp_on r) more)) in
      absurd (true≢false (sym greatest ∙ ap not any)))
      (λ le. omega (arith, le, least))
      (cases_lt (stamp_on w) (stamp_on r))

  -- two pages of one stamp have the same bytes
  bytes_are : (r w : Readable) → In r (virtual_pages image) → In w (virtual_pages image) → stamp_on r ≡ stamp_on w → r.main ≡ w.main
  bytes_are r w r_in w_in stamps =
      ⊎_elim
      (λ one. sym (is_shown image r r_in).bytes ∙ ap (λ p. main_of (page_at image p)) one ∙ (is_shown image w w_in).bytes)
      (λ apart. ⊎_elim
      (λ lower. same_bytes r w r_in w_in lower stamps)
      (λ upper. sym (same_bytes w r w_in r_in (omega (arith, upper, apart)) (sym stamps)))
      (cases_lt r.page w.page))
      (cases_eq r.page w.page)

  -- what the image shows of an address is its newest page's value, or older
  pub opened_agreed : (vseg : Segment) → IsOpenedVirtual (shape_of_image image) t vseg → (v s : ℕ) (n : List ℕ) → v < (shape_of_image image).vaddrs → PageShows (first_physical (shape_of_image image)) image v s n → Dominated (map_of vseg.places image v) s n
  unfolding virtual_pages
  opened_agreed vseg opened v s n below shows = by (newest image v) refl
    where
      pages : List Readable
      pages = virtual_pages image

      in_all : (q : Readable) → In q (virtual_pages image) → In q (readable_pages image)
      in_all q there = (filter_to _ q (readable_pages image) there).0

      by : (o : Option Readable) → newest image v ≡ o → Dominated (map_of vseg.places image v) s n
      by None none =
          let r = listed image shows.0 v s n shows.1 below shows.2 in
          let next = next_stamp_of image in
          let m = greatest_from pages next (λ q q_in. below_next image q (in_all q q_in)) next r.0 r.1 (omega arith) in
          absurd (newest_there image v m.0 m.1 (m.2 ∙ r.2.address) m.3 none)
      by (Some w) found =
          let r = listed image shows.0 v s n shows.1 below shows.2 in
          let w_is = newest_from image v w found in
          subst (λ o. Dominated o s n) (sym (opened_map image t vseg is opened v below ∙ ap (option_map value_on) found))
          (⊎_elim
          (λ older. inl (subst (λ k. k < stamp_on w) r.2.stamp older))
          (λ least. inr (let stamps = stamp_is r.0 w r.1 w_is.0 (r.2.address ∙ sym w_is.1) w_is.2 least in (sym r.2.stamp ∙ stamps, sym r.2.main ∙ bytes_are r.0 w r.1 w_is.0 stamps)))
          (cases_lt (stamp_on r.0) (stamp_on w)))
