-- After an opening the spare block of the image holds no page of the map.
use Rattle.std.proofs.Common.{◌≡◌, inl, inr, ⊎_elim, ℕ, zero, suc, ◌+◌, ◌*◌, ◌/◌, ◌<◌, ◌≤◌, ◌==◌, ◌∙◌, nat_lt, Bool, true, not, ◌&&◌, ◌||◌, List, filter, find, Option, Some, None, refl, sym, ap, subst, arith, eq-eqb, eqb-true, mul-le-mul_right}
use Rattle.std.specs.List.{list_all, list_any, range_with_len}
use Rattle.std.proofs.lemmas.Bool.{and_from, and_parts, eqb-false, false≢true, not_from_true, not-true, or_cases}
use Rattle.std.proofs.lemmas.Option.{same_Some}
use Rattle.nl_field.specs.Page.{Image}
use Rattle.nl_field.specs.Medium.{Readable, address_on, shape_of_image, stamp_on, virtual_pages}
use Rattle.nl_field.specs.Space.{has_greatest_stamp, is_outside, spare_block, virtual_spare}
use Rattle.nl_field.specs.Virtual.{newest, or_first_in}
use Rattle.nl_scan.specs.Tables.{IsTableOf, ScanTable}
use Rattle.nl_vseg.proofs.Members.{In, any_to, filter_from, find_in}
use Rattle.nl_vseg.proofs.Places.{beside_of}
use Rattle.nl_vseg.specs.Segment.{SegmentHasUnmapped, Segment}
use Rattle.nl_device.specs.Opening.{IsOpenedVirtual}
use Rattle.nl_device.proofs.Firm.{none_found}
use Rattle.nl_device.proofs.OpenedImage.{pages_is}
use Rattle.nl_device.proofs.OpenedMedium.{newest_from, opened_from}
use Rattle.nl_device.proofs.OpenedSpare.{is_copy}
use Rattle.nl_device.proofs.Picks.{find_passes}
use Rattle.nl_device.proofs.Spreads.{all_at, from_in}

pub in_range : (n first count : ℕ) → In n (range_with_len first count) → n < first + count
in_range n first zero is = absurd is
in_range n first (suc k) (inl same) = omega (arith, same)
in_range n first (suc k) (inr rest) = let below = in_range n (first + 1) k rest in omega (arith, below)

module _ (image : Image) (block : ℕ) (spare : virtual_spare image ≡ Some block) where
  abbrev pages : List Readable
  pages = virtual_pages image

  abbrev here : Readable → Bool
  here r = r.page / image.pages == block && has_greatest_stamp pages r

  abbrev elsewhere : Readable → Readable → Bool
  elsewhere r q = not (q.page / image.pages == block) && is_copy q r

  spare_test : list_all (λ r. not (here r) || list_any (elsewhere r) pages) pages ≡ true
  unfolding virtual_spare spare_block
  spare_test = find_passes (λ block. list_all (λ r. not (r.page / image.pages == block && has_greatest_stamp pages r)
      || list_any (λ q. not (q.page / image.pages == block) && is_copy q r) pages) pages) (range_with_len 0 (shape_of_image image).vblocks) block spare

  pub spare_below : block < (shape_of_image image).vblocks
  unfolding virtual_spare spare_block
  spare_below =
      let below = in_range block 0 (shape_of_image image).vblocks (find_in (λ block. list_all (λ r. not (r.page / image.pages == block && has_greatest_stamp pages r)
      || list_any (λ q. not (q.page / image.pages == block) && is_copy q r) pages) pages) block (range_with_len 0 (shape_of_image image).vblocks) spare) in
      omega (arith, below)

  -- a needed page in the spare block has a copy in another block
  copied_out : (r : Readable) → In r pages → r.page / image.pages ≡ block → has_greatest_stamp pages r ≡ true → (q : Readable) × In q pages × (elsewhere r q ≡ true)
  copied_out r is at most =
      let held = and_from (r.page / image.pages == block) (has_greatest_stamp pages r) (eq-eqb (r.page / image.pages) block at) most in
      any_to (elsewhere r) pages (⊎_elim (λ away. absurd (false≢true (sym (not_from_true (here r) held) ∙ away))) (λ some. some)
      (or_cases (not (here r)) (list_any (elsewhere r) pages) (all_at (λ r. not (here r) || list_any (elsewhere r) pages) r pages (from_in r pages is) spare_test)))

  outside_is : (r : Readable) → is_outside image.pages (virtual_spare image) r.page ≡ not (r.page / image.pages == block)
  outside_is r = ap (λ s. is_outside image.pages s r.page) spare

  -- the newest page of an address is not in the spare block
  pub newest_outside : (v : ℕ) (r : Readable) → newest image v ≡ Some r → r.page / image.pages ≡ block → ⊥
  unfolding newest
  newest_outside v r is at = by (find out (filter test pages)) refl is
    where
      test : Readable → Bool
      test r = address_on r == v && has_greatest_stamp pages r

      out : Readable → Bool
      out r = is_outside image.pages (virtual_spare image) r.page

      by : (o : Option Readable) → find out (filter test pages) ≡ o → or_first_in (filter test pages) o ≡ Some r → ⊥
      by (Some x) found picked =
          let passes : out r ≡ true = ap out (sym (same_Some x r picked)) ∙ find_passes out (filter test pages) x found in
          eqb-false (r.page / image.pages) block (not-true (r.page / image.pages == block) (sym (outside_is r) ∙ passes)) at
      by None none picked =
          let n = newest_from image v r is in
          let q = copied_out r n.0 at n.2 in
          let parts = and_parts (not (q.0.page / image.pages == block)) (is_copy q.0 r) q.2 in
          let same = and_parts (address_on q.0 == address_on r) (stamp_on q.0 == stamp_on r) parts.1 in
          let address = eqb-true (address_on q.0) (address_on r) same.0 in
          let stamp = eqb-true (stamp_on q.0) (stamp_on r) same.1 in
          let most : has_greatest_stamp pages q.0 ≡ true = (λ i. not (list_any (λ z. address_on z == address i && nat_lt (stamp i) (stamp_on z)) pages)) ∙ n.2 in
          let mine = filter_from test q.0 pages q.1 (and_from (address_on q.0 == v) (has_greatest_stamp pages q.0) (eq-eqb (address_on q.0) v (address ∙ n.1)) most) in
          none_found out (filter test pages) q.0 none mine (outside_is q.0 ∙ parts.0)

-- the opened segment keeps the spare block free of the map
pub opened_keeps : (image : Image) (t : ScanTable) (vseg : Segment) (block : ℕ) → IsTableOf image t → IsOpenedVirtual (shape_of_image image) t vseg → virtual_spare image ≡ Some block → SegmentHasUnmapped vseg
opened_keeps image t vseg block is opened spare =
    let shape = shape_of_image image in
    let below = spare_below image block spare in
    let room : (block + 1) * shape.pages ≤ shape.vblocks * shape.pages = mul-le-mul_right shape.pages (omega (arith, below)) in
    let split : (block + 1) * shape.pages ≡ block * shape.pages + shape.pages = grind arith in
    let fits : block * shape.pages + shape.pages ≤ shape.vblocks * shape.pages = omega (arith, room, split) in
    let same : image.pages ≡ vseg.pages = sym (opened.same_pages ∙ pages_is image) in
    record {
      block = block;
      within = subst (λ n. block * n + n ≤ vseg.bound) (sym opened.same_pages) (subst (λ n. block * shape.pages + shape.pages ≤ n) (sym opened.same_bound) fits);
      unmapped = λ v place at.
          let f = opened_from image t vseg is opened v place at in
          beside_of place.page vseg.pages block (λ e. newest_outside image block spare v f.0 f.1 ((λ i. (f.2 i).page / same i) ∙ e));
    }
