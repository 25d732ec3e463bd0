-- The spare block that an opening finds is that of the image.
use Rattle.std.proofs.Common.{◌≡◌, inl, inr, ℕ, ◌/◌, ◌<◌, ◌≤◌, ◌==◌, ◌∙◌, nat_lt, Bool, true, not, ◌&&◌, cond, List, map, filter, Option, Some, None, sym, ap, subst, arith, eq-eqb, eqb-true}
use Rattle.std.specs.List.{list_any}
use Rattle.std.proofs.lemmas.Bool.{and_from, and_parts, cases_Bool, cases_lt, cond-true, cond-false, false≢true, lt-ltb, not-true}
use Rattle.std.proofs.lemmas.Option.{none-some, same_Some}
use Rattle.nl_field.specs.Page.{Image}
use Rattle.nl_field.specs.Medium.{Readable, address_on, shape_of_image, stamp_on, virtual_pages}
use Rattle.nl_field.specs.Space.{has_greatest_stamp, virtual_spare}
use Rattle.nl_scan.specs.Tables.{IsTableOf, ScanTable}
use Rattle.nl_vseg.proofs.Members.{In, any_from, filter_from, filter_to}
use Rattle.nl_vseg.proofs.Newest.{from_pages}
use Rattle.nl_device.specs.Opening.{Tabulates, needed_of, spread_in}
use Rattle.nl_device.specs.Spread.{by_key, spare_of, spread_more}
use Rattle.nl_device.proofs.Groups.{AreGrouped, GroupLiesIn, IsSpread}
use Rattle.nl_device.specs.declared.opening.own.Own.{Own}
use Rattle.nl_device.specs.declared.opening.spare.Spread.{Spread}
use Rattle.nl_device.specs.declared.opening.spare.Spread.TheVariants.{Nowhere}
use Rattle.nl_device.proofs.OpenedImage.{in_map, in_map_to, needed_are, own_on, pages_is}
use Rattle.nl_device.proofs.Spreads.{LiesIn, finds_spare, fold_spread, from_in, same_spread, to_in}

-- a copy of a page has its address and its stamp
abbrev pub is_copy : Readable → Readable → Bool
is_copy q r = address_on q == address_on r && stamp_on q == stamp_on r

module _ (pages : List Readable) where
  abbrev is_greatest : ℕ → ℕ → Bool
  is_greatest v s = not (list_any (λ q. address_on q == v && nat_lt s (stamp_on q)) pages)

  abbrev group_at : ℕ → ℕ → Option ℕ
  group_at v s = cond (is_greatest v s) (Some v) None

  -- the needed pages of an address are a group
  abbrev pub group_of : Readable → Option ℕ
  group_of r = group_at (address_on r) (stamp_on r)

  pub grouped : (v s g : ℕ) → group_at v s ≡ Some g → (is_greatest v s ≡ true) × (v ≡ g)
  grouped v s g is = elim (cases_Bool (is_greatest v s)) [
    | inl holds ↦ (holds, same_Some v g (sym (cond-true (is_greatest v s) (Some v) None holds) ∙ is))
    | inr fails ↦ absurd (none-some g (sym (cond-false (is_greatest v s) (Some v) None fails) ∙ is))
  ]

  pub copies : (q r : Readable) → is_copy q r ≡ true → group_of q ≡ group_of r
  copies q r same =
      let parts = and_parts (address_on q == address_on r) (stamp_on q == stamp_on r) same in
      let address = eqb-true (address_on q) (address_on r) parts.0 in
      let stamp = eqb-true (stamp_on q) (stamp_on r) parts.1 in
      λ i. group_at (address i) (stamp i)

  -- no page of the address has a greater stamp
  pub none_above : (q r : Readable) → In q pages → has_greatest_stamp pages r ≡ true → address_on q ≡ address_on r → stamp_on q ≤ stamp_on r
  none_above q r is most at = elim (cases_lt (stamp_on r) (stamp_on q)) [
    | inr le ↦ le
    | inl less ↦ absurd (false≢true (sym (not-true (list_any (λ q. address_on q == address_on r && nat_lt (stamp_on r) (stamp_on q)) pages) most)
        ∙ any_from (λ q. address_on q == address_on r && nat_lt (stamp_on r) (stamp_on q)) q pages is
        (and_from (address_on q == address_on r) (nat_lt (stamp_on r) (stamp_on q)) (eq-eqb (address_on q) (address_on r) at) (lt-ltb (stamp_on r) (stamp_on q) less))))
  ]

  pub copied : (q r : Readable) (g : ℕ) → In q pages → In r pages → group_of q ≡ Some g → group_of r ≡ Some g → is_copy q r ≡ true
  copied q r g q_is r_is q_of r_of =
      let a = grouped (address_on q) (stamp_on q) g q_of in
      let b = grouped (address_on r) (stamp_on r) g r_of in
      let at : address_on q ≡ address_on r = a.1 ∙ sym b.1 in
      let up = none_above q r q_is b.0 at in
      let down = none_above r q r_is a.0 (sym at) in
      and_from (address_on q == address_on r) (stamp_on q == stamp_on r) (eq-eqb (address_on q) (address_on r) at) (eq-eqb (stamp_on q) (stamp_on r) (omega (arith, up, down)))

  -- the blocks of the needed pages of an address
  module _ (size g : ℕ) where
    lies_to : (b : ℕ) → LiesIn (λ (o : Own). o.vaddr) (λ (o : Own). o.page / size) g (map own_on (filter (has_greatest_stamp pages) pages)) b → GroupLiesIn size pages group_of g b
    lies_to b l =
        let m = in_map_to own_on l.0 (filter (has_greatest_stamp pages) pages) (to_in l.0 (map own_on (filter (has_greatest_stamp pages) pages)) l.1) in
        let f = filter_to (has_greatest_stamp pages) m.0 pages m.1 in
        let at : address_on m.0 ≡ g = ap (λ (o : Own). o.vaddr) m.2 ∙ l.2 in
        let block : m.0.page / size ≡ b = ap (λ (o : Own). o.page / size) m.2 ∙ l.3 in
        (m.0, from_in m.0 pages f.0, cond-true (is_greatest (address_on m.0) (stamp_on m.0)) (Some (address_on m.0)) None f.1 ∙ ap (λ n. Some n) at, block)

    lies_from : (b : ℕ) → GroupLiesIn size pages group_of g b → LiesIn (λ (o : Own). o.vaddr) (λ (o : Own). o.page / size) g (map own_on (filter (has_greatest_stamp pages) pages)) b
    lies_from b l =
        let r = l.0 in
        let k = grouped (address_on r) (stamp_on r) g l.2 in
        let f = filter_from (has_greatest_stamp pages) r pages (to_in r pages l.1) k.0 in
        (own_on r, from_in (own_on r) (map own_on (filter (has_greatest_stamp pages) pages)) (in_map own_on r (filter (has_greatest_stamp pages) pages) f), k.1, l.3)

    pub spread_is : IsSpread (spread_in size (map own_on (filter (has_greatest_stamp pages) pages)) g) (GroupLiesIn size pages group_of g)
    unfolding spread_in
    spread_is =
        let needed = map own_on (filter (has_greatest_stamp pages) pages) in
        same_spread (by_key (λ (o : Own). o.vaddr) (λ s (o : Own). spread_more s (o.page / size)) Nowhere g needed) (LiesIn (λ (o : Own). o.vaddr) (λ (o : Own). o.page / size) g needed) (GroupLiesIn size pages group_of g)
        lies_to lies_from (fold_spread (λ (o : Own). o.vaddr) (λ (o : Own). o.page / size) g needed)

module _ (image : Image) (t : ScanTable) (spreads : List Spread) (is : IsTableOf image t)
    (are : Tabulates (shape_of_image image).vaddrs Nowhere (spread_in (shape_of_image image).pages (needed_of (shape_of_image image) t.seen)) spreads) where
  are_grouped : AreGrouped image.pages (virtual_pages image) (has_greatest_stamp (virtual_pages image)) is_copy (group_of (virtual_pages image)) spreads
  are_grouped = record {
    needed = λ r there most. (
      address_on r,
      subst (λ n. address_on r < n) (sym are.count_is) (from_pages image r (to_in r (virtual_pages image) there)).0,
      cond-true (has_greatest_stamp (virtual_pages image) r) (Some (address_on r)) None most,
    );
    only_needed = λ r g there of. (grouped (virtual_pages image) (address_on r) (stamp_on r) g of).0;
    copies = λ q r q_is r_is most same. copies (virtual_pages image) q r same;
    copied = λ q r g q_is r_is q_of r_of. copied (virtual_pages image) q r g (to_in q (virtual_pages image) q_is) (to_in r (virtual_pages image) r_is) q_of r_of;
    each = λ g below.
        subst (λ s. IsSpread s (GroupLiesIn image.pages (virtual_pages image) (group_of (virtual_pages image)) g))
        (sym (are.each g (subst (λ n. g < n) are.count_is below) ∙ (λ i. spread_in (pages_is image i) (needed_are image t is i) g)))
        (spread_is (virtual_pages image) image.pages g);
  }

  -- the least block that holds no needed page without a copy elsewhere
  pub spare_is : spare_of 0 (shape_of_image image).vblocks spreads ≡ virtual_spare image
  unfolding virtual_spare
  spare_is = sym (finds_spare image 0 (shape_of_image image).vblocks (virtual_pages image) (has_greatest_stamp (virtual_pages image)) is_copy (group_of (virtual_pages image)) spreads are_grouped)
