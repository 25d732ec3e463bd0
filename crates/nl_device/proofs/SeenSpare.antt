-- The virtual segment keeps a spare block where a scan sees one.
use Rattle.std.proofs.Common.{◌≡◌, inl, inr, ℕ, ◌+◌, ◌*◌, ◌/◌, ◌<◌, ◌≤◌, ◌==◌, ◌∙◌, nat_lt, Bool, true, false, not, ◌&&◌, ◌||◌, List, [], ◌∷◌, map, filter, find, length, Option, Some, None, option_map, refl, sym, ap, subst, arith, eq-eqb, eqb-true, ne_eqb, mul-le-mul_right}
use Rattle.std.specs.List.{list_all, list_any, range_with_len}
use Rattle.std.proofs.lemmas.Bool.{and_from, and_parts, cases_lt, cond-true, eqb-false, false≢true, ltb-true, not-true, not_from_false, true≢false}
use Rattle.std.proofs.lemmas.List.{get_or_past}
use Rattle.std.proofs.lemmas.Option.{none-some, same_Some}
use Rattle.nl_field.specs.Medium.{Readable, address_of, address_on, first_physical, is_virtual_rec, stamp_on}
use Rattle.nl_field.specs.Page.{Image}
use Rattle.nl_field.specs.ScanList.{virtual_seen, virtual_spare_seen}
use Rattle.nl_field.specs.Space.{has_greatest_stamp, is_outside, spare_block}
use Rattle.nl_field.specs.SpareRecord.{stamp_of}
use Rattle.nl_field.specs.declared.seen.Seen.{Seen}
use Rattle.nl_field.specs.declared.shape.Shape.{Shape}
use Rattle.nl_field.specs.declared.spare.SpareRec.{SpareRec}
use Rattle.nl_field.specs.declared.spare.SpareRec.TheVariants.{Virtual, Physical}
use Rattle.nl_scan.specs.Tables.{ScanTable}
use Rattle.nl_vseg.proofs.Members.{In, filter_to, find_in}
use Rattle.nl_vseg.proofs.Places.{beside_of}
use Rattle.nl_vseg.specs.Places.{place_of}
use Rattle.nl_vseg.specs.Segment.{SegmentHasUnmapped, Segment}
use Rattle.nl_vseg.specs.declared.place.Place.{Place}
use Rattle.nl_device.specs.Opening.{IsOpenedVirtual, Tabulates, first_outside, needed_of, newest_of, or_else, owns_of, pick_of, place_on, spread_in}
use Rattle.nl_device.specs.Spread.{is_alone_in, spare_of}
use Rattle.nl_device.proofs.Groups.{AreGrouped, GroupLiesIn, IsSpread, spread_at}
use Rattle.nl_device.specs.declared.opening.own.Own.{Own}
use Rattle.nl_device.specs.declared.opening.spare.Spread.{Spread}
use Rattle.nl_device.specs.declared.opening.spare.Spread.TheVariants.{Nowhere, In as Inside, Several}
use Rattle.nl_device.proofs.OpenedImage.{filter_on, newest_are, one_own, own_on}
use Rattle.nl_device.proofs.Firm.{none_found}
use Rattle.nl_device.proofs.OpenedKeeps.{in_range}
use Rattle.nl_device.proofs.OpenedSpare.{copied, copies, group_of, grouped, is_copy, spread_is}
use Rattle.nl_device.proofs.Picks.{find_passes}
use Rattle.nl_device.proofs.Spreads.{LiesIn, alone_any, finds_spare, fold_spread, from_in, to_in}

-- a page that a scan saw, without its bytes
abbrev page_seen : Seen → Readable
page_seen s = record { page = s.page; rec = s.rec; main = [] }

all_map : {X Y : Type 0} (p : Y → Bool) (f : X → Y) (xs : List X) → list_all p (map f xs) ≡ list_all (λ x. p (f x)) xs
all_map p f [] = refl
all_map p f (x ∷ xs) = ap (λ b. p (f x) && b) (all_map p f xs)

any_map : {X Y : Type 0} (p : Y → Bool) (f : X → Y) (xs : List X) → list_any p (map f xs) ≡ list_any (λ x. p (f x)) xs
any_map p f [] = refl
any_map p f (x ∷ xs) = ap (λ b. p (f x) || b) (any_map p f xs)

address_below : (shape : Shape) (rec : SpareRec) → is_virtual_rec shape rec ≡ true → address_of rec < shape.vaddrs
address_below shape (Virtual v s w) is = ltb-true v shape.vaddrs is
address_below shape (Physical tag s w) is = absurd (false≢true is)

module _ (shape : Shape) (seen : List Seen) where
  abbrev own_page : Readable → Bool
  own_page r = nat_lt r.page (first_physical shape) && is_virtual_rec shape r.rec

  abbrev pages : List Readable
  pages = filter own_page (map page_seen seen)

  owns_are : (xs : List Seen) → owns_of shape xs ≡ map own_on (filter own_page (map page_seen xs))
  owns_are [] = refl
  owns_are (x ∷ xs) = one_own (nat_lt x.page (first_physical shape)) shape x.page x.rec [] (owns_of shape xs) (filter own_page (map page_seen xs)) (owns_are xs)

  needed_are : needed_of shape seen ≡ map own_on (filter (has_greatest_stamp pages) pages)
  needed_are = ap newest_of (owns_are seen) ∙ newest_are pages

  below_count : (r : Readable) → In r pages → address_on r < shape.vaddrs
  below_count r there =
      let f = filter_to own_page r (map page_seen seen) there in
      address_below shape r.rec (and_parts (nat_lt r.page (first_physical shape)) (is_virtual_rec shape r.rec) f.1).1

  are_grouped : (spreads : List Spread) → Tabulates shape.vaddrs Nowhere (spread_in shape.pages (needed_of shape seen)) spreads → AreGrouped shape.pages pages (has_greatest_stamp pages) is_copy (group_of pages) spreads
  are_grouped spreads are = record {
    needed = λ r there most. (
      address_on r,
      subst (λ n. address_on r < n) (sym are.count_is) (below_count r (to_in r pages there)),
      cond-true (has_greatest_stamp pages r) (Some (address_on r)) None most,
    );
    only_needed = λ r g there of. (grouped pages (address_on r) (stamp_on r) g of).0;
    copies = λ q r q_is r_is most same. copies pages q r same;
    copied = λ q r g q_is r_is q_of r_of. copied pages q r g (to_in q pages q_is) (to_in r pages r_is) q_of r_of;
    each = λ g below.
        subst (λ s. IsSpread s (GroupLiesIn shape.pages pages (group_of pages) g))
        (sym (are.each g (subst (λ n. g < n) are.count_is below) ∙ (λ i. spread_in shape.pages (needed_are i) g)))
        (spread_is pages shape.pages g);
  }

  -- an image with blocks of that size
  abbrev sized : Image
  sized = record { blocks = 0; pages = shape.pages; contents = [] }

  found_block : (spreads : List Spread) → Tabulates shape.vaddrs Nowhere (spread_in shape.pages (needed_of shape seen)) spreads → spare_of 0 shape.vblocks spreads ≡ spare_block sized 0 shape.vblocks pages (has_greatest_stamp pages) is_copy
  found_block spreads are = sym (finds_spare sized 0 shape.vblocks pages (has_greatest_stamp pages) is_copy (group_of pages) spreads (are_grouped spreads are))

  abbrev newer : Seen → Readable → Bool
  newer s q = address_on q == address_of s.rec && nat_lt (stamp_of s.rec) (stamp_on q)

  abbrev copy_of : ℕ → Seen → Readable → Bool
  copy_of block s q = not (q.page / shape.pages == block) && (address_on q == address_of s.rec && stamp_on q == stamp_of s.rec)

  abbrev test : ℕ → List Readable → Readable → Bool
  test block ps r = not (r.page / shape.pages == block && has_greatest_stamp ps r) || list_any (λ q. not (q.page / shape.pages == block) && is_copy q r) ps

  seen_block : (xs : List Seen) (block : ℕ) → list_all (test block (map page_seen xs)) (map page_seen xs)
      ≡ list_all (λ s. not (s.page / shape.pages == block && not (list_any (λ q. newer s (page_seen q)) xs)) || list_any (λ q. copy_of block s (page_seen q)) xs) xs
  seen_block xs block =
      all_map (test block (map page_seen xs)) page_seen xs
      ∙ (λ i. list_all (λ s. not (s.page / shape.pages == block && not (any_map (newer s) page_seen xs i)) || any_map (copy_of block s) page_seen xs i) xs)

  seen_is : spare_block sized 0 shape.vblocks pages (has_greatest_stamp pages) is_copy ≡ virtual_spare_seen shape seen
  unfolding spare_block virtual_spare_seen virtual_seen
  seen_is =
      let own_seen : Seen → Bool = λ s. nat_lt s.page (first_physical shape) && is_virtual_rec shape s.rec in
      let mine = filter own_seen seen in
      (λ i. find (λ block. list_all (test block (filter_on page_seen own_page own_seen seen (λ x there. refl) i)) (filter_on page_seen own_page own_seen seen (λ x there. refl) i)) (range_with_len 0 shape.vblocks))
      ∙ (λ i. find (λ block. seen_block mine block i) (range_with_len 0 shape.vblocks))

  pub spare_seen : (spreads : List Spread) → Tabulates shape.vaddrs Nowhere (spread_in shape.pages (needed_of shape seen)) spreads → spare_of 0 shape.vblocks spreads ≡ virtual_spare_seen shape seen
  spare_seen spreads are = found_block spreads are ∙ seen_is

-- ---- the block that holds no page of the map

module _ (shape : Shape) (needed : List Own) (spreads : List Spread) (are : Tabulates shape.vaddrs Nowhere (spread_in shape.pages needed) spreads) (block : ℕ) (none_alone : list_any (is_alone_in block) spreads ≡ false) (v : ℕ) (below : v < shape.vaddrs) where
  abbrev at_block : Own → Bool
  at_block o = o.vaddr == v && is_outside shape.pages (Some block) o.page

  abbrev Lies : ℕ → Type 0
  Lies b = LiesIn (λ (o : Own). o.vaddr) (λ (o : Own). o.page / shape.pages) v needed b

  spread_here : IsSpread (spread_at spreads v) Lies
  unfolding spread_in
  spread_here = subst (λ s. IsSpread s Lies) (sym (are.each v below)) (fold_spread (λ (o : Own). o.vaddr) (λ (o : Own). o.page / shape.pages) v needed)

  -- not all pages of an address lie in the block
  not_all_there : first_outside shape.pages (Some block) needed v ≡ None → (o : Own) → In o needed → o.vaddr ≡ v → o.page / shape.pages ≡ block → ⊥
  not_all_there none o there at here = by (spread_at spreads v) refl spread_here
    where
      mine : Lies block
      mine = (o, from_in o needed there, at, here)

      by : (s : Spread) → spread_at spreads v ≡ s → IsSpread s Lies → ⊥
      by Nowhere e lies = lies block mine
      by (Inside one) e lies = true≢false (sym (alone_any block spreads v (subst (λ n. v < n) (sym are.count_is) below) (e ∙ ap (λ n. Inside n) (sym (lies.1 block mine)))) ∙ none_alone)
      by Several e lies =
          let q = lies block in
          let x = q.2 in
          none_found at_block needed x.0 none (to_in x.0 needed x.1)
          (and_from (x.0.vaddr == v) (not (x.0.page / shape.pages == block)) (eq-eqb x.0.vaddr v x.2) (not_from_false (x.0.page / shape.pages == block) (ne_eqb (x.0.page / shape.pages) block (λ same. q.1 (sym x.3 ∙ same)))))

  -- the page that an address gets does not lie in the spare block
  pick_outside : (place : Place) → option_map place_on (pick_of shape.pages (Some block) needed v) ≡ Some place → place.page / shape.pages ≡ block → ⊥
  unfolding pick_of
  pick_outside place is here = by (first_outside shape.pages (Some block) needed v) refl (first_outside shape.pages None needed v) refl is
    where
      by : (a : Option Own) → first_outside shape.pages (Some block) needed v ≡ a → (b : Option Own) → first_outside shape.pages None needed v ≡ b → option_map place_on (or_else a b) ≡ Some place → ⊥
      by (Some o) found b other e =
          let same : o.page ≡ place.page = ap (λ (p : Place). p.page) (same_Some (place_on o) place e) in
          let passes = find_passes at_block needed o found in
          let away = (and_parts (o.vaddr == v) (not (o.page / shape.pages == block)) passes).1 in
          eqb-false (o.page / shape.pages) block (not-true (o.page / shape.pages == block) away) (ap (λ n. n / shape.pages) same ∙ here)
      by None none None other e = none-some place e
      by None none (Some o) other e =
          let same : o.page ≡ place.page = ap (λ (p : Place). p.page) (same_Some (place_on o) place e) in
          let first : Own → Bool = λ (o : Own). o.vaddr == v && true in
          let passes = find_passes first needed o other in
          not_all_there none o (find_in first o needed other) (eqb-true o.vaddr v (and_parts (o.vaddr == v) true passes).0) (ap (λ n. n / shape.pages) same ∙ here)

pub seen_keeps : (shape : Shape) (t : ScanTable) (vseg : Segment) (block : ℕ) → IsOpenedVirtual shape t vseg → virtual_spare_seen shape t.seen ≡ Some block → SegmentHasUnmapped vseg
unfolding spare_of
seen_keeps shape t vseg block o spare =
    let found : spare_of 0 shape.vblocks o.spreads ≡ Some block = spare_seen shape t.seen o.spreads o.are_spreads ∙ spare in
    let test : ℕ → Bool = λ block. not (list_any (is_alone_in block) o.spreads) in
    let below = in_range block 0 shape.vblocks (find_in test block (range_with_len 0 shape.vblocks) found) in
    let free : list_any (is_alone_in block) o.spreads ≡ false = not-true (list_any (is_alone_in block) o.spreads) (find_passes test (range_with_len 0 shape.vblocks) block found) in
    let room : (block + 1) * shape.pages ≤ shape.vblocks * shape.pages = mul-le-mul_right shape.pages (omega (arith, below)) in
    let split : (block + 1) * shape.pages ≡ block * shape.pages + shape.pages = grind arith in
    let fits : block * shape.pages + shape.pages ≤ shape.vblocks * shape.pages = omega (arith, room, split) in
    record {
      block = block;
      within = subst (λ n. block * n + n ≤ vseg.bound) (sym o.same_pages) (subst (λ n. block * shape.pages + shape.pages ≤ n) (sym o.same_bound) fits);
      unmapped = λ v place at.
          let inside = addressed vseg.places v place at in
          let lt : v < shape.vaddrs = let e = o.addresses in omega (arith, e, inside) in
          let e : option_map place_on (pick_of shape.pages (Some block) (needed_of shape t.seen) v) ≡ Some place = ap (λ s. option_map place_on (pick_of shape.pages s (needed_of shape t.seen) v)) (sym found) ∙ sym (o.places v lt) ∙ at in
          beside_of place.page vseg.pages block (λ here. pick_outside shape (needed_of shape t.seen) o.spreads o.are_spreads block free v lt place e (ap (λ n. place.page / n) (sym o.same_pages) ∙ here));
    }
  where
    addressed : (places : List (Option Place)) (v : ℕ) (place : Place) → place_of places v ≡ Some place → v < length places
    addressed places v place at = elim (cases_lt v (length places)) [
      | inl lt ↦ lt
      | inr past ↦ absurd (none-some place (sym (get_or_past places v None past) ∙ at))
    ]
