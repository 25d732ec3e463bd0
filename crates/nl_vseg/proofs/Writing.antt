-- The next page of the active block is programmed.
use Rattle.std.proofs.Common.{◌≡◌, ◌⊎◌, inl, inr, ⊎_elim, ℕ, ◌+◌, ◌*◌, ◌/◌, ◌<◌, ◌≤◌, true, false, Option, Some, List, length, set, sym, ◌∙◌, ap, subst, arith, IsTrue, eq-eqb, ne_eqb, ◌==◌, if◌then◌else◌, length-set}
use Rattle.std.proofs.lemmas.Bool.{cases_eq, cond-true, cond-false, true≢false}
use Rattle.nl_field.specs.Page.{Page, erased, written, Image, page_at}
use Rattle.nl_field.specs.Spelling.{is_stamp}
use Rattle.nl_nand.specs.declared.answers.WriteAnswer.{WriteAnswer}
use Rattle.nl_nand.specs.declared.answers.WriteAnswer.TheVariants as write
use Rattle.nl_nand.specs.Nand.{Cut, Filled, OperationLeaves, CanProgram, CrashLeaves, ticked}
use Rattle.nl_nand.specs.ImageLaws.{filled_cut}
use Rattle.nl_nand.proofs.Crashes.{operation_turns, leaves_done}
use Rattle.nl_blocks.specs.Table.{free_count}
use Rattle.nl_field.specs.CrashStates.{LeavesOnly, Turns}
use Rattle.nl_vseg.specs.Maps.{with_at}
use Rattle.nl_vseg.specs.Pages.{fact_of, main_of, IsBeside, page_with}
use Rattle.nl_vseg.specs.Places.{place_of, stamp_for, stamp_in_place, value_at, map_of}
use Rattle.nl_vseg.specs.Layout.{Layout, bound, block_is_free, LayoutHasUnmapped, LayoutTakesAsErased, IsLayoutOf, IsLayout}
use Rattle.nl_vseg.specs.Effects.{ImageKeepsMap, GainsValue, BlockIsProgrammed}
use Rattle.nl_vseg.specs.declared.place.Place.{Place}
use Rattle.nl_vseg.proofs.Places.{block_of, beside_of, block_below, place_here, place_other, set_place, used_more, next_placed}
use Rattle.nl_vseg.proofs.Images.{apart_from_erased, keeps_or_takes, takes_new}
use Rattle.nl_vseg.proofs.Blocks.{some_free}
use Rattle.nl_vseg.proofs.Segments.{below_of, free_unmapped, holds_same, map_same}

-- the number of each address, with one that is written
pub stamp_put : (places : List (Option Place)) (v page s : ℕ) → v < length places → (u : ℕ) → stamp_for (set places v (Some (record { page = page; stamp = s }))) u ≡ (if u == v then Some s else stamp_for places u)
stamp_put places v page s within u = elim (cases_eq u v) [
  | inl same ↦ ap stamp_in_place (place_here places v u (Some (record { page = page; stamp = s })) within same) ∙ sym (cond-true (u == v) (Some s) (stamp_for places u) (eq-eqb u v same))
  | inr ne ↦ ap stamp_in_place (place_other places v u (Some (record { page = page; stamp = s })) ne) ∙ sym (cond-false (u == v) (Some s) (stamp_for places u) (ne_eqb u v ne))
]

module _ (seg : Layout) (is : IsLayout seg) (room : seg.used < seg.table.size) (page : ℕ) (at : page ≡ seg.active * seg.table.size + seg.used) where
  pub page_end : page < seg.active * seg.table.size + seg.table.size
  page_end = omega (arith, at, room)

  pub page_block : page / seg.table.size ≡ seg.active
  page_block = block_of page seg.table.size seg.active (omega (arith, at)) page_end

  pub page_below : page < bound seg
  page_below = let e = block_below seg.active (length seg.table.blocks) seg.table.size is.active_is in omega (arith, e, page_end)

  in_use : block_is_free seg.table seg.active ≡ false
  in_use = is.taken room

  -- one page more is used
  pub more : IsLayout (record seg { used = seg.used + 1 })
  more = record {
    first = is.first;
    some = is.some;
    numbers = is.numbers;
    marks = is.marks;
    few = is.few;
    active_is = is.active_is;
    used_fits = omega (arith, room);
    taken = λ lt. in_use;
    places_are = used_more (seg.used + 1) (omega arith) is.places_are;
    in_use = is.in_use;
  }

  -- what is taken as erased then, was before, and is not the page
  taken_more : (places : List (Option Place)) (p : ℕ) → LayoutTakesAsErased (record seg { places = places; used = seg.used + 1 }) p → LayoutTakesAsErased seg p × (p ≡ page → ⊥)
  taken_more places p taken = ⊎_elim
      (λ next. ((taken.0, inl (omega (arith, next.0), next.1)), λ same. omega (arith, same, at, next.0)))
      (λ free. ((taken.0, inr free), λ same. true≢false (sym free.0 ∙ (ap (λ n. block_is_free seg.table (n / seg.table.size)) same ∙ (ap (block_is_free seg.table) page_block ∙ in_use)))))
      taken.1

  module _ (block : ℕ) (block_in : block < length seg.table.blocks) (free : block_is_free seg.table block ≡ true) where
    pub page_beside : IsBeside seg.table.size block page
    page_beside = beside_of page seg.table.size block (λ here. true≢false (sym free ∙ (ap (block_is_free seg.table) (sym here ∙ page_block) ∙ in_use)))

    pub spare_kept : LayoutHasUnmapped (record seg { used = seg.used + 1 })
    spare_kept = record { block = block; within = block_in; unmapped = free_unmapped seg is block free }

  module _ (v s : ℕ) (within : v < length seg.places) (spelled : IsTrue (is_stamp s)) where
    pub put_segment : IsLayout (record seg { places = set seg.places v (Some (record { page = page; stamp = s })); used = seg.used + 1 })
    put_segment = record {
      first = is.first;
      some = is.some;
      numbers = is.numbers;
      marks = is.marks;
      few = subst (λ n. n + 4 * seg.table.size ≤ length seg.table.blocks * seg.table.size) (sym (length-set seg.places v (Some (record { page = page; stamp = s })))) is.few;
      active_is = is.active_is;
      used_fits = omega (arith, room);
      taken = λ lt. in_use;
      places_are = next_placed v (record { page = page; stamp = s }) within room at page_below spelled is.places_are;
      in_use = λ u place named. ⊎_elim
          (λ here. ap (λ (q : Place). block_is_free seg.table (q.page / seg.table.size)) (sym here.1) ∙ (ap (block_is_free seg.table) page_block ∙ in_use))
          (λ there. is.in_use u place there.1)
          (set_place seg.places v (record { page = page; stamp = s }) within u place named);
    }

    pub spare_put : (block : ℕ) → block < length seg.table.blocks → block_is_free seg.table block ≡ true → LayoutHasUnmapped (record seg { places = set seg.places v (Some (record { page = page; stamp = s })); used = seg.used + 1 })
    spare_put block block_in free = record {
      block = block;
      within = block_in;
      unmapped = λ u place named. ⊎_elim
          (λ here. subst (λ (q : Place). IsBeside seg.table.size block q.page) here.1 (page_beside block block_in free))
          (λ there. free_unmapped seg is block free u place there.1)
          (set_place seg.places v (record { page = page; stamp = s }) within u place named);
    }

  module _ (image : Image) (seg_is : IsLayoutOf image seg) where
    pub page_blank : page_at image page ≡ erased
    page_blank = seg_is.blank page (page_below, inl (omega (arith, at), page_end))

    pub can_program : image.pages ≡ seg.table.size → CanProgram image page
    can_program pages = record {
      block = seg.active;
      from = subst (λ n. seg.active * n ≤ page) (sym pages) (omega (arith, at));
      below = subst (λ n. page < seg.active * n + n) (sym pages) page_end;
      rest_erased = λ p from below.
          let e = block_below seg.active (length seg.table.blocks) seg.table.size is.active_is in
          let end : p < seg.active * seg.table.size + seg.table.size = subst (λ n. p < seg.active * n + n) pages below in
          seg_is.blank p (omega (arith, e, end), inl (omega (arith, at, from), end));
    }

    module _ (value : Page) (c : Image) (cut : Cut page (page + 1) value image c) where
      pub other : (p : ℕ) → (p ≡ page → ⊥) → page_at c p ≡ page_at image p
      other p ne = ⊎_elim (λ same. same) (λ in_range. absurd (ne (omega (arith, in_range.0, in_range.1)))) (cut.each p)

      pub places_stay : (u : ℕ) (place : Place) → place_of seg.places u ≡ Some place → page_at c place.page ≡ page_at image place.page
      places_stay u place named = other place.page (apart_from_erased seg.table.size (bound seg) seg.places image seg_is.holds (below_of seg is) page page_blank u place named)

      -- the map stays where the page is not that of an address
      pub after_cut : IsLayoutOf c (record seg { used = seg.used + 1 })
      after_cut = record {
        holds = holds_same seg.places image c seg_is.holds places_stay;
        blank = λ p taken. let t = taken_more seg.places p taken in other p t.1 ∙ seg_is.blank p t.0;
      }

      pub map_stays : (u : ℕ) → map_of seg.places c u ≡ map_of seg.places image u
      map_stays = map_same seg.places image c places_stay

      module _ (v s w : ℕ) (main : List ℕ) (within : v < length seg.places) (new_is : page_at c page ≡ written (page_with main v s w)) (shows : fact_of (written (page_with main v s w)) ≡ Some (v, s, main)) where
        pub after_new : IsLayoutOf c (record seg { places = set seg.places v (Some (record { page = page; stamp = s })); used = seg.used + 1 })
        after_new = record {
          holds = λ u place named. holds u place (set_place seg.places v (record { page = page; stamp = s }) within u place named);
          blank = λ p taken. let t = taken_more (set seg.places v (Some (record { page = page; stamp = s }))) p taken in other p t.1 ∙ seg_is.blank p t.0;
        }
          where
            holds : (u : ℕ) (place : Place) → ((u ≡ v) × (◌≡◌ {A = Place} (record { page = page; stamp = s }) place)) ⊎ ((u ≡ v → ⊥) × (place_of seg.places u ≡ Some place))
                → fact_of (page_at c place.page) ≡ Some (u, place.stamp, main_of (page_at c place.page))
            holds u place (inl here) =
                let P : Place → Type 0 = λ q. fact_of (page_at c q.page) ≡ Some (u, q.stamp, main_of (page_at c q.page)) in
                let Q : Page → Type 0 = λ q. fact_of q ≡ Some (u, s, main_of q) in
                subst P here.1 (subst Q (sym new_is) (shows ∙ ap (λ n. Some (n, s, main)) (sym here.0)))
            holds u place (inr there) =
                let P : Page → Type 0 = λ q. fact_of q ≡ Some (u, place.stamp, main_of q) in
                subst P (sym (places_stay u place there.1)) (seg_is.holds u place there.1)

        pub map_new : (u : ℕ) → map_of (set seg.places v (Some (record { page = page; stamp = s }))) c u ≡ with_at (map_of seg.places image) v (s, main) u
        map_new u = elim (cases_eq u v) [
          | inl same ↦ ap (value_at c) (place_here seg.places v u (Some (record { page = page; stamp = s })) within same) ∙ (ap (λ q. Some (s, main_of q)) new_is
              ∙ sym (cond-true (u == v) (Some (s, main)) (map_of seg.places image u) (eq-eqb u v same)))
          | inr ne ↦ ap (value_at c) (place_other seg.places v u (Some (record { page = page; stamp = s })) ne) ∙ (map_stays u
              ∙ sym (cond-false (u == v) (Some (s, main)) (map_of seg.places image u) (ne_eqb u v ne)))
        ]

        pub programmed : BlockIsProgrammed seg.table.size (bound seg) seg.active v s w main image c
        programmed = record { page = page; below = page_below; in_block = page_block; has = new_is; others = λ p ne. inl (other p ne) }

-- what a program of the next page leaves, whole or cut short
module _ (seg : Layout) (is : IsLayout seg) (room : seg.used < seg.table.size) (page : ℕ) (at : page ≡ seg.active * seg.table.size + seg.used) (image : Image) (seg_is : IsLayoutOf image seg)
    (free : 1 ≤ free_count seg.table) (v s w : ℕ) (main given : List ℕ) (same : main ≡ given) (shows : fact_of (written (page_with main v s w)) ≡ Some (v, s, main)) where
  block : (b : ℕ) × (b < length seg.table.blocks) × (block_is_free seg.table b ≡ true)
  block = some_free seg.table is.first free

  pub put_either : (c : Image) → Cut page (page + 1) (written (page_with main v s w)) image c
      → ImageKeepsMap seg.table.size (bound seg) (map_of seg.places image) image c ⊎ GainsValue seg.table.size (bound seg) (map_of seg.places image) v s given image c
  put_either c cut = subst (λ m. ImageKeepsMap seg.table.size (bound seg) (map_of seg.places image) image c ⊎ GainsValue seg.table.size (bound seg) (map_of seg.places image) v s m image c) same
      (keeps_or_takes seg.table.size (bound seg) seg.places image seg_is.holds (below_of seg is) page block.0 v s main (written (page_with main v s w))
      (page_blank seg is room page at image seg_is) (page_below seg is room page at) (page_beside seg is room page at block.0 block.1 block.2)
      (block_below block.0 (length seg.table.blocks) seg.table.size block.1) (free_unmapped seg is block.0 block.2) shows c cut)

  pub put_takes : (c : Image) → Filled page (page + 1) (written (page_with main v s w)) image c → GainsValue seg.table.size (bound seg) (map_of seg.places image) v s given image c
  put_takes c filled = subst (λ m. GainsValue seg.table.size (bound seg) (map_of seg.places image) v s m image c) same
      (takes_new seg.table.size (bound seg) seg.places image seg_is.holds (below_of seg is) page block.0 v s main (written (page_with main v s w))
      (page_blank seg is room page at image seg_is) (page_below seg is room page at) (page_beside seg is room page at block.0 block.1 block.2)
      (block_below block.0 (length seg.table.blocks) seg.table.size block.1) (free_unmapped seg is block.0 block.2) shows c (filled_cut filled) (filled.inside page (omega arith) (omega arith)))

pub put_leaves : {M : Type 0} {clock : M → ℕ} {contents : M → Image} {left : M → ℕ → Image → Type 0} {old new : M} (seg : Layout) (is : IsLayout seg) (room : seg.used < seg.table.size) (page : ℕ)
    (at : page ≡ seg.active * seg.table.size + seg.used) (seg_is : IsLayoutOf (contents old) seg) (free : 1 ≤ free_count seg.table) (v s w : ℕ) (main given : List ℕ) (same : main ≡ given)
    (shows : fact_of (written (page_with main v s w)) ≡ Some (v, s, main)) (finished : Type 0) (answer : WriteAnswer) → (finished → answer ≡ write.Done)
    → CrashLeaves clock contents left page (page + 1) (written (page_with main v s w)) old new
    → OperationLeaves page (page + 1) (written (page_with main v s w)) (contents old) answer (contents new)
    → clock new ≡ ticked (clock old) answer
    → LeavesOnly clock left old new (Turns finished (clock new) (λ c. ImageKeepsMap seg.table.size (bound seg) (map_of seg.places (contents old)) (contents old) c)
    (λ c. GainsValue seg.table.size (bound seg) (map_of seg.places (contents old)) v s given (contents old) c))
put_leaves {M} {clock} {contents} {left} {old} {new} seg is room page at seg_is free v s w main given same shows finished answer is_done crash effect ticks =
    operation_turns finished answer (λ c. ImageKeepsMap seg.table.size (bound seg) (map_of seg.places (contents old)) (contents old) c)
    (λ c. GainsValue seg.table.size (bound seg) (map_of seg.places (contents old)) v s given (contents old) c) is_done crash effect ticks
    (put_either seg is room page at (contents old) seg_is free v s w main given same shows)
    (λ done. put_takes seg is room page at (contents old) seg_is free v s w main given same shows (contents new)
    (leaves_done page (page + 1) (written (page_with main v s w)) (contents old) answer (contents new) done effect))
