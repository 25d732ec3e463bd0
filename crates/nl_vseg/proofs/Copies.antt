-- A cleaning copies the pages of a block one by one.
use Rattle.std.proofs.Common.{◌≡◌, ◌⊎◌, inl, inr, ⊎_elim, ℕ, zero, suc, ◌+◌, ◌-◌, ◌*◌, ◌/◌, ◌%◌, ◌<◌, ◌≤◌, nat_le, Option, Some, None, List, length, get_or, replicate, set, cond, refl, count_by, length-set, sym, ◌∙◌, ap, subst, arith, false}
use Rattle.std.proofs.lemmas.Bool.{cases_eq, cases_lt, cond-false, cond-true, le-leb, lt-leb, true≢false}
use Rattle.std.proofs.lemmas.List.{get_or-set_same, get_or-set_other, get_or_read, length-replicate}
use Rattle.std.proofs.lemmas.List.Sums.{sum_by-cons}
use Rattle.std.proofs.lemmas.Option.{none-some, same_Some}
use Rattle.nl_field.specs.CrashStates.{LeavesOnly}
use Rattle.nl_field.specs.Page.{Page, erased, Image, page_at}
use Rattle.nl_nand.specs.Nand.{CanProgram, Cut, ErasedWithin}
use Rattle.nl_nand.proofs.Crashes.{weaken}
use Rattle.nl_vseg.specs.Pages.{Fact, fact_of, main_of, IsBeside}
use Rattle.nl_vseg.specs.Places.{place_of, value_at, map_of, AreBelow, PlacesShow, IsUnmapped}
use Rattle.nl_vseg.specs.Layout.{Layout, bound, block_is_free, ArePlaces, IsLayout, IsLayoutOf, LayoutHasUnmapped, SameLayoutShape, LayoutTakesAsErased, room}
use Rattle.nl_vseg.specs.Copying.{is_some, target_at, copy_of, AreTargets, ChangedIn, AreMoved, HasHole, IsAt, LeavesHole}
use Rattle.nl_vseg.specs.Effects.{ImageKeepsMap, KeepsMap}
use Rattle.nl_vseg.specs.declared.place.Place.{Place}
use Rattle.nl_vseg.proofs.Passing.{one_passes, not_all_pass}
use Rattle.nl_vseg.proofs.Places.{same_page, block_of, block_below, beside_of, place_here, place_other, set_place, used_more}
use Rattle.nl_vseg.proofs.Images.{shows_nothing, keeps_changed, changed_more}
use Rattle.nl_blocks.specs.Table.{free_count}
use Rattle.nl_vseg.proofs.Blocks.{some_free}
use Rattle.nl_vseg.proofs.Segments.{free_unmapped, holds_same, map_same}

-- what was read of the table of copies
pub copied_at : (targets : List (Option ℕ)) (at : ℕ) (x : Option ℕ) (page : ℕ) → at < length targets → x ≡ get_or targets at x → x ≡ Some page → target_at targets at ≡ Some page
copied_at targets at x page within read is = sym (get_or_read targets at x within read None) ∙ is

pub not_copied : (targets : List (Option ℕ)) (at : ℕ) (x : Option ℕ) → at < length targets → x ≡ get_or targets at x → x ≡ None → target_at targets at ≡ None
not_copied targets at x within read is = sym (get_or_read targets at x within read None) ∙ is

-- one copy more
pub targets_more : {pages target used : ℕ} {targets : List (Option ℕ)} (at : ℕ) → at < pages → target_at targets at ≡ None → AreTargets pages target used targets
    → AreTargets pages target (used + 1) (set targets at (Some (target * pages + used)))
targets_more {pages} {target} {used} {targets} at within none are = record {
  count = length-set targets at (Some (target * pages + used)) ∙ are.count;
  as_many = one_passes is_some targets at (Some (target * pages + used)) None (omega (arith, within, are.count)) (ap is_some none) refl ∙ ap (λ n. n + 1) are.as_many;
  inside = λ k page named. elim (cases_eq k at) [
    | inl is ↦
        let new : target * pages + used ≡ page = same_Some (target * pages + used) page
        (sym (ap (target_at (set targets at (Some (target * pages + used)))) is ∙ get_or-set_same targets at (Some (target * pages + used)) None (omega (arith, within, are.count))) ∙ named) in
        (omega (arith, new), omega (arith, new))
    | inr ne ↦
        let old = are.inside k page (sym (get_or-set_other targets at k (Some (target * pages + used)) None ne) ∙ named) in
        (old.0, omega (arith, old.1))
  ];
}

-- while a page of the victim was not copied, a page of the target is left
pub used_below : {pages victim target used : ℕ} {x : Option Place} {targets : List (Option ℕ)} → AreTargets pages target used targets → LeavesHole pages victim x targets → used < pages
used_below {targets = targets} are hole =
    let short = not_all_pass is_some targets hole.at (Some 0) None (omega (arith, are.count, hole.within)) (ap is_some hole.not_copied) refl in
    omega (arith, short, are.count, are.as_many)

-- the target has room still after one copy more
pub room_left : {pages victim target used : ℕ} {x : Option Place} {targets : List (Option ℕ)} (place : Place) → x ≡ Some place → place.page / pages ≡ victim → 0 < pages
    → AreTargets pages target used targets → LeavesHole pages victim x targets → target_at targets (place.page % pages) ≡ None → used + 1 < pages
room_left {pages} {victim} {target} {used} {x} {targets} place named in_victim some are hole none =
    let within : place.page % pages < pages = omega (arith, some) in
    let more = targets_more (place.page % pages) within none are in
    let apart : hole.at ≡ place.page % pages → ⊥ = λ is. hole.other (record { found = place; named = named; in_victim = in_victim; offset = sym is }) in
    let still : target_at (set targets (place.page % pages) (Some (target * pages + used))) hole.at ≡ None =
    get_or-set_other targets (place.page % pages) hole.at (Some (target * pages + used)) None apart ∙ hole.not_copied in
    let short = not_all_pass is_some (set targets (place.page % pages) (Some (target * pages + used))) hole.at (Some 0) None (omega (arith, more.count, hole.within)) (ap is_some still) refl in
    omega (arith, short, more.count, more.as_many)

-- the next page of the target can be programmed
pub target_program : (target pages used : ℕ) (image : Image) → image.pages ≡ pages → used < pages → ErasedWithin image (target * pages + used) (target * pages + pages) → CanProgram image (target * pages + used)
target_program target pages used image size room erased_is = record {
  block = target;
  from = subst (λ n. target * n ≤ target * pages + used) (sym size) (omega arith);
  below = subst (λ n. target * pages + used < target * n + n) (sym size) (omega (arith, room));
  rest_erased = subst (λ n. ErasedWithin image (target * pages + used) (target * n + n)) (sym size) erased_is;
}

-- which pages were copied, with one more
pub targets_grown : (pages victim at to : ℕ) (place : Place) (x : Option Place) (targets : List (Option ℕ)) → x ≡ Some place → place.page / pages ≡ victim → place.page % pages ≡ at → at < length targets
    → (k page : ℕ) → target_at (set targets at (Some to)) k ≡ Some page → (target_at targets k ≡ Some page) ⊎ IsAt pages victim k x
targets_grown pages victim at to place x targets named in_victim offset within k page is = elim (cases_eq k at) [
  | inl same ↦ inr (record { found = place; named = named; in_victim = in_victim; offset = offset ∙ sym same })
  | inr ne ↦ inl (sym (get_or-set_other targets at k (Some to) None ne) ∙ is)
]

-- nothing was copied
pub no_target : (n at page : ℕ) → target_at (replicate n None) at ≡ Some page → ⊥
no_target zero at page is = none-some page is
no_target (suc n) zero page is = none-some page is
no_target (suc n) (suc at) page is = no_target n at page is

none_passes : (n : ℕ) → count_by is_some (replicate n None) ≡ 0
none_passes zero = refl
none_passes (suc n) =
    let e : count_by is_some (replicate (suc n) None) ≡ 0 + count_by is_some (replicate n None) = sum_by-cons (λ x. cond (is_some x) 1 0) None (replicate n None) in
    let rest : count_by is_some (replicate n None) ≡ 0 = none_passes n in
    omega (arith, e, rest)

pub new_targets : (pages target : ℕ) → AreTargets pages target 0 (replicate pages None)
new_targets pages target = record {
  count = length-replicate pages None;
  as_many = none_passes pages;
  inside = λ at page is. absurd (no_target pages at page is);
}

-- a page of the victim that no address has is left
pub hole_left : {pages victim : ℕ} {targets : List (Option ℕ)} {first : List (Option Place)} (v n : ℕ) → 0 < pages → (hole : HasHole pages victim first)
    → ((at page : ℕ) → target_at targets at ≡ Some page → (u : ℕ) × (u < n) × IsAt pages victim at (place_of first u)) → LeavesHole pages victim (place_of first v) targets
hole_left {pages} {victim} {targets} {first} v n some hole sources = record {
  at = hole.page % pages;
  within = omega (arith, some);
  not_copied = at_hole (target_at targets (hole.page % pages)) refl;
  other = λ is. not_hole v is;
}
  where
    not_hole : (u : ℕ) → IsAt pages victim (hole.page % pages) (place_of first u) → ⊥
    not_hole u is = hole.beside u is.found is.named (same_page is.found.page hole.page pages (is.in_victim ∙ sym hole.inside) is.offset)

    at_hole : (x : Option ℕ) → target_at targets (hole.page % pages) ≡ x → target_at targets (hole.page % pages) ≡ None
    at_hole None is = is
    at_hole (Some page) is = let s = sources (hole.page % pages) page is in absurd (not_hole s.0 s.2)

-- a page that was copied is not that of another address
pub fresh_page : (pages victim : ℕ) (targets : List (Option ℕ)) (first : List (Option Place)) (image : Image) (v : ℕ) → PlacesShow image first
    → ((at page : ℕ) → target_at targets at ≡ Some page → (u : ℕ) × (u < v) × IsAt pages victim at (place_of first u))
    → (at page : ℕ) → target_at targets at ≡ Some page → IsAt pages victim at (place_of first v) → ⊥
fresh_page pages victim targets first image v holds sources at page copied is =
    let s = sources at page copied in
    let other = s.2 in
    let same : other.found.page ≡ is.found.page = same_page other.found.page is.found.page pages (other.in_victim ∙ sym is.in_victim) (other.offset ∙ sym is.offset) in
    let e = sym (holds s.0 other.found other.named) ∙ (ap (λ n. fact_of (page_at image n)) same ∙ holds v is.found is.named) in
    let u_is : s.0 ≡ v = ap (λ (x : Fact). x.0) (same_Some (s.0, other.found.stamp, main_of (page_at image other.found.page)) (v, is.found.stamp, main_of (page_at image is.found.page)) e) in
    omega (arith, s.1, u_is)

module _ (pages target used to v : ℕ) (place : Place) (copies : List (Option Place)) (old c : Image) (at : to ≡ target * pages + used) (room : used < pages) (within : v < length copies)
    (named : place_of copies v ≡ Some place) (holds : PlacesShow old copies) (erased_is : ErasedWithin old (target * pages + used) (target * pages + pages)) (w : ℕ) where
  to_blank : page_at old to ≡ erased
  to_blank = erased_is to (omega (arith, at)) (omega (arith, at, room))

  module _ (cut : Cut to (to + 1) (copy_of (page_at old place.page) v place.stamp w) old c) where
    stays : (p : ℕ) → (p ≡ to → ⊥) → page_at c p ≡ page_at old p
    stays p ne = ⊎_elim (λ same. same) (λ in_range. absurd (ne (omega (arith, in_range.0, in_range.1)))) (cut.each p)

    place_stays : (u : ℕ) (q : Place) → place_of copies u ≡ Some q → page_at c q.page ≡ page_at old q.page
    place_stays u q there = stays q.page (λ is. shows_nothing (page_at old q.page) (u, q.stamp, main_of (page_at old q.page)) (ap (page_at old) is ∙ to_blank) (holds u q there))

    module _ (new_is : page_at c to ≡ copy_of (page_at old place.page) v place.stamp w) (copied : fact_of (copy_of (page_at old place.page) v place.stamp w) ≡ fact_of (page_at old place.page)) where
      pub copied_holds : PlacesShow c (set copies v (Some (record { page = to; stamp = place.stamp })))
      copied_holds u q there = at_place u q (set_place copies v (record { page = to; stamp = place.stamp }) within u q there)
        where
          at_place : (u : ℕ) (q : Place) → ((u ≡ v) × (◌≡◌ {A = Place} (record { page = to; stamp = place.stamp }) q)) ⊎ ((u ≡ v → ⊥) × (place_of copies u ≡ Some q))
              → fact_of (page_at c q.page) ≡ Some (u, q.stamp, main_of (page_at c q.page))
          at_place u q (inl here) =
              let P : Place → Type 0 = λ x. fact_of (page_at c x.page) ≡ Some (u, x.stamp, main_of (page_at c x.page)) in
              let Q : Page → Type 0 = λ x. fact_of x ≡ Some (u, place.stamp, main_of x) in
              subst P here.1 (subst Q (sym new_is) (copied ∙ (holds v place named ∙ ap (λ n. Some (n, place.stamp, main_of (page_at old place.page))) (sym here.0))))
          at_place u q (inr there) =
              let Q : Page → Type 0 = λ x. fact_of x ≡ Some (u, q.stamp, main_of x) in
              subst Q (sym (place_stays u q there.1)) (holds u q there.1)

      pub copied_map : (u : ℕ) → map_of (set copies v (Some (record { page = to; stamp = place.stamp }))) c u ≡ map_of copies old u
      copied_map u = elim (cases_eq u v) [
        | inl same ↦ ap (value_at c) (place_here copies v u (Some (record { page = to; stamp = place.stamp })) within same) ∙ (ap (λ q. Some (place.stamp, main_of q)) new_is
            ∙ sym (ap (value_at old) (ap (place_of copies) same ∙ named)))
        | inr ne ↦ ap (value_at c) (place_other copies v u (Some (record { page = to; stamp = place.stamp })) ne) ∙ map_same copies old c place_stays u
      ]

    pub copied_erased : ErasedWithin c (target * pages + (used + 1)) (target * pages + pages)
    copied_erased p from below = stays p (λ is. omega (arith, is, at, from)) ∙ erased_is p (omega (arith, from)) below

  pub copied_changed : (first : List (Option Place)) (image : Image) → place_of first v ≡ place_of copies v → IsUnmapped pages first target → ChangedIn pages target first image old
      → fact_of (copy_of (page_at old place.page) v place.stamp w) ≡ fact_of (page_at old place.page)
      → Cut to (to + 1) (copy_of (page_at old place.page) v place.stamp w) old c → ChangedIn pages target first image c
  copied_changed first image same unmapped changed copied cut =
      changed_more to v place (copy_of (page_at old place.page) v place.stamp w) changed (same ∙ named) (unmapped v place (same ∙ named)) copied (omega (arith, at)) (omega (arith, at, room)) cut

-- the copies take the place of the map
pub moved_segment : (seg : Layout) (copies : List (Option Place)) (used victim wide : ℕ) → IsLayout seg → seg.used < seg.table.size → used ≤ seg.table.size → length copies ≡ length seg.places
    → ArePlaces seg.table.size wide seg.active used copies → AreMoved seg.table.size victim seg.active used seg.places copies → IsLayout (record seg { places = copies; used = used })
moved_segment seg copies used victim wide is room fits count are moved = record {
  first = is.first;
  some = is.some;
  numbers = is.numbers;
  marks = is.marks;
  few = subst (λ n. n + 4 * seg.table.size ≤ length seg.table.blocks * seg.table.size) (sym count) is.few;
  active_is = is.active_is;
  used_fits = fits;
  taken = λ lt. is.taken room;
  places_are = record {
    each = λ v place named.
        let are_is = are.each v place named in
        record { within = below v place named (moved.each v place named); behind = are_is.behind; spelled = are_is.spelled };
  };
  in_use = λ v place named. in_use v place (moved.each v place named);
}
  where
    below : (v : ℕ) (place : Place) → place_of copies v ≡ Some place → ((place_of seg.places v ≡ Some place) × (place.page / seg.table.size ≡ victim → ⊥))
        ⊎ ((seg.active * seg.table.size ≤ place.page) × (place.page < seg.active * seg.table.size + used)) → place.page < bound seg
    below v place named (inl was) = (is.places_are.each v place was.0).within
    below v place named (inr new) = let e = block_below seg.active (length seg.table.blocks) seg.table.size is.active_is in omega (arith, e, new.1, fits)

    in_use : (v : ℕ) (place : Place) → ((place_of seg.places v ≡ Some place) × (place.page / seg.table.size ≡ victim → ⊥))
        ⊎ ((seg.active * seg.table.size ≤ place.page) × (place.page < seg.active * seg.table.size + used)) → block_is_free seg.table (place.page / seg.table.size) ≡ false
    in_use v place (inl was) = is.in_use v place was.0
    in_use v place (inr new) = ap (block_is_free seg.table) (block_of place.page seg.table.size seg.active new.0 (omega (arith, new.1, fits))) ∙ is.taken room

-- once all pages are moved, the victim holds no page of the map
pub moved_unmapped : (pages victim target used : ℕ) (old new : List (Option Place)) → (target ≡ victim → ⊥) → used ≤ pages → AreMoved pages victim target used old new → IsUnmapped pages new victim
moved_unmapped pages victim target used old new ne fits moved v place named = ⊎_elim
    (λ was. beside_of place.page pages victim was.1)
    (λ now. beside_of place.page pages victim (λ is. ne (sym (block_of place.page pages target now.0 (omega (arith, now.1, fits))) ∙ is)))
    (moved.each v place named)

-- an image of the segment with the copies
pub moved_image : (seg : Layout) (copies : List (Option Place)) (used : ℕ) (old c : Image) → IsLayout seg → seg.used < seg.table.size → IsLayoutOf old seg → PlacesShow c copies
    → ErasedWithin c (seg.active * seg.table.size + used) (seg.active * seg.table.size + seg.table.size)
    → ((p : ℕ) → IsBeside seg.table.size seg.active p → page_at c p ≡ page_at old p) → IsLayoutOf c (record seg { places = copies; used = used })
moved_image seg copies used old c is room seg_is holds blank same = record {
  holds = holds;
  blank = λ p taken. ⊎_elim
      (λ next. blank p next.0 next.1)
      (λ free. same p (beside_of p seg.table.size seg.active (λ at. true≢false (sym free.0 ∙ (ap (block_is_free seg.table) at ∙ is.taken room)))) ∙ seg_is.blank p (taken.0, inr free))
      taken.1;
}

-- changes in a block without a page of the map, of which nothing is taken as erased
pub given_image : (seg new : Layout) (old c : Image) → new.places ≡ seg.places → IsUnmapped seg.table.size seg.places seg.active → IsLayoutOf old seg
    → ((p : ℕ) → LayoutTakesAsErased new p → LayoutTakesAsErased seg p × (p / seg.table.size ≡ seg.active → ⊥))
    → ((p : ℕ) → IsBeside seg.table.size seg.active p → page_at c p ≡ page_at old p) → IsLayoutOf c new
given_image seg new old c places unmapped seg_is taken same = record {
  holds = subst (PlacesShow c) (sym places) (holds_same seg.places old c seg_is.holds (λ v place named. same place.page (unmapped v place named)));
  blank = λ p t. let e = taken p t in same p (beside_of p seg.table.size seg.active e.1) ∙ seg_is.blank p e.0;
}

-- the copies, or what there is of them, leave the map
pub changed_keeps : {M : Type 0} {clock : M → ℕ} {contents : M → Image} {left : M → ℕ → Image → Type 0} {old new : M} (pages count block : ℕ) (places : List (Option Place)) (map_new : ℕ → Option (ℕ × List ℕ))
    → block < count → PlacesShow (contents old) places → AreBelow (count * pages) places → IsUnmapped pages places block
    → ((v : ℕ) → map_new v ≡ map_of places (contents old) v)
    → ChangedIn pages block places (contents old) (contents new)
    → LeavesOnly clock left old new (λ m c. ChangedIn pages block places (contents old) c)
    → KeepsMap clock contents left pages (count * pages) (map_of places (contents old)) map_new old new
changed_keeps {M} {clock} {contents} {left} {old} {new} pages count block places map_new within holds below unmapped same changed crash = record {
  same = same;
  keeps = keeps_changed pages (count * pages) places (contents old) holds below block (block_below block count pages within) unmapped (contents new) changed;
  crash = weaken (λ m c. ChangedIn pages block places (contents old) c) (λ m c. ImageKeepsMap pages (count * pages) (map_of places (contents old)) (contents old) c) crash
      (λ m c from to is. keeps_changed pages (count * pages) places (contents old) holds below block (block_below block count pages within) unmapped c is);
}

-- places below a bound are below a greater one
pub widen : {pages below active used : ℕ} {places : List (Option Place)} (wide : ℕ) → below ≤ wide → ArePlaces pages below active used places → ArePlaces pages wide active used places
widen wide le are = record {
  each = λ v place named. let is = are.each v place named in record { within = omega (arith, is.within, le); behind = is.behind; spelled = is.spelled };
}

-- a block of which no page is used is erased
pub next_blank : (seg : Layout) (image : Image) → IsLayout seg → seg.used ≡ 0 → IsLayoutOf image seg → ErasedWithin image (seg.active * seg.table.size) (seg.active * seg.table.size + seg.table.size)
next_blank seg image is begins seg_is p from below =
    let e = block_below seg.active (length seg.table.blocks) seg.table.size is.active_is in
    seg_is.blank p (omega (arith, e, below), inl (omega (arith, from, begins), below))

-- more pages of the active block are used
pub used_segment : (seg : Layout) (used : ℕ) → IsLayout seg → seg.used < seg.table.size → seg.used ≤ used → used ≤ seg.table.size → IsLayout (record seg { used = used })
used_segment seg used is room more fits = record {
  first = is.first;
  some = is.some;
  numbers = is.numbers;
  marks = is.marks;
  few = is.few;
  active_is = is.active_is;
  used_fits = fits;
  taken = λ lt. is.taken room;
  places_are = used_more used more is.places_are;
  in_use = is.in_use;
}

-- all pages of the active block count as used
pub closed_segment : (seg : Layout) (used : ℕ) → IsLayout seg → used ≡ seg.table.size → IsLayout (record seg { used = used })
closed_segment seg used is full = record {
  first = is.first;
  some = is.some;
  numbers = is.numbers;
  marks = is.marks;
  few = is.few;
  active_is = is.active_is;
  used_fits = omega (arith, full);
  taken = λ lt. absurd (omega (arith, full, lt));
  places_are = used_more used (omega (arith, full, is.used_fits)) is.places_are;
  in_use = is.in_use;
}

-- what is taken as erased beside the active block, whatever is used of that
pub taken_beside : (seg : Layout) (used : ℕ) (p : ℕ) → LayoutTakesAsErased (record seg { used = used }) p → (p / seg.table.size ≡ seg.active → ⊥) → LayoutTakesAsErased seg p
taken_beside seg used p taken ne = (taken.0, ⊎_elim (λ next. absurd (ne (block_of p seg.table.size seg.active (omega (arith, next.0)) next.1))) (λ free. inr free) taken.1)

-- where a block is Free, some block holds no page of the map
pub free_spare : (seg : Layout) → IsLayout seg → 1 ≤ free_count seg.table → LayoutHasUnmapped seg
free_spare seg is some =
    let free = some_free seg.table is.first some in
    record { block = free.0; within = free.1; unmapped = free_unmapped seg is free.0 free.2 }

-- where there is room, a block is Free
pub room_free : (seg : Layout) → 0 < room seg → 1 ≤ free_count seg.table
room_free seg some = elim (cases_lt 0 (free_count seg.table)) [
  | inl lt ↦ omega (arith, lt)
  | inr none ↦
      let none_is : nat_le 1 (free_count seg.table) ≡ false = lt-leb 1 (free_count seg.table) (omega (arith, none)) in
      let zero : room seg ≡ 0 = cond-false (nat_le 1 (free_count seg.table)) ((seg.table.size - seg.used) + (free_count seg.table - 1) * seg.table.size) 0 none_is in
      absurd (omega (arith, zero, some))
]

-- where there is room and each page of the active block is used, two blocks are Free
pub full_room : (seg : Layout) → seg.used ≡ seg.table.size → 0 < room seg → 2 ≤ free_count seg.table
full_room seg full some = elim (cases_lt 1 (free_count seg.table)) [
  | inl lt ↦ omega (arith, lt)
  | inr few ↦
      let least = room_free seg some in
      let one : free_count seg.table ≡ 1 = omega (arith, few, least) in
      let is : room seg ≡ (seg.table.size - seg.used) + (free_count seg.table - 1) * seg.table.size = cond-true (nat_le 1 (free_count seg.table)) ((seg.table.size - seg.used) + (free_count seg.table - 1) * seg.table.size) 0 (le-leb 1 (free_count seg.table) least) in
      let rest : free_count seg.table - 1 ≡ 0 = omega (arith, one) in
      let none : (free_count seg.table - 1) * seg.table.size ≡ 0 * seg.table.size = ap (λ n. n * seg.table.size) rest in
      absurd (omega (arith, is, none, full, some))
]

-- once one of them is the active one there is as much room
pub opened_room : (old new : Layout) → old.used ≡ old.table.size → 2 ≤ free_count old.table → new.used ≡ 0 → new.table.size ≡ old.table.size → free_count new.table + 1 ≡ free_count old.table → room new ≡ room old
opened_room old new full two begins size less =
    let was : room old ≡ (old.table.size - old.used) + (free_count old.table - 1) * old.table.size = cond-true (nat_le 1 (free_count old.table)) ((old.table.size - old.used) + (free_count old.table - 1) * old.table.size) 0 (le-leb 1 (free_count old.table) (omega (arith, two))) in
    let is : room new ≡ (new.table.size - new.used) + (free_count new.table - 1) * new.table.size = cond-true (nat_le 1 (free_count new.table)) ((new.table.size - new.used) + (free_count new.table - 1) * new.table.size) 0 (le-leb 1 (free_count new.table) (omega (arith, two, less))) in
    let more : free_count old.table - 1 ≡ (free_count new.table - 1) + 1 = omega (arith, two, less) in
    let product : (free_count old.table - 1) * old.table.size ≡ ((free_count new.table - 1) + 1) * old.table.size = ap (λ n. n * old.table.size) more in
    let same : (free_count new.table - 1) * new.table.size ≡ (free_count new.table - 1) * old.table.size = ap (λ n. (free_count new.table - 1) * n) size in
    omega (arith, was, is, product, same, full, begins, size)

-- what holds with the numbers of one segment holds with those of another of its shape
pub resized : (P : ℕ → ℕ → Type 0) (old new : Layout) → SameLayoutShape old new → P new.table.size (bound new) → P old.table.size (bound old)
resized P old new same is = subst (λ n. P n (bound old)) same.pages (subst (P new.table.size) (λ i. same.blocks i * same.pages i) is)
