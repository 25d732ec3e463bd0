-- How segments and their images go on.
use Rattle.std.proofs.Common.{◌≡◌, ◌⊎◌, inl, inr, ⊎_elim, ℕ, ◌+◌, ◌-◌, ◌*◌, ◌/◌, ◌<◌, ◌≤◌, nat_le, cond, Bool, true, false, Option, Some, None, List, length, get_or, set, refl, sym, ◌∙◌, ap, subst, arith, true≢false, ◌^◌, IsTrue, length-set}
use Rattle.std.proofs.lemmas.Bool.{cases_eq}
use Rattle.std.proofs.lemmas.List.{get_or-set_same, get_or-set_other}
use Rattle.nl_field.specs.Spelling.{is_stamp}
use Rattle.nl_field.specs.Page.{Page, erased, Image, page_at}
use Rattle.nl_nand.specs.declared.answers.WriteAnswer.{WriteAnswer}
use Rattle.nl_nand.specs.Nand.{Cut, Filled, OperationLeaves, CrashLeaves}
use Rattle.nl_nand.proofs.Crashes.{outside, operation, leaves_cut}
use Rattle.nl_blocks.specs.Table.{Table}
use Rattle.nl_vseg.specs.Pages.{fact_of, main_of, IsBeside}
use Rattle.nl_vseg.specs.Places.{place_of, value_at, map_of, IsUnmapped, PlacesShow, AreBelow}
use Rattle.nl_vseg.specs.Layout.{Layout, bound, is_soiled, block_is_free, IsNextOfActive, LayoutTakesAsErased, IsLayoutOf, ArePlaces, IsLayout, room}
use Rattle.nl_vseg.specs.Copying.{SameBlockNumbers, SameFreeBlocks, SetsFree}
use Rattle.nl_vseg.specs.Effects.{ImageKeepsMap, KeepsMap}
use Rattle.nl_vseg.specs.declared.place.Place.{Place}
use Rattle.nl_vseg.proofs.Places.{in_block, block_of, beside_of, not_beside, block_below, behind_of, placed, set_place}
use Rattle.nl_vseg.proofs.Images.{keeps_erase, keeps_same}

-- what a segment takes as erased, in the numbers of another one
pub taken_cases : (seg : Layout) (pages count : ℕ) → seg.table.size ≡ pages → length seg.table.blocks ≡ count → (p : ℕ) → LayoutTakesAsErased seg p
    → (p < count * pages) × (((seg.active * pages + seg.used ≤ p) × (p < seg.active * pages + pages)) ⊎ ((block_is_free seg.table (p / pages) ≡ true) × (is_soiled seg (p / pages) ≡ false)))
taken_cases seg pages count size_is count_is p taken =
    let P : ℕ → ℕ → Type 0 = λ s n. (p < n * s) × (((seg.active * s + seg.used ≤ p) × (p < seg.active * s + s)) ⊎ ((block_is_free seg.table (p / s) ≡ true) × (is_soiled seg (p / s) ≡ false))) in
    subst (λ s. P s count) size_is (subst (P seg.table.size) count_is taken)

-- a block became Free
pub freed_taken : (old new : Layout) (block : ℕ) (soiled : Bool) → 0 < old.table.size → length old.soiled ≡ length old.table.blocks → SetsFree block true old.table new.table
    → new.soiled ≡ set old.soiled block soiled → new.active ≡ old.active → new.used ≡ old.used → block < length old.table.blocks
    → (old.used < old.table.size → block ≡ old.active → ⊥) → (p : ℕ) → LayoutTakesAsErased new p
    → (p / old.table.size ≡ block → soiled ≡ false) × ((p / old.table.size ≡ block → ⊥) → LayoutTakesAsErased old p)
freed_taken old new block soiled some marks restated soiled_is active_is used_is within idle p taken = (here n.1, elsewhere n.1)
  where
    n : (p < length old.table.blocks * old.table.size) × (((new.active * old.table.size + new.used ≤ p) × (p < new.active * old.table.size + old.table.size)) ⊎ ((block_is_free new.table (p / old.table.size) ≡ true) × (is_soiled new (p / old.table.size) ≡ false)))
    n = taken_cases new old.table.size (length old.table.blocks) restated.numbers.same_size restated.numbers.same_count p taken

    next : (new.active * old.table.size + new.used ≤ p) × (p < new.active * old.table.size + old.table.size) → IsNextOfActive old p
    next x = (subst (λ a. a * old.table.size + old.used ≤ p) active_is (subst (λ u. new.active * old.table.size + u ≤ p) used_is x.0), subst (λ a. p < a * old.table.size + old.table.size) active_is x.1)

    here : ((new.active * old.table.size + new.used ≤ p) × (p < new.active * old.table.size + old.table.size)) ⊎ ((block_is_free new.table (p / old.table.size) ≡ true) × (is_soiled new (p / old.table.size) ≡ false)) → p / old.table.size ≡ block → soiled ≡ false
    here (inl x) is =
        let y = next x in
        let from : old.active * old.table.size ≤ p = omega (arith, y.0) in
        let room : old.used < old.table.size = omega (arith, y.0, y.1) in
        absurd (idle room (sym is ∙ block_of p old.table.size old.active from y.1))
    here (inr x) is =
        let e : is_soiled new block ≡ soiled = ap (λ (l : List Bool). get_or l block false) soiled_is ∙ get_or-set_same old.soiled block soiled false (omega (arith, marks, within)) in
        sym e ∙ (ap (is_soiled new) (sym is) ∙ x.1)

    elsewhere : ((new.active * old.table.size + new.used ≤ p) × (p < new.active * old.table.size + old.table.size)) ⊎ ((block_is_free new.table (p / old.table.size) ≡ true) × (is_soiled new (p / old.table.size) ≡ false)) → (p / old.table.size ≡ block → ⊥) → LayoutTakesAsErased old p
    elsewhere (inl x) ne = (n.0, inl (next x))
    elsewhere (inr x) ne =
        let e : is_soiled new (p / old.table.size) ≡ is_soiled old (p / old.table.size) =
        ap (λ (l : List Bool). get_or l (p / old.table.size) false) soiled_is ∙ get_or-set_other old.soiled block (p / old.table.size) soiled false ne in
        (n.0, inr (sym (restated.others (p / old.table.size) ne) ∙ x.0, sym e ∙ x.1))

-- the places hold what they held where their pages stay
pub holds_same : (places : List (Option Place)) (old c : Image) → PlacesShow old places → ((v : ℕ) (place : Place) → place_of places v ≡ Some place → page_at c place.page ≡ page_at old place.page) → PlacesShow c places
holds_same places old c holds same v place named =
    let P : Page → Type 0 = λ page. fact_of page ≡ Some (v, place.stamp, main_of page) in
    subst P (sym (same v place named)) (holds v place named)

pub map_same : (places : List (Option Place)) (old c : Image) → ((v : ℕ) (place : Place) → place_of places v ≡ Some place → page_at c place.page ≡ page_at old place.page) → (v : ℕ) → map_of places c v ≡ map_of places old v
map_same places old c same v = at (place_of places v) refl
  where
    at : (x : Option Place) → place_of places v ≡ x → value_at c x ≡ value_at old x
    at None named = refl
    at (Some place) named = ap (λ page. Some (place.stamp, main_of page)) (same v place named)

module _ (block g pages : ℕ) {old c : Image} (is : g ≡ pages) where
  pub erased_inside : Filled (block * g) (block * g + g) erased old c → 0 < pages → (p : ℕ) → p / pages ≡ block → page_at c p ≡ erased
  erased_inside filled some p at =
      let within = in_block p pages block some at in
      filled.inside p (subst (λ n. block * n ≤ p) (sym is) within.0) (subst (λ n. p < block * n + n) (sym is) within.1)

  pub erased_outside : Cut (block * g) (block * g + g) erased old c → (p : ℕ) → IsBeside pages block p → page_at c p ≡ page_at old p
  erased_outside cut p beside = outside cut p (subst (λ n. IsBeside n block p) (sym is) beside)

  pub cut_pages : Cut (block * g) (block * g + g) erased old c → Cut (block * pages) (block * pages + pages) erased old c
  cut_pages cut = subst (λ n. Cut (block * n) (block * n + n) erased old c) is cut

-- an erase of a block without a page of the map leaves the map
pub erase_keeps : {M : Type 0} {clock : M → ℕ} {contents : M → Image} {left : M → ℕ → Image → Type 0} {old new : M} (block g pages count : ℕ) (places : List (Option Place)) (answer : WriteAnswer)
    → g ≡ pages → block < count → PlacesShow (contents old) places → AreBelow (count * pages) places → IsUnmapped pages places block
    → CrashLeaves clock contents left (block * g) (block * g + g) erased old new
    → OperationLeaves (block * g) (block * g + g) erased (contents old) answer (contents new)
    → KeepsMap clock contents left pages (count * pages) (map_of places (contents old)) (map_of places (contents new)) old new
erase_keeps {M} {clock} {contents} {left} {old} {new} block g pages count places answer is within holds below unmapped crash effect = record {
  same = map_same places (contents old) (contents new) (λ v place named. erased_outside block g pages is (leaves_cut (block * g) (block * g + g) erased (contents old) answer (contents new) effect) place.page (unmapped v place named));
  keeps = one (contents new) (leaves_cut (block * g) (block * g + g) erased (contents old) answer (contents new) effect);
  crash = operation answer (λ c. ImageKeepsMap pages (count * pages) (map_of places (contents old)) (contents old) c) crash effect one;
}
  where
    one : (c : Image) → Cut (block * g) (block * g + g) erased (contents old) c → ImageKeepsMap pages (count * pages) (map_of places (contents old)) (contents old) c
    one c cut = keeps_erase pages (count * pages) places (contents old) holds below block (block_below block count pages within) unmapped c (cut_pages block g pages is cut)

-- no call
pub keeps_nothing : {M : Type 0} {clock : M → ℕ} {contents : M → Image} {left : M → ℕ → Image → Type 0} (s : M) (block pages count : ℕ) (places : List (Option Place))
    → block < count → PlacesShow (contents s) places → AreBelow (count * pages) places → IsUnmapped pages places block
    → KeepsMap clock contents left pages (count * pages) (map_of places (contents s)) (map_of places (contents s)) s s
keeps_nothing {M} {clock} {contents} {left} s block pages count places within holds below unmapped = record {
  same = λ v. refl;
  keeps = keeps_same pages (count * pages) places (contents s) holds below block (block_below block count pages within) unmapped;
  crash = record { later = omega arith; each = λ m c l. inl l };
}

pub below_of : (seg : Layout) → IsLayout seg → AreBelow (bound seg) seg.places
below_of seg is v place named = (is.places_are.each v place named).within

-- a Free block has no page of the map
pub free_unmapped : (seg : Layout) → IsLayout seg → (block : ℕ) → block_is_free seg.table block ≡ true → IsUnmapped seg.table.size seg.places block
free_unmapped seg is block free v place named = beside_of place.page seg.table.size block
    (λ at. true≢false (sym free ∙ (ap (block_is_free seg.table) (sym at) ∙ is.in_use v place named)))

-- an erase of a block without a page of the map leaves an image of the segment
pub erase_segment : (old new : Layout) (block g : ℕ) (soiled : Bool) (before after : Image) → 0 < old.table.size → g ≡ old.table.size → new.places ≡ old.places
    → IsUnmapped old.table.size old.places block → Cut (block * g) (block * g + g) erased before after
    → (soiled ≡ false → Filled (block * g) (block * g + g) erased before after)
    → ((p : ℕ) → LayoutTakesAsErased new p → (p / old.table.size ≡ block → soiled ≡ false) × ((p / old.table.size ≡ block → ⊥) → LayoutTakesAsErased old p))
    → IsLayoutOf before old → IsLayoutOf after new
erase_segment old new block g soiled before after some is places unmapped cut done taken seg = record {
  holds = subst (PlacesShow after) (sym places) (holds_same old.places before after seg.holds (λ v place named. erased_outside block g old.table.size is cut place.page (unmapped v place named)));
  blank = λ p t. blank p (taken p t) (cases_eq (p / old.table.size) block);
}
  where
    blank : (p : ℕ) → (p / old.table.size ≡ block → soiled ≡ false) × ((p / old.table.size ≡ block → ⊥) → LayoutTakesAsErased old p)
        → (p / old.table.size ≡ block) ⊎ (p / old.table.size ≡ block → ⊥) → page_at after p ≡ erased
    blank p e (inl at) = erased_inside block g old.table.size is (done (e.0 at)) some p at
    blank p e (inr ne) = erased_outside block g old.table.size is cut p (beside_of p old.table.size block ne) ∙ seg.blank p (e.1 ne)

-- the same image, where less is taken as erased
pub segment_fewer : (old new : Layout) (image : Image) → new.places ≡ old.places → ((p : ℕ) → LayoutTakesAsErased new p → LayoutTakesAsErased old p) → IsLayoutOf image old → IsLayoutOf image new
segment_fewer old new image places fewer seg = record {
  holds = subst (PlacesShow image) (sym places) seg.holds;
  blank = λ p taken. seg.blank p (fewer p taken);
}

-- a block is out of what is taken as erased
pub taken_without : (old new : Layout) (block : ℕ) → SameBlockNumbers old.table new.table → new.active ≡ old.active → new.used ≡ old.used
    → ((b : ℕ) → block_is_free new.table b ≡ true → is_soiled new b ≡ false → (b ≡ block → ⊥) × (block_is_free old.table b ≡ true) × (is_soiled old b ≡ false))
    → (old.used < old.table.size → block ≡ old.active → ⊥)
    → (p : ℕ) → LayoutTakesAsErased new p → LayoutTakesAsErased old p × (p / old.table.size ≡ block → ⊥)
taken_without old new block numbers active_is used_is free idle p taken = cases n.1
  where
    n : (p < length old.table.blocks * old.table.size) × (((new.active * old.table.size + new.used ≤ p) × (p < new.active * old.table.size + old.table.size))
        ⊎ ((block_is_free new.table (p / old.table.size) ≡ true) × (is_soiled new (p / old.table.size) ≡ false)))
    n = taken_cases new old.table.size (length old.table.blocks) numbers.same_size numbers.same_count p taken

    next : (new.active * old.table.size + new.used ≤ p) × (p < new.active * old.table.size + old.table.size) → IsNextOfActive old p
    next x = (subst (λ a. a * old.table.size + old.used ≤ p) active_is (subst (λ u. new.active * old.table.size + u ≤ p) used_is x.0), subst (λ a. p < a * old.table.size + old.table.size) active_is x.1)

    cases : ((new.active * old.table.size + new.used ≤ p) × (p < new.active * old.table.size + old.table.size))
        ⊎ ((block_is_free new.table (p / old.table.size) ≡ true) × (is_soiled new (p / old.table.size) ≡ false)) → LayoutTakesAsErased old p × (p / old.table.size ≡ block → ⊥)
    cases (inl x) =
        let y = next x in
        let from : old.active * old.table.size ≤ p = omega (arith, y.0) in
        let room : old.used < old.table.size = omega (arith, y.0, y.1) in
        ((n.0, inl y), λ is. idle room (sym is ∙ block_of p old.table.size old.active from y.1))
    cases (inr x) =
        let f = free (p / old.table.size) x.0 x.1 in
        ((n.0, inr (f.1, f.2)), f.0)

-- an address got a page of a block that is in use now, and is not written to
pub loaded : (old : Layout) (table : Table) (block v : ℕ) (new : Place) → IsLayout old → SetsFree block false old.table table → new.page / old.table.size ≡ block → new.page < bound old → IsTrue (is_stamp new.stamp)
    → v < length old.places → (old.used < old.table.size → block ≡ old.active → ⊥)
    → IsLayout (record old { places = set old.places v (Some new); table = table })
loaded old table block v new is restated at below spelled within idle = record {
  first = restated.numbers.same_first ∙ is.first;
  some = subst (λ n. 0 < n) (sym restated.numbers.same_size) is.some;
  numbers = subst (λ n. n < 2 ^ 32) (sym bound_same) is.numbers;
  marks = is.marks ∙ sym restated.numbers.same_count;
  few = subst (λ n. n + 4 * table.size ≤ length table.blocks * table.size) (sym (length-set old.places v (Some new)))
      (subst (λ n. length old.places + 4 * n ≤ length table.blocks * table.size) (sym restated.numbers.same_size) (subst (λ n. length old.places + 4 * old.table.size ≤ n) (sym bound_same) is.few));
  active_is = subst (λ n. old.active < n) (sym restated.numbers.same_count) is.active_is;
  used_fits = subst (λ n. old.used ≤ n) (sym restated.numbers.same_size) is.used_fits;
  taken = λ lt. ⊎_elim
      (λ same. ap (block_is_free table) same ∙ restated.here)
      (λ ne. restated.others old.active ne ∙ is.taken (subst (λ n. old.used < n) restated.numbers.same_size lt))
      (cases_eq old.active block);
  places_are = subst (λ n. ArePlaces table.size n old.active old.used (set old.places v (Some new))) (sym bound_same)
      (subst (λ n. ArePlaces n (bound old) old.active old.used (set old.places v (Some new))) (sym restated.numbers.same_size)
      (placed old.table.size (bound old) old.active old.used old.places v new within
      (record { within = below; behind = behind_of old.table.size old.active old.used new.page block is.used_fits at idle; spelled = spelled }) is.places_are));
  in_use = λ u place named. subst (λ n. block_is_free table (place.page / n) ≡ false) (sym restated.numbers.same_size) (in_use u place (set_place old.places v new within u place named));
}
  where
    bound_same : length table.blocks * table.size ≡ length old.table.blocks * old.table.size
    bound_same i = restated.numbers.same_count i * restated.numbers.same_size i

    used_at : (b : ℕ) → block_is_free old.table b ≡ false → block_is_free table b ≡ false
    used_at b was = ⊎_elim (λ same. ap (block_is_free table) same ∙ restated.here) (λ ne. restated.others b ne ∙ was) (cases_eq b block)

    in_use : (u : ℕ) (place : Place) → ((u ≡ v) × (new ≡ place)) ⊎ ((u ≡ v → ⊥) × (place_of old.places u ≡ Some place)) → block_is_free table (place.page / old.table.size) ≡ false
    in_use u place (inl here) = ap (block_is_free table) (ap (λ (q : Place). q.page / old.table.size) (sym here.1) ∙ at) ∙ restated.here
    in_use u place (inr there) = used_at (place.page / old.table.size) (is.in_use u place there.1)

-- a block is Free now that holds no page of the map and is not written to
pub freed : (old : Layout) (table : Table) (soiled : List Bool) (block : ℕ) → IsLayout old → SetsFree block true old.table table → length soiled ≡ length old.soiled
    → (old.used < old.table.size → block ≡ old.active → ⊥) → IsUnmapped old.table.size old.places block → IsLayout (record old { table = table; soiled = soiled })
freed old table soiled block is restated marks idle unmapped = record {
  first = restated.numbers.same_first ∙ is.first;
  some = subst (λ n. 0 < n) (sym restated.numbers.same_size) is.some;
  numbers = subst (λ n. n < 2 ^ 32) (sym bound_same) is.numbers;
  marks = marks ∙ (is.marks ∙ sym restated.numbers.same_count);
  few = subst (λ n. length old.places + 4 * n ≤ length table.blocks * table.size) (sym restated.numbers.same_size) (subst (λ n. length old.places + 4 * old.table.size ≤ n) (sym bound_same) is.few);
  active_is = subst (λ n. old.active < n) (sym restated.numbers.same_count) is.active_is;
  used_fits = subst (λ n. old.used ≤ n) (sym restated.numbers.same_size) is.used_fits;
  taken = λ lt.
      let more : old.used < old.table.size = subst (λ n. old.used < n) restated.numbers.same_size lt in
      restated.others old.active (λ same. idle more (sym same)) ∙ is.taken more;
  places_are = subst (λ n. ArePlaces table.size n old.active old.used old.places) (sym bound_same)
      (subst (λ n. ArePlaces n (bound old) old.active old.used old.places) (sym restated.numbers.same_size) is.places_are);
  in_use = λ v place named. subst (λ n. block_is_free table (place.page / n) ≡ false) (sym restated.numbers.same_size)
      (restated.others (place.page / old.table.size) (not_beside place.page old.table.size block is.some (unmapped v place named)) ∙ is.in_use v place named);
}
  where
    bound_same : length table.blocks * table.size ≡ length old.table.blocks * old.table.size
    bound_same i = restated.numbers.same_count i * restated.numbers.same_size i

abbrev room_of : ℕ → ℕ → ℕ → ℕ
room_of size free used = cond (nat_le 1 free) ((size - used) + (free - 1) * size) 0

-- the same blocks are Free
module _ (seg : Layout) (table : Table) (use_is : SameFreeBlocks seg.table table) where
  pub same_use_segment : IsLayout seg → IsLayout (record seg { table = table })
  same_use_segment is = record {
    first = use_is.numbers.same_first ∙ is.first;
    some = subst (λ n. 0 < n) (sym use_is.numbers.same_size) is.some;
    numbers = subst (λ n. n < 2 ^ 32) (sym bound_same) is.numbers;
    marks = is.marks ∙ sym use_is.numbers.same_count;
    few = subst (λ n. length seg.places + 4 * n ≤ length table.blocks * table.size) (sym use_is.numbers.same_size) (subst (λ n. length seg.places + 4 * seg.table.size ≤ n) (sym bound_same) is.few);
    active_is = subst (λ n. seg.active < n) (sym use_is.numbers.same_count) is.active_is;
    used_fits = subst (λ n. seg.used ≤ n) (sym use_is.numbers.same_size) is.used_fits;
    taken = λ lt. use_is.free seg.active ∙ is.taken (subst (λ n. seg.used < n) use_is.numbers.same_size lt);
    places_are = subst (λ n. ArePlaces table.size n seg.active seg.used seg.places) (sym bound_same)
        (subst (λ n. ArePlaces n (bound seg) seg.active seg.used seg.places) (sym use_is.numbers.same_size) is.places_are);
    in_use = λ v place named. use_is.free (place.page / table.size) ∙ subst (λ n. block_is_free seg.table (place.page / n) ≡ false) (sym use_is.numbers.same_size) (is.in_use v place named);
  }
    where
      bound_same : length table.blocks * table.size ≡ length seg.table.blocks * seg.table.size
      bound_same i = use_is.numbers.same_count i * use_is.numbers.same_size i

  pub same_use_room : room (record seg { table = table }) ≡ room seg
  same_use_room i = room_of (use_is.numbers.same_size i) (use_is.total i) seg.used

  pub same_use_image : (image : Image) → IsLayoutOf image seg → IsLayoutOf image (record seg { table = table })
  same_use_image image seg_is = record {
    holds = seg_is.holds;
    blank = λ p taken.
        let n = taken_cases (record seg { table = table }) seg.table.size (length seg.table.blocks) use_is.numbers.same_size use_is.numbers.same_count p taken in
        seg_is.blank p (n.0, ⊎_elim (λ next. inl next) (λ free. inr (sym (use_is.free (p / seg.table.size)) ∙ free.0, free.1)) n.1);
  }

-- a map is kept, where the numbers are given by other names
pub keeps_as : {M : Type 0} {clock : M → ℕ} {contents : M → Image} {left : M → ℕ → Image → Type 0} {pages bounds more_pages more_bounds : ℕ} {m0 m1 : ℕ → Option (ℕ × List ℕ)} {a b : M}
    → pages ≡ more_pages → bounds ≡ more_bounds → KeepsMap clock contents left pages bounds m0 m1 a b → KeepsMap clock contents left more_pages more_bounds m0 m1 a b
keeps_as {M} {clock} {contents} {left} {pages} {bounds} {more_pages} {more_bounds} {m0} {m1} {a} {b} p q k =
    subst (λ n. KeepsMap clock contents left n more_bounds m0 m1 a b) p (subst (λ n. KeepsMap clock contents left pages n m0 m1 a b) q k)

-- beside one block, what was taken as erased still is
pub taken_still : (old new : Layout) (block : ℕ) → SameBlockNumbers old.table new.table → new.active ≡ old.active → ((old.active ≡ block → ⊥) → new.used ≡ old.used)
    → ((b : ℕ) → (b ≡ block → ⊥) → block_is_free old.table b ≡ true → is_soiled old b ≡ false → (block_is_free new.table b ≡ true) × (is_soiled new b ≡ false))
    → (p : ℕ) → LayoutTakesAsErased old p → (p / old.table.size ≡ block → ⊥) → LayoutTakesAsErased new p
taken_still old new block numbers active_is used_is free p taken ne =
    let P : ℕ → ℕ → Type 0 = λ s n. (p < n * s) × (((new.active * s + new.used ≤ p) × (p < new.active * s + s)) ⊎ ((block_is_free new.table (p / s) ≡ true) × (is_soiled new (p / s) ≡ false))) in
    subst (P new.table.size) (sym numbers.same_count) (subst (λ s. P s (length old.table.blocks)) (sym numbers.same_size) (taken.0, cases taken.1))
  where
    cases : IsNextOfActive old p ⊎ ((block_is_free old.table (p / old.table.size) ≡ true) × (is_soiled old (p / old.table.size) ≡ false))
        → ((new.active * old.table.size + new.used ≤ p) × (p < new.active * old.table.size + old.table.size)) ⊎ ((block_is_free new.table (p / old.table.size) ≡ true) × (is_soiled new (p / old.table.size) ≡ false))
    cases (inl next) =
        let same = used_is (λ is. ne (block_of p old.table.size old.active (omega (arith, next.0)) next.1 ∙ is)) in
        inl (subst (λ a. a * old.table.size + new.used ≤ p) (sym active_is) (subst (λ u. old.active * old.table.size + u ≤ p) (sym same) next.0), subst (λ a. p < a * old.table.size + old.table.size) (sym active_is) next.1)
    cases (inr x) = inr (free (p / old.table.size) ne x.0 x.1)
