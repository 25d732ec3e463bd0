-- What the steps on the table of blocks do to the number of used pages, and what a segment is after them.
use Rattle.std.proofs.Common.{◌≡◌, inl, inr, ⊎_elim, ℕ, ◌+◌, ◌-◌, ◌*◌, ◌/◌, ◌^◌, ◌<◌, ◌≤◌, ◌==◌, nat_le, Bool, true, false, cond, Option, List, length, get_or, refl, sym, ◌∙◌, ap, subst, arith, eq-eqb, ne_eqb}
use Rattle.std.proofs.lemmas.Bool.{cases_eq, cases_Bool, cond-true, cond-false, le-leb, true≢false, false≢true}
use Rattle.nl_field.specs.Page.{Image}
use Rattle.nl_blocks.specs.declared.states.BlockState.{BlockState}
use Rattle.nl_blocks.specs.declared.states.BlockState.TheVariants.{Free, Active, Target, Sealed, Victim, Retired}
use Rattle.nl_blocks.specs.declared.states.PageState.{PageState}
use Rattle.nl_blocks.specs.Table.{BlockRow, Table, HasBlock, HasPage, IsNextPage, IsBlockTable, block_at, free_count, is_free_state, is_sealed_state, page_at, taken, with_block, with_page}
use Rattle.nl_blocks.specs.Used.{first_unmarked}
use Rattle.nl_blocks.proofs.UsedLaws.{first-taken, full-used, next-marks, next-used, rising-closed, rising-given, rising-marks, rising-with, used-each, used-full, used-here, used-kind, used-other}
use Rattle.nl_vseg.specs.Copying.{IsSettled, SetsFree, SameFreeBlocks}
use Rattle.nl_vseg.specs.Layout.{Layout, ArePlaces, LayoutHasUnmapped, IsLayout, IsLayoutOf, LayoutTakesAsErased, block_is_free, bound, closed, is_soiled, room, wears_of}
use Rattle.nl_vseg.specs.Places.{IsUnmapped}
use Rattle.nl_vseg.specs.Used.{OpenBlocksAreRisen, IsClosed, IsUnusedBlock, KeepsUsed, UsesNext, is_open_state, used_of}
use Rattle.nl_vseg.specs.declared.place.Place.{Place}
use Rattle.nl_vseg.proofs.Blocks.{has_block}
use Rattle.nl_vseg.proofs.Copies.{closed_segment}
use Rattle.nl_vseg.proofs.Places.{block_of, in_block, not_beside}
use Rattle.nl_vseg.proofs.Segments.{free_unmapped, same_use_image, same_use_room, same_use_segment, taken_cases}
use Rattle.nl_vseg.proofs.Views.{wear_at}

-- ---- the table

pub free_shut : (state : BlockState) → is_free_state state ≡ true → is_open_state state ≡ false
free_shut Free is = refl
free_shut Active is = absurd (false≢true is)
free_shut Target is = absurd (false≢true is)
free_shut Sealed is = refl
free_shut Victim is = refl
free_shut (Retired names) is = refl

pub sealed_shut : (state : BlockState) → is_sealed_state state ≡ true → is_open_state state ≡ false
sealed_shut Free is = refl
sealed_shut Active is = absurd (false≢true is)
sealed_shut Target is = absurd (false≢true is)
sealed_shut Sealed is = refl
sealed_shut Victim is = refl
sealed_shut (Retired names) is = refl

-- a block replaced
module _ (t : Table) (block : ℕ) (row : BlockRow) (first : t.first ≡ 0) (within : block < length t.blocks) where
  -- by one that is not open
  pub closed_with : is_open_state row.state ≡ false → IsClosed block t (with_block t block row)
  closed_with shut = record {
    full = used-here is_open_state t block row (has_block t block first within) ∙ cond-false (is_open_state row.state) (first_unmarked row.pages) t.size shut;
    others = λ other other_within differ. used-other is_open_state t block row (has_block t block first within) other (has_block t other first other_within) differ;
    rising = λ rising. rising-with is_open_state t block row (has_block t block first within) rising (λ is. absurd (false≢true (sym shut ∙ is)));
  }

  -- by one with the same pages in the same state
  pub kept_with : row.pages ≡ (block_at t block).pages → is_open_state row.state ≡ is_open_state (block_at t block).state → KeepsUsed t (with_block t block row)
  kept_with pages state = record {
    each = λ other other_within. used-each is_open_state t block row (has_block t block first within) (λ j. cond (state j) (first_unmarked (pages j)) t.size) other (has_block t other first other_within);
    rising = λ rising. rising-closed is_open_state t rising block row (has_block t block first within) pages (λ is. sym state ∙ is);
  }

-- a block given out
pub opened_with : (t : Table) (block : ℕ) (state : BlockState) → t.first ≡ 0 → block < length t.blocks → is_open_state state ≡ true → IsUnusedBlock block t (with_block t block (taken (block_at t block) state))
opened_with t block state first within is = record {
  none = used-here is_open_state t block (taken (block_at t block) state) (has_block t block first within)
      ∙ (cond-true (is_open_state state) (first_unmarked (taken (block_at t block) state).pages) t.size is ∙ first-taken (block_at t block).pages);
  rising = λ rising. rising-given is_open_state t rising block state (has_block t block first within);
}

-- nothing is done to a block that is not open
pub closed_still : (t : Table) (block : ℕ) → is_open_state (block_at t block).state ≡ false → IsClosed block t t
closed_still t block shut = record { full = used-full is_open_state t block shut; others = λ other within differ. refl; rising = λ rising. rising }

-- one block, twice
pub closed_then : {block : ℕ} {a b c : Table} → length b.blocks ≡ length a.blocks → IsClosed block a b → IsClosed block b c → IsClosed block a c
closed_then count first second = record {
  full = second.full;
  others = λ other within differ. second.others other (subst (λ n. other < n) (sym count) within) differ ∙ first.others other within differ;
  rising = λ rising. second.rising (first.rising rising);
}

-- where each page of a block is used, so it is after another one is closed
pub closed_full : {block : ℕ} {a b : Table} (active : ℕ) → active < length a.blocks → used_of a active ≡ a.size → b.size ≡ a.size → IsClosed block a b → used_of b active ≡ b.size
closed_full {block} {a} {b} active within full size step = ⊎_elim
    (λ is. ap (used_of b) is ∙ step.full)
    (λ ne. step.others active within ne ∙ (full ∙ sym size))
    (cases_eq active block)

-- to close a block of which each page is used changes no number
pub closed_keeps : {block : ℕ} {a b : Table} → used_of a block ≡ a.size → b.size ≡ a.size → IsClosed block a b → KeepsUsed a b
closed_keeps {block} {a} {b} full size step = record {
  each = λ other within. ⊎_elim
      (λ is. ap (used_of b) is ∙ (step.full ∙ (size ∙ (sym full ∙ ap (used_of a) (sym is)))))
      (λ ne. step.others other within ne)
      (cases_eq other block);
  rising = step.rising;
}

-- the next page
module _ (t : Table) (is : IsBlockTable t) (block : ℕ) (first : t.first ≡ 0) (within : block < length t.blocks) where
  pub next_room : is_open_state (block_at t block).state ≡ true → (page : ℕ) → IsNextPage t block page → used_of t block < t.size
  next_room open_is page next =
      let at = next-used is_open_state t is block (has_block t block first within) open_is page next in
      let inside = in_block page t.size block is.some next.in_block in
      omega (arith, at, inside.1)

  pub none_full : is_open_state (block_at t block).state ≡ true → ((page : ℕ) → page / t.size ≡ block → (page_at t page).marked ≡ true) → used_of t block ≡ t.size
  none_full open_is all = full-used is_open_state t is block (has_block t block first within) open_is all

  module _ (room : used_of t block < t.size) where
    pub next_is : (page : ℕ) → IsNextPage t block page → page ≡ block * t.size + used_of t block
    next_is page next = next-used is_open_state t is block (has_block t block first within) (used-kind is_open_state t block room) page next

    pub next_left : ((page : ℕ) → page / t.size ≡ block → (page_at t page).marked ≡ true) → ⊥
    next_left all = let full = none_full (used-kind is_open_state t block room) all in omega (arith, full, room)

    pub uses_next : OpenBlocksAreRisen t → (page : ℕ) (state : PageState) → IsNextPage t block page → UsesNext block t (with_page t page state)
    uses_next rising page state next =
        let here = next.in_block in
        let has : HasPage t page = subst (HasBlock t) (sym here) (has_block t block first within) in
        let room_there : used_of t (page / t.size) < t.size = subst (λ b. used_of t b < t.size) (sym here) room in
        let at : page ≡ (page / t.size) * t.size + used_of t (page / t.size) = subst (λ b. page ≡ b * t.size + used_of t b) (sym here) (next_is page next) in
        record {
          more = subst (λ b. used_of (with_page t page state) b ≡ used_of t b + 1) here (next-marks is_open_state t is rising page state has room_there at);
          rising = rising-marks is_open_state t is rising page state has room_there at;
        }

-- where each block in use is Sealed no block is open
module _ (places : List (Option Place)) (t : Table) (first : t.first ≡ 0) (settled : IsSettled places t) where
  settled_shut : (block : ℕ) → block < length t.blocks → is_open_state (block_at t block).state ≡ false
  settled_shut block within = ⊎_elim
      (λ free. free_shut (block_at t block).state free)
      (λ in_use. sealed_shut (block_at t block).state (settled.sealed block within in_use))
      (cases_Bool (block_is_free t block))

  pub settled_full : (block : ℕ) → block < length t.blocks → used_of t block ≡ t.size
  settled_full block within = used-full is_open_state t block (settled_shut block within)

  pub settled_rising : OpenBlocksAreRisen t
  settled_rising = record { each = λ block has is. absurd (false≢true (sym (settled_shut block (let below = has.below in omega (arith, below, first))) ∙ is)) }

-- ---- the segment

-- the segment where each page of the active block is used, if that is this block
abbrev pub closed_in : Layout → ℕ → Layout
closed_in seg block = record seg { used = cond (seg.active == block) seg.table.size seg.used }

module _ (seg : Layout) (block : ℕ) where
  closed_cases : (P : ℕ → Type 0) → (seg.active ≡ block → P seg.table.size) → ((seg.active ≡ block → ⊥) → P seg.used) → P (cond (seg.active == block) seg.table.size seg.used)
  closed_cases P here other = elim (cases_eq seg.active block) [
    | inl is ↦ subst P (sym (cond-true (seg.active == block) seg.table.size seg.used (eq-eqb seg.active block is))) (here is)
    | inr ne ↦ subst P (sym (cond-false (seg.active == block) seg.table.size seg.used (ne_eqb seg.active block ne))) (other ne)
  ]

  pub closed_is : IsLayout seg → IsLayout (closed_in seg block)
  closed_is is = closed_cases (λ n. IsLayout (record seg { used = n })) (λ here. closed_segment seg seg.table.size is refl) (λ other. is)

  pub closed_idle : (closed_in seg block).used < seg.table.size → block ≡ seg.active → ⊥
  closed_idle = closed_cases (λ n. n < seg.table.size → block ≡ seg.active → ⊥) (λ here lt same. omega (arith, lt)) (λ other lt same. other (sym same))

  -- less is taken as erased
  pub closed_fewer : (p : ℕ) → LayoutTakesAsErased (closed_in seg block) p → LayoutTakesAsErased seg p
  closed_fewer p = closed_cases (λ n. LayoutTakesAsErased (record seg { used = n }) p → LayoutTakesAsErased seg p)
      (λ here t. (t.0, ⊎_elim (λ next. absurd (omega (arith, next.0, next.1))) (λ free. inr free) t.1))
      (λ other t. t)

  -- as much of the other blocks is taken as erased as before
  pub closed_beside : (p : ℕ) → LayoutTakesAsErased seg p → (p / seg.table.size ≡ block → ⊥) → LayoutTakesAsErased (closed_in seg block) p
  closed_beside p t ne = closed_cases (λ n. LayoutTakesAsErased (record seg { used = n }) p)
      (λ here. (t.0, ⊎_elim (λ next. absurd (ne (block_of p seg.table.size seg.active (omega (arith, next.0)) next.1 ∙ here))) (λ free. inr free) t.1))
      (λ other. t)

  -- what is used of the active block once this block is closed
  pub closed_used : (t : Table) → IsClosed block seg.table t → t.size ≡ seg.table.size → seg.active < length seg.table.blocks → seg.used ≡ used_of seg.table seg.active → used_of t seg.active ≡ (closed_in seg block).used
  closed_used t step size within used_is = closed_cases (λ n. used_of t seg.active ≡ n)
      (λ here. ap (used_of t) here ∙ (step.full ∙ size))
      (λ other. step.others seg.active within other ∙ sym used_is)

-- a Free block is the active one now, and none of its pages is used
module _ (old : Layout) (table : Table) (block : ℕ) (is : IsLayout old) (within : block < length old.table.blocks) (free : block_is_free old.table block ≡ true) (restated : SetsFree block false old.table table) where
  bound_same : length table.blocks * table.size ≡ length old.table.blocks * old.table.size
  bound_same i = restated.numbers.same_count i * restated.numbers.same_size i

  unmapped : IsUnmapped old.table.size old.places block
  unmapped = free_unmapped old is block free

  behind : ArePlaces old.table.size (bound old) block 0 old.places
  behind = record {
    each = λ v place named.
        let was = is.places_are.each v place named in
        record { within = was.within; behind = ⊎_elim (λ lt. inl (omega (arith, lt))) (λ ge. inr ge) (unmapped v place named); spelled = was.spelled };
  }

  pub opened : IsLayout (record old { table = table; active = block; used = 0 })
  opened = record {
    first = restated.numbers.same_first ∙ is.first;
    some = subst (λ n. 0 < n) (sym restated.numbers.same_size) is.some;
    numbers = subst (λ n. n < 2 ^ 32) (sym bound_same) is.numbers;
    marks = is.marks ∙ sym restated.numbers.same_count;
    few = subst (λ n. length old.places + 4 * n ≤ length table.blocks * table.size) (sym restated.numbers.same_size) (subst (λ n. length old.places + 4 * old.table.size ≤ n) (sym bound_same) is.few);
    active_is = subst (λ n. block < n) (sym restated.numbers.same_count) within;
    used_fits = omega arith;
    taken = λ lt. restated.here;
    places_are = subst (λ n. ArePlaces table.size n block 0 old.places) (sym bound_same) (subst (λ n. ArePlaces n (bound old) block 0 old.places) (sym restated.numbers.same_size) behind);
    in_use = λ v place named. subst (λ n. block_is_free table (place.page / n) ≡ false) (sym restated.numbers.same_size)
        (restated.others (place.page / old.table.size) (not_beside place.page old.table.size block is.some (unmapped v place named)) ∙ is.in_use v place named);
  }

  -- what is Free now was before
  free_before : (b : ℕ) → block_is_free table b ≡ true → (b ≡ block → ⊥) × (block_is_free old.table b ≡ true)
  free_before b is_free_now =
      let ne : b ≡ block → ⊥ = (λ same. true≢false (sym is_free_now ∙ (ap (block_is_free table) same ∙ restated.here))) in
      (ne, sym (restated.others b ne) ∙ is_free_now)

  -- the image of a segment whose Free block is the active one now, where that block was erased
  pub opened_image : (image : Image) → is_soiled old block ≡ false → IsLayoutOf image old → IsLayoutOf image (record old { table = table; active = block; used = 0 })
  opened_image image clean seg = record {
    holds = seg.holds;
    blank = λ p taken_now.
        let n = taken_cases (record old { table = table; active = block; used = 0 }) old.table.size (length old.table.blocks) restated.numbers.same_size restated.numbers.same_count p taken_now in
        seg.blank p (
          n.0,
          ⊎_elim
              (λ next.
              let at = block_of p old.table.size block (omega (arith, next.0)) next.1 in
              inr (ap (block_is_free old.table) at ∙ free, ap (is_soiled old) at ∙ clean))
              (λ x. inr ((free_before (p / old.table.size) x.0).1, x.1))
              n.1,
        );
  }

  -- the image of a segment whose Free block is the active one now, where that block is still to be erased
  pub opened_soiled : (image : Image) → IsLayoutOf image old → IsLayoutOf image (closed (record old { table = table; active = block; used = 0 }))
  opened_soiled image seg = record {
    holds = seg.holds;
    blank = λ p taken_now.
        let n = taken_cases (closed (record old { table = table; active = block; used = 0 })) old.table.size (length old.table.blocks) restated.numbers.same_size restated.numbers.same_count p taken_now in
        seg.blank p (
          n.0,
          ⊎_elim
              (λ next. let size = restated.numbers.same_size in absurd (omega (arith, next.0, next.1, size)))
              (λ x. inr ((free_before (p / old.table.size) x.0).1, x.1))
              n.1,
        );
  }

-- a segment with another table, where the same blocks are Free and as many pages of the active one are used
module _ (seg : Layout) (t : Table) (use_is : SameFreeBlocks seg.table t) (used_is : used_of t seg.active ≡ seg.used) where
  pub numbered : IsLayout seg → IsLayout (record seg { table = t; used = used_of t seg.active })
  numbered is = subst (λ n. IsLayout (record seg { table = t; used = n })) (sym used_is) (same_use_segment seg t use_is is)

  pub numbered_image : (image : Image) → IsLayoutOf image seg → IsLayoutOf image (record seg { table = t; used = used_of t seg.active })
  numbered_image image seg_is = subst (λ n. IsLayoutOf image (record seg { table = t; used = n })) (sym used_is) (same_use_image seg t use_is image seg_is)

  pub numbered_room : room (record seg { table = t; used = used_of t seg.active }) ≡ room seg
  numbered_room = ap (λ n. room (record seg { table = t; used = n })) used_is ∙ same_use_room seg t use_is

-- one page more is used
pub room_next : (seg : Layout) → seg.used < seg.table.size → 1 ≤ free_count seg.table → room (record seg { used = seg.used + 1 }) + 1 ≡ room seg
room_next seg left free =
    let some : nat_le 1 (free_count seg.table) ≡ true = le-leb 1 (free_count seg.table) free in
    let new : room (record seg { used = seg.used + 1 }) ≡ (seg.table.size - (seg.used + 1)) + (free_count seg.table - 1) * seg.table.size =
    cond-true (nat_le 1 (free_count seg.table)) ((seg.table.size - (seg.used + 1)) + (free_count seg.table - 1) * seg.table.size) 0 some in
    let old : room seg ≡ (seg.table.size - seg.used) + (free_count seg.table - 1) * seg.table.size =
    cond-true (nat_le 1 (free_count seg.table)) ((seg.table.size - seg.used) + (free_count seg.table - 1) * seg.table.size) 0 some in
    omega (arith, new, old, left)

-- the wear of a block, where each is as before
pub same_wear : (old new : Table) (block : ℕ) → old.first ≡ 0 → new.first ≡ 0 → wears_of new ≡ wears_of old → (block_at new block).wear ≡ (block_at old block).wear
same_wear old new block first first_new same = sym (wear_at new block first_new) ∙ (ap (λ (l : List ℕ). get_or l block 0) same ∙ wear_at old block first)

-- a segment with another table, where the same blocks are Free and others may be soiled
pub marked_segment : (seg : Layout) (t : Table) (soiled : List Bool) → SameFreeBlocks seg.table t → length soiled ≡ length seg.soiled → IsLayout seg → IsLayout (record seg { table = t; soiled = soiled })
marked_segment seg t soiled use_is count is =
    let same = same_use_segment seg t use_is is in
    record {
      first = same.first;
      some = same.some;
      numbers = same.numbers;
      marks = count ∙ same.marks;
      few = same.few;
      active_is = same.active_is;
      used_fits = same.used_fits;
      taken = same.taken;
      places_are = same.places_are;
      in_use = same.in_use;
    }

-- all pages of the active block count as used
pub closed_image : (seg : Layout) (image : Image) → IsLayoutOf image seg → IsLayoutOf image (closed seg)
closed_image seg image is = record {
  holds = is.holds;
  blank = λ p t. is.blank p (t.0, ⊎_elim (λ next. absurd (omega (arith, next.0, next.1))) (λ free. inr free) t.1);
}

-- what is taken as erased beside the active block, where the same blocks are Free
pub numbered_beside : (seg : Layout) (t : Table) (used p : ℕ) → SameFreeBlocks seg.table t → LayoutTakesAsErased (record seg { table = t; used = used }) p → (p / seg.table.size ≡ seg.active → ⊥) → LayoutTakesAsErased seg p
numbered_beside seg t used p use_is taken_now ne =
    let n = taken_cases (record seg { table = t; used = used }) seg.table.size (length seg.table.blocks) use_is.numbers.same_size use_is.numbers.same_count p taken_now in (
      n.0,
      ⊎_elim
          (λ next. absurd (ne (block_of p seg.table.size seg.active (omega (arith, next.0)) next.1)))
          (λ free. inr (sym (use_is.free (p / seg.table.size)) ∙ free.0, free.1))
          n.1,
    )

-- where some block holds no page of the map, it does whatever is used
pub spare_used : (seg : Layout) (t : Table) (used : ℕ) → SameFreeBlocks seg.table t → LayoutHasUnmapped seg → LayoutHasUnmapped (record seg { table = t; used = used })
spare_used seg t used use_is is = record {
  block = is.block;
  within = subst (λ n. is.block < n) (sym use_is.numbers.same_count) is.within;
  unmapped = subst (λ n. IsUnmapped n seg.places is.block) (sym use_is.numbers.same_size) is.unmapped;
}
