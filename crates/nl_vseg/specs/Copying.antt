-- What the steps of a cleaning do to the table of blocks, to the places and to the pages.
use Rattle.std.specs.Prelude.{◌≡◌, ◌⊎◌, ℕ, ◌+◌, ◌*◌, ◌/◌, ◌%◌, ◌<◌, ◌≤◌, ◌==◌, Bool, true, false, cond, List, length, slice_index_or, count_by, Option, Some, None}
use Rattle.nl_field.specs.Page.{Image, Page, written, erased, page_at}
use Rattle.nl_blocks.specs.declared.states.PageState.TheVariants.{Live}
use Rattle.nl_blocks.specs.Table.{Table, block_at, dead_count, is_sealed, free_count}
use Rattle.nl_blocks.specs.Table.{page_at as row_page}
use Rattle.nl_vseg.specs.Pages.{IsBeside, fact_of, main_of, page_with}
use Rattle.nl_vseg.specs.Places.{place_of, stamp_in_place}
use Rattle.nl_vseg.specs.Layout.{block_is_free, wears_of}
use Rattle.nl_vseg.specs.declared.place.Place.{Place}

abbrev pub is_in : ℕ → ℕ → Option Place → Bool
is_in pages block None = false
is_in pages block (Some place) = place.page / pages == block

-- the number of addresses whose page is in the block
abbrev pub mapped_in : ℕ → ℕ → List (Option Place) → ℕ
mapped_in pages block places = count_by (is_in pages block) places

-- two tables have as many blocks, with the same numbers
pub record SameBlockNumbers (old new : Table) : Type 0 where
  pub same_first : new.first ≡ old.first
  pub same_size : new.size ≡ old.size
  pub same_count : length new.blocks ≡ length old.blocks

-- in two tables the same blocks are Free
pub record SameFreeBlocks (old new : Table) : Type 0 where
  pub numbers : SameBlockNumbers old new
  pub free : (block : ℕ) → block_is_free new block ≡ block_is_free old block
  pub total : free_count new ≡ free_count old

-- each block is in the same state, and was erased as often
pub record SameStates (old new : Table) : Type 0 where
  pub same : SameFreeBlocks old new
  pub wears : wears_of new ≡ wears_of old
  pub states : (block : ℕ) → (block_at new block).state ≡ (block_at old block).state

-- the page of a place was marked Live
pub record MarksPlace (place : Option Place) (old new : Table) : Type 0 where
  pub states : SameStates old new
  pub rows : (block : ℕ) → length (block_at new block).pages ≡ length (block_at old block).pages
  pub dead : (block : ℕ) → dead_count (block_at old block) ≤ dead_count (block_at new block) + cond (is_in old.size block place) 1 0
  pub live : (page : ℕ) → page < length old.blocks * old.size → (row_page old page).state ≡ Live → (row_page new page).state ≡ Live
  pub here : (p : Place) → place ≡ Some p → (row_page new p.page).state ≡ Live

-- one block is Free now, or not, and the others are as before
pub record SetsFree (block : ℕ) (free : Bool) (old new : Table) : Type 0 where
  pub numbers : SameBlockNumbers old new
  pub here : block_is_free new block ≡ free
  pub others : (other : ℕ) → (other ≡ block → ⊥) → block_is_free new other ≡ block_is_free old other
  pub total : free_count new + cond (block_is_free old block) 1 0 ≡ free_count old + cond free 1 0

-- Each block that is not Free is Sealed. The page of each address is Live, and each page beside those is Dead: a block has at
-- least as many dead pages as are left over by the addresses in it, since two of them may have one page.
pub record IsSettled (places : List (Option Place)) (table : Table) : Type 0 where
  pub sealed : (block : ℕ) → block < length table.blocks → block_is_free table block ≡ false → is_sealed (block_at table block) ≡ true
  pub rows : (block : ℕ) → block < length table.blocks → length (block_at table block).pages ≡ table.size
  pub counted : (block : ℕ) → block < length table.blocks
      → table.size ≤ mapped_in table.size block places + dead_count (block_at table block)
  pub live : (v : ℕ) (place : Place) → place_of places v ≡ Some place → (row_page table place.page).state ≡ Live

-- the page is that of no address
abbrev pub AreBeside : ℕ → List (Option Place) → Type 0
AreBeside page places = (v : ℕ) (place : Place) → place_of places v ≡ Some place → place.page ≡ page → ⊥

-- some page of the block is that of no address
pub record HasHole (pages block : ℕ) (places : List (Option Place)) : Type 0 where
  pub page : ℕ
  pub inside : page / pages ≡ block
  pub beside : AreBeside page places

abbrev pub is_some : Option ℕ → Bool
is_some None = false
is_some (Some page) = true

-- where the copy of the page at this offset of the victim is, None where it was not copied
abbrev pub target_at : List (Option ℕ) → ℕ → Option ℕ
target_at targets at = slice_index_or targets at None

-- each copy is one of the first pages of the target, and there are as many copies as pages are used
pub record AreTargets (pages target used : ℕ) (targets : List (Option ℕ)) : Type 0 where
  pub count : length targets ≡ pages
  pub as_many : count_by is_some targets ≡ used
  pub inside : (at page : ℕ) → target_at targets at ≡ Some page → (target * pages ≤ page) × (page < target * pages + used)

-- The place has the page at this offset of the victim.
pub record IsAt (pages victim at : ℕ) (place : Option Place) : Type 0 where
  pub found : Place
  pub named : place ≡ Some found
  pub in_victim : found.page / pages ≡ victim
  pub offset : found.page % pages ≡ at

-- some page of the victim was not copied, and is not that of this place
pub record LeavesHole (pages victim : ℕ) (place : Option Place) (targets : List (Option ℕ)) : Type 0 where
  pub at : ℕ
  pub within : at < pages
  pub not_copied : target_at targets at ≡ None
  pub other : IsAt pages victim at place → ⊥

-- a place was not in the victim, and is as it was, or it is one of the first pages of the target
abbrev pub IsMovedPlace : ℕ → ℕ → ℕ → ℕ → Option Place → Option Place → Type 0
IsMovedPlace pages victim target used old new = (place : Place) → new ≡ Some place
    → ((old ≡ Some place) × (place.page / pages ≡ victim → ⊥)) ⊎ ((target * pages ≤ place.page) × (place.page < target * pages + used))

-- The addresses that had a page in the victim have one of the first pages of the target, and the others have theirs.
pub record AreMoved (pages victim target used : ℕ) (old new : List (Option Place)) : Type 0 where
  pub stamps : (v : ℕ) → stamp_in_place (place_of new v) ≡ stamp_in_place (place_of old v)
  pub each : (v : ℕ) → IsMovedPlace pages victim target used (place_of old v) (place_of new v)

-- the page shows what one of these places shows
abbrev pub IsCopy : List (Option Place) → Image → Page → Type 0
IsCopy places image page =
    (v : ℕ) × ((place : Place) × ((place_of places v ≡ Some place) × (fact_of page ≡ fact_of (page_at image place.page))))

-- Only pages of the block have changed, and each of them shows nothing, or what one of these places shows.
pub record ChangedIn (pages block : ℕ) (places : List (Option Place)) (old c : Image) : Type 0 where
  pub same : (p : ℕ) → IsBeside pages block p → page_at c p ≡ page_at old p
  pub each : (p : ℕ) → (page_at c p ≡ page_at old p) ⊎ ((fact_of (page_at c p) ≡ None) ⊎ IsCopy places old (page_at c p))

-- the page that a copy of this page becomes
abbrev pub copy_of : Page → ℕ → ℕ → ℕ → Page
copy_of page v s wear = written (page_with (main_of page) v s wear)

-- each page has stayed, or it is erased now and in this block
abbrev pub StaysOrErased : ℕ → ℕ → Image → Image → Type 0
StaysOrErased pages block old new = (p : ℕ) → (page_at new p ≡ page_at old p) ⊎ ((p / pages ≡ block) × (page_at new p ≡ erased))
