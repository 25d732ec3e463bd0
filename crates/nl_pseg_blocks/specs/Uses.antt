-- What each block of a table is good for, and what the steps of a segment do to the table.
use Rattle.std.specs.Prelude.{◌≡◌, ℕ, ◌+◌, ◌-◌, ◌/◌, ◌%◌, ◌≤◌, ◌<◌, nat_le, if◌then◌else◌, Bool, true, false, cond, List, length, map, slice_index_or}
use Rattle.nl_blocks.specs.declared.states.BlockState.{BlockState}
use Rattle.nl_blocks.specs.declared.states.BlockState.TheVariants.{Free, Active, Target, Sealed, Victim, Retired}
use Rattle.nl_blocks.specs.declared.states.PageState.{PageState}
use Rattle.nl_blocks.specs.Table.{BlockRow, Table, HasBlock, block_at, free_count, is_free, is_free_state, HasPage, page_at}
use Rattle.nl_blocks.specs.Used.{BlocksAreRisen, SameUsed, is_active_state, is_target_state, used_in}

-- What a block is good for: whether it is Free, whether it is kept for the cleaner, as it is Free or waits to be, and how often it was
-- erased.
pub record Use : Type 0 where
  pub is_free : Bool
  pub is_kept : Bool
  pub wear : ℕ

abbrev pub no_use : Use
no_use = record { is_free = false; is_kept = false; wear = 0 }

-- the use of a block, where the list begins with that of block `first`
unfoldable pub use_at : ℕ → List Use → ℕ → Use
use_at first uses block = if nat_le first block then slice_index_or uses (block - first) no_use else no_use

abbrev pub is_kept_state : BlockState → Bool
is_kept_state Free = true
is_kept_state Active = false
is_kept_state Target = false
is_kept_state Sealed = false
is_kept_state Victim = false
is_kept_state (Retired names) = true

abbrev pub use_of : BlockRow → Use
use_of row = record { is_free = is_free row; is_kept = is_kept_state row.state; wear = row.wear }

-- the use of a block that is Free, or else in use
abbrev pub use_with : Bool → ℕ → Use
use_with free wear = record { is_free = free; is_kept = free; wear = wear }

-- what a block of the table is good for
abbrev pub use_in : Table → ℕ → Use
use_in table block = use_at table.first (map use_of table.blocks) block

-- in an Active and in a Target block the pages are marked in rising order
pub record ActiveAndTargetAreRisen (table : Table) : Type 0 where
  pub active : BlocksAreRisen is_active_state table
  pub target : BlocksAreRisen is_target_state table

-- two tables have as many blocks, with the same numbers
pub record SameNumbers (old new : Table) : Type 0 where
  pub same_first : new.first ≡ old.first
  pub same_size : new.size ≡ old.size
  pub same_count : length new.blocks ≡ length old.blocks

-- each block has the same use
pub record SameUse (old new : Table) : Type 0 where
  pub numbers : SameNumbers old new
  pub uses : (block : ℕ) → use_in new block ≡ use_in old block
  pub total : free_count new ≡ free_count old

-- in each block as many pages are used, for new names and for copies
pub record SameFill (old new : Table) : Type 0 where
  pub used : (block : ℕ) → HasBlock old block → SameUsed is_active_state block old new
  pub filled : (block : ℕ) → HasBlock old block → SameUsed is_target_state block old new

-- in each block but this one as many pages are used, for new names and for copies
pub record SameFillBeside (block : ℕ) (old new : Table) : Type 0 where
  pub used : (other : ℕ) → HasBlock old other → (other ≡ block → ⊥) → SameUsed is_active_state other old new
  pub filled : (other : ℕ) → HasBlock old other → (other ≡ block → ⊥) → SameUsed is_target_state other old new

-- each page is as live as it was, and pages that were marked in rising order still are
pub record SameMarks (old new : Table) : Type 0 where
  pub same : (page : ℕ) → HasPage old page → (page_at new page).state ≡ (page_at old page).state
  pub rises : ActiveAndTargetAreRisen old → ActiveAndTargetAreRisen new

-- in blocks of this kind of state the page is used, or the next one that is
abbrev pub IsUpTo : (BlockState → Bool) → ℕ → Table → Type 0
IsUpTo kind page t = page % t.size ≤ used_in kind t (page / t.size)

-- What marking a page does to the number of the used pages: a page that is used leaves it, and the next one is used now.
pub record CountsUsedPage (kind : BlockState → Bool) (page : ℕ) (old new : Table) : Type 0 where
  pub again : page % old.size < used_in kind old (page / old.size) → (block : ℕ) → HasBlock old block → SameUsed kind block old new
  pub next : page % old.size ≡ used_in kind old (page / old.size)
      → used_in kind new (page / old.size) ≡ used_in kind old (page / old.size) + 1
  pub others : (block : ℕ) → HasBlock old block → (block ≡ page / old.size → ⊥) → SameUsed kind block old new

-- one page is live now, or not, and the others are as before
pub record MarksPage (page : ℕ) (state : PageState) (old new : Table) : Type 0 where
  pub rising : ActiveAndTargetAreRisen new
  pub here : (page_at new page).state ≡ state
  pub others : (other : ℕ) → HasPage old other → (other ≡ page → ⊥) → (page_at new other).state ≡ (page_at old other).state

-- one block is Free now, or in use, and has this wear; the others are as before
pub record SetsUse (block : ℕ) (free : Bool) (wear : ℕ) (old new : Table) : Type 0 where
  pub numbers : SameNumbers old new
  pub here : use_in new block ≡ use_with free wear
  pub others : (other : ℕ) → (other ≡ block → ⊥) → use_in new other ≡ use_in old other
  pub states : (other : ℕ) → HasBlock old other → (other ≡ block → ⊥) → (block_at new other).state ≡ (block_at old other).state
  pub total : free_count new + cond (use_in old block).is_free 1 0 ≡ free_count old + cond free 1 0
  pub marks : SameMarks old new
  pub fill : SameFillBeside block old new

-- the state of a block that is erased before use
abbrev pub told_state : BlockState → BlockState
told_state Free = Free
told_state Active = Sealed
told_state Target = Sealed
told_state Sealed = Sealed
told_state Victim = Sealed
told_state (Retired names) = Retired names

-- one block has this wear, and is as Free and as kept as it was; the others are as before
pub record SetsWear (block : ℕ) (wear : ℕ) (old new : Table) : Type 0 where
  pub numbers : SameNumbers old new
  pub here : use_in new block ≡ record { is_free = (use_in old block).is_free; is_kept = (use_in old block).is_kept; wear = wear }
  pub others : (other : ℕ) → (other ≡ block → ⊥) → use_in new other ≡ use_in old other
  pub states : (other : ℕ) → HasBlock old other → (other ≡ block → ⊥) → (block_at new other).state ≡ (block_at old other).state
  pub total : free_count new ≡ free_count old
  pub marks : SameMarks old new
  pub fill : SameFillBeside block old new

-- the state of a block in which one old name more stands, and in which nothing more is programmed
abbrev pub aside_state : BlockState → BlockState
aside_state Free = Retired 1
aside_state Active = Sealed
aside_state Target = Sealed
aside_state Sealed = Sealed
aside_state Victim = Victim
aside_state (Retired names) = Retired (names + 1)

-- one block is in this state, and is kept for the cleaner where it was; the others are as before
pub record IsPut (block : ℕ) (state : BlockState) (old new : Table) : Type 0 where
  pub numbers : SameNumbers old new
  pub here : (block_at new block).state ≡ state
  pub states : (other : ℕ) → HasBlock old other → (other ≡ block → ⊥) → (block_at new other).state ≡ (block_at old other).state
  pub kept : (other : ℕ) → (use_in new other).is_kept ≡ (use_in old other).is_kept
  pub wears : (other : ℕ) → (use_in new other).wear ≡ (use_in old other).wear
  pub frees : (other : ℕ) → (other ≡ block → ⊥) → (use_in new other).is_free ≡ (use_in old other).is_free
  pub total : free_count new + cond (use_in old block).is_free 1 0 ≡ free_count old + cond (is_free_state state) 1 0
  pub marks : SameMarks old new
  pub fill : SameFillBeside block old new
