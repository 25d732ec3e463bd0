-- A physical segment: which pages are live, where names lead, and which pages can be programmed next.
use Rattle.std.specs.Prelude.{◌≡◌, ◌⊎◌, ℕ, ◌+◌, ◌-◌, ◌*◌, ◌/◌, ◌<◌, ◌≤◌, ◌==◌, ◌&&◌, not, nat_le, if◌then◌else◌, Bool, true, false, cond, List, filter, slice_index_or, Contains, Option, Some, None, is_some, option_map}
use Rattle.nl_blocks.specs.declared.states.BlockState.{BlockState}
use Rattle.nl_blocks.specs.declared.states.BlockState.TheVariants.{Sealed}
use Rattle.nl_blocks.specs.Table.{is_sealed_state, worn}
use Rattle.nl_field.specs.Live.{resolve}
use Rattle.nl_field.specs.Page.{Image, erased, page_at}
use Rattle.nl_field.specs.declared.pointer.Pointer.{Pointer}
use Rattle.nl_pseg_pages.specs.Pages.{shown_by, main_of}
use Rattle.nl_pseg.specs.declared.held.Held.{Held}
use Rattle.nl_pseg_blocks.specs.Uses.{Use, use_at}

-- What cleaning knows of a block: what it is used for, and how many of its pages are not live.
pub record CleaningRow : Type 0 where
  pub state : BlockState
  pub dead : ℕ

-- The blocks of the segment go from `first` on, and `blocks` is the number behind the last one. Pages go by their numbers on
-- the medium.
pub record Physical : Type 0 where
  pub first : ℕ
  pub blocks : ℕ
  -- the pages of a block
  pub size : ℕ
  -- what each page of the medium holds that is live
  pub held : List (Option Held)
  -- old names, each with the page that it leads to
  pub pairs : List (ℕ × ℕ)
  -- for how many more pairs there is room
  pub pair_room : ℕ
  -- the page that is programmed next, and how many pages from it on are not used in its block
  pub next : ℕ
  pub left : ℕ
  -- how many blocks are Free
  pub free : ℕ
  -- what each block of the segment is good for
  pub uses : List Use
  -- for each block of the medium, how often it was erased, where it was told not to read as erased and was not erased since
  pub soiled : List (Option ℕ)
  -- the page that the next copy is programmed on, and how many pages from it on are not used in its block
  pub copy_next : ℕ
  pub copy_left : ℕ
  -- the block whose live pages are moved away
  pub victim : Option ℕ
  -- what cleaning knows of each block of the segment
  pub rows : List CleaningRow

abbrev pub no_row : CleaningRow
no_row = record { state = Sealed; dead = 0 }

-- what is known of a block, where the list begins with that of block `first`
unfoldable pub row_in : ℕ → List CleaningRow → ℕ → CleaningRow
row_in first rows block = if nat_le first block then slice_index_or rows (block - first) no_row else no_row

abbrev pub row_at : Physical → ℕ → CleaningRow
row_at seg block = row_in seg.first seg.rows block

-- the block is not given out until old names in it are gone
abbrev pub is_waiting : Physical → ℕ → Bool
is_waiting seg block = (use_at seg.first seg.uses block).is_kept && not (use_at seg.first seg.uses block).is_free

-- the block takes no more pages
abbrev pub is_sealed : Physical → ℕ → Bool
is_sealed seg block = is_sealed_state (row_at seg block).state

-- the page lies in the victim
abbrev pub InVictim : Physical → ℕ → Type 0
InVictim seg page = seg.victim ≡ Some (page / seg.size)

abbrev pub is_free : Physical → ℕ → Bool
is_free seg block = (use_at seg.first seg.uses block).is_free

abbrev pub is_kept : Physical → ℕ → Bool
is_kept seg block = (use_at seg.first seg.uses block).is_kept

-- how often the block was erased, where it was told not to read as erased and was not erased since
abbrev pub soiled : Physical → ℕ → Option ℕ
soiled seg block = slice_index_or seg.soiled block None

-- how often the block was erased
abbrev pub erasures : Physical → ℕ → ℕ
erasures seg block = (use_at seg.first seg.uses block).wear

-- how often a block of this use was erased as a page of it is programmed next: it is erased before use where it is kept and soiled
abbrev pub wear_with : Use → Option ℕ → ℕ
wear_with u told = cond (u.is_kept && is_some told) (worn u.wear) u.wear

-- how often the block was erased as a page of it is programmed next
abbrev pub wear_of : Physical → ℕ → ℕ
wear_of seg block = wear_with (use_at seg.first seg.uses block) (soiled seg block)

-- what is live on a page
abbrev pub held_at : Physical → ℕ → Option Held
held_at seg page = slice_index_or seg.held page None

abbrev pub stamp_in : Option Held → Option ℕ
stamp_in held = option_map (λ h. h.stamp) held

-- the name leads to a live page of this write sequence number
abbrev pub IsLive : Physical → Pointer → Type 0
IsLive seg at = stamp_in (held_at seg (resolve seg.pairs at.name)) ≡ Some at.stamp

-- the page is one of the segment
abbrev pub InSegment : Physical → ℕ → Type 0
InSegment seg page = (seg.first * seg.size ≤ page) × (page < seg.blocks * seg.size)

-- the name is the old name of a pair
abbrev pub IsOldName : Physical → ℕ → Type 0
IsOldName seg name = (target : ℕ) × Contains seg.pairs (name, target)

-- The block was erased as often as before, and is as soiled; or it was Free and soiled, and was erased once.
abbrev pub CountsErase : Physical → Physical → ℕ → Type 0
CountsErase old new block = ((erasures new block ≡ erasures old block) × (soiled new block ≡ soiled old block))
    ⊎ ((is_free old block ≡ true) × (is_some (soiled old block) ≡ true) × (soiled new block ≡ None)
    × (erasures new block ≡ worn (erasures old block)))

-- each block was erased as often as before and is as soiled, or was Free and soiled and was erased once
pub record CountsErases (old new : Physical) : Type 0 where
  pub each : (block : ℕ) → CountsErase old new block

-- each block was erased as often as before
abbrev pub SameErasures : Physical → Physical → Type 0
SameErasures old new = (block : ℕ) → erasures new block ≡ erasures old block

-- The page is one of the segment and not live, its number is no old name, and it is not in the victim.
pub record IsDead (seg : Physical) (page : ℕ) : Type 0 where
  pub within : InSegment seg page
  pub dead : held_at seg page ≡ None
  pub own : IsOldName seg page → ⊥
  pub apart : InVictim seg page → ⊥

-- no live page has this write sequence number
abbrev pub IsNewStamp : Physical → ℕ → Type 0
IsNewStamp seg stamp = (page : ℕ) (h : Held) → held_at seg page ≡ Some h → h.stamp ≡ stamp → ⊥

-- the name is another page than that one, in another block, which is Free
abbrev pub names_another_free : Physical → ℕ → ℕ → Bool
names_another_free seg page name = not (name == page) && (not (name / seg.size == page / seg.size) && is_free seg (name / seg.size))

-- A pair can be added under this name: there is room, and the name is neither a live page nor an old name.
pub record CanLead (seg : Physical) (name : ℕ) : Type 0 where
  pub room : 0 < seg.pair_room
  pub dead : held_at seg name ≡ None
  pub fresh : IsOldName seg name → ⊥

-- the pairs but those that lead to this page
abbrev pub without_target : ℕ → List (ℕ × ℕ) → List (ℕ × ℕ)
without_target page pairs = filter (λ (pair : ℕ × ℕ). not (pair.1 == page)) pairs

-- How many pages can be programmed for new names: those that are not used in the block that is written to, and those of the
-- Free blocks but one.
abbrev pub room : Physical → ℕ
room seg = seg.left + (seg.free - 1) * seg.size

-- a block of the segment is kept for the cleaner, or is the victim
pub record KeepsBlock (seg : Physical) : Type 0 where
  pub block : ℕ
  pub from : seg.first ≤ block
  pub below : block < seg.blocks
  pub kept : (is_kept seg block ≡ true) ⊎ (seg.victim ≡ Some block)

-- no page of a block that is kept for the cleaner is live, so that the block can be done without
abbrev pub KeptAreDead : Physical → Type 0
KeptAreDead seg = (page : ℕ) (h : Held) → held_at seg page ≡ Some h → is_kept seg (page / seg.size) ≡ false

-- the block was told not to read as erased, and was not erased since
abbrev pub is_soiled : Physical → ℕ → Bool
is_soiled seg block = is_some (soiled seg block)

-- no block that is Free, or waits to be, has to be erased before use
abbrev pub IsClean : Physical → Type 0
IsClean seg = (block : ℕ) → is_kept seg block ≡ true → is_soiled seg block ≡ false

-- the page for the next new name is programmed with no erase before it
abbrev pub NeedsNoErase : Physical → Type 0
NeedsNoErase seg = (0 < seg.left) ⊎ IsClean seg

-- the page is one of those that are programmed next
abbrev pub IsNextToProgram : Physical → ℕ → Type 0
IsNextToProgram seg page = (seg.next ≤ page) × (page < seg.next + seg.left)

-- the segment takes the page as erased
abbrev pub TakenAsErased : Physical → ℕ → Type 0
TakenAsErased seg page = IsNextToProgram seg page ⊎ ((is_kept seg (page / seg.size) ≡ true) × (is_soiled seg (page / seg.size) ≡ false))

-- the page is one of those that the next copies are programmed on
abbrev pub IsNextCopy : Physical → ℕ → Type 0
IsNextCopy seg page = (seg.copy_next ≤ page) × (page < seg.copy_next + seg.copy_left)

-- The image is one of this segment: each live page holds its owner and its number, and what the segment takes as erased is erased.
pub record IsPhysicalOf (image : Image) (seg : Physical) : Type 0 where
  pub holds : (page : ℕ) (h : Held) → held_at seg page ≡ Some h
      → shown_by (page_at image page) ≡ Some (h.tag, h.stamp, main_of (page_at image page))
  pub blank : (page : ℕ) → TakenAsErased seg page → page_at image page ≡ erased
  pub blank_copy : (page : ℕ) → IsNextCopy seg page → page_at image page ≡ erased

-- Some block can be done without on this image: no page of it is programmed next, and each live page of it stands in the victim too.
pub record CanSpareBlock (image : Image) (seg : Physical) : Type 0 where
  pub block : ℕ
  pub from : seg.first ≤ block
  pub below : block < seg.blocks
  pub idle : (page : ℕ) → IsNextToProgram seg page → page / seg.size ≡ block → ⊥
  pub copied : (page : ℕ) (h : Held) → held_at seg page ≡ Some h → page / seg.size ≡ block
      → (q : ℕ) × InVictim seg q × (q / seg.size ≡ block → ⊥) × (shown_by (page_at image q) ≡ shown_by (page_at image page))

-- two segments have the same blocks and pages, and the same wear of each block
pub record SameBlocksAndPages (old new : Physical) : Type 0 where
  pub same_first : new.first ≡ old.first
  pub same_blocks : new.blocks ≡ old.blocks
  pub same_size : new.size ≡ old.size
  pub same_wear : (block : ℕ) → wear_of new block ≡ wear_of old block

-- two segments have the same pairs, the same victim, and the same pages for copies
pub record SameNames (old new : Physical) : Type 0 where
  pub same_pairs : new.pairs ≡ old.pairs
  pub same_pair_room : new.pair_room ≡ old.pair_room
  pub same_victim : new.victim ≡ old.victim
  pub copies : (new.copy_next ≡ old.copy_next) × (new.copy_left ≡ old.copy_left)

-- One page was given out: from the block that is written to, or from a Free block where that one is full. If this one had to be
-- erased before use it was erased, and its wear is that which it was to have.
pub record IsSpent (old new : Physical) : Type 0 where
  pub room : room new + 1 ≡ room old
  pub taken : new.free + cond (nat_le 1 old.left) 0 1 ≡ old.free
  pub soiled : (block : ℕ) → (soiled new block ≡ soiled old block) ⊎ ((is_free old block ≡ true) × (soiled new block ≡ None))

-- no page was given out
pub record IsUnspent (old new : Physical) : Type 0 where
  pub next : new.next ≡ old.next
  pub left : new.left ≡ old.left
  pub free : new.free ≡ old.free
  pub same_free : (block : ℕ) → is_free new block ≡ is_free old block
  pub same_kept : (block : ℕ) → is_kept new block ≡ is_kept old block
  pub same_erasures : (block : ℕ) → erasures new block ≡ erasures old block
  pub same_soiled : (block : ℕ) → soiled new block ≡ soiled old block
  pub copies : (new.copy_next ≡ old.copy_next) × (new.copy_left ≡ old.copy_left)
