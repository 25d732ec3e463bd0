-- How the state of a physical segment is seen, and which states are formed.
use Rattle.std.specs.Prelude.{◌≡◌, ℕ, ◌+◌, ◌-◌, ◌*◌, ◌/◌, ◌^◌, ◌<◌, ◌≤◌, true, false, [], length, map, replicate, slice_index_or, Some, None, IsTrue, Option, List}
use Rattle.nl_field.specs.Spelling.{is_stamp}
use Rattle.nl_field.specs.declared.shape.Shape.{Shape}
use Rattle.nl_nand.specs.declared.geometry.Geometry.{Geometry}
use Rattle.nl_blocks.specs.declared.states.BlockState.TheVariants.{Free, Active, Target, Victim, Retired}
use Rattle.nl_blocks.specs.declared.states.PageState.{PageState}
use Rattle.nl_blocks.specs.declared.states.PageState.TheVariants.{Dead, Live}
use Rattle.nl_blocks.specs.Table.{BlockRow, Table, HasBlock, block_at, dead_count, free_count, HasPage, page_at}
use Rattle.nl_remap.specs.Links.{HasLink}
use Rattle.nl_remap.specs.Table.{IsOld, IsRemap, told}
use Rattle.nl_remap.specs.declared.links.Link.{Link}
use Rattle.nl_pseg_names.specs.OldNames.{names_among}
use Rattle.nl_pseg.specs.Segment.{Physical, CleaningRow, InSegment, IsNextToProgram, IsNextCopy, held_at}
use Rattle.nl_pseg_blocks.specs.Uses.{ActiveAndTargetAreRisen, use_at, use_of, use_with}
use Rattle.nl_pseg.specs.declared.held.Held.{Held}
use Rattle.nl_pseg.specs.Kept.{Kept}

-- what cleaning knows of a block
abbrev pub row_of : BlockRow → CleaningRow
row_of row = record { state = row.state; dead = dead_count row }

abbrev pub seen : Kept → Physical
seen s = record {
  first = s.blocks.first;
  blocks = s.blocks.first + length s.blocks.blocks;
  size = s.blocks.size;
  held = s.held.items;
  pairs = told s.names.pairs;
  pair_room = s.names.room;
  next = s.active * s.blocks.size + s.used;
  left = s.blocks.size - s.used;
  free = free_count s.blocks;
  uses = map use_of s.blocks.blocks;
  soiled = s.soiled.items;
  copy_next = s.target * s.blocks.size + s.filled;
  copy_left = s.blocks.size - s.filled;
  victim = s.victim;
  rows = map row_of s.blocks.blocks;
}

-- the segment of a shape, of which no page was used
abbrev pub new_segment : Shape → Physical
new_segment shape = record {
  first = shape.vblocks;
  blocks = shape.blocks;
  size = shape.pages;
  held = replicate (shape.blocks * shape.pages) None;
  pairs = [];
  pair_room = 4 * shape.pages;
  next = shape.vblocks * shape.pages + shape.pages;
  left = 0;
  free = shape.pblocks;
  uses = replicate shape.pblocks (use_with true 0);
  soiled = replicate shape.blocks None;
  copy_next = shape.vblocks * shape.pages + shape.pages;
  copy_left = 0;
  victim = None;
  rows = replicate shape.pblocks (record { state = Free; dead = shape.pages });
}

-- A live page is one of the segment, in a block that is neither Free nor waits to be, and not one of those that are programmed next.
pub record IsLivePlace (seg : Physical) (page : ℕ) (h : Held) : Type 0 where
  pub within : InSegment seg page
  pub in_use : (use_at seg.first seg.uses (page / seg.size)).is_kept ≡ false
  pub behind : IsNextToProgram seg page → ⊥
  pub spelled : IsTrue (is_stamp h.stamp)

pub record AreLivePlaces (seg : Physical) : Type 0 where
  pub each : (page : ℕ) (h : Held) → held_at seg page ≡ Some h → IsLivePlace seg page h

abbrev pub state_for : Option Held → PageState
state_for None = Dead
state_for (Some h) = Live

-- Each page is marked as it is: live, or dead. Where pages are still to be used they are marked in rising order.
pub record AreMarked (table : Table) (held : List (Option Held)) : Type 0 where
  pub rising : ActiveAndTargetAreRisen table
  pub each : (page : ℕ) → HasPage table page → (page_at table page).state ≡ state_for (slice_index_or held page None)

-- An old name is that of a page in a block that is not Free, and not one of those that are programmed next.
pub record IsOldNameInUse (seg : Physical) (name : ℕ) : Type 0 where
  pub in_use : (use_at seg.first seg.uses (name / seg.size)).is_free ≡ false
  pub behind : IsNextToProgram seg name → ⊥
  pub copy_behind : IsNextCopy seg name → ⊥

-- The pairs of the state: each old name stands, and is no live page; each pair leads to a live page; a block that waits for its names
-- waits for as many as stand in it.
pub record IsNamed (s : Kept) : Type 0 where
  pub size : s.names.size ≡ s.blocks.size
  pub blocks : s.names.blocks ≡ s.blocks.first + length s.blocks.blocks
  pub room : length s.names.pairs + s.names.room ≡ 4 * s.blocks.size
  pub remap : IsRemap s.names.pairs
  pub standing : (name : ℕ) → IsOld s.names.pairs name → IsOldNameInUse (seen s) name
  pub own : (page : ℕ) (h : Held) → held_at (seen s) page ≡ Some h → IsOld s.names.pairs page → ⊥
  pub to_live : (pair : Link) → HasLink s.names.pairs pair → (h : Held) × (held_at (seen s) pair.to ≡ Some h)
  pub waits : (block names : ℕ) → HasBlock s.blocks block → (block_at s.blocks block).state ≡ Retired names
      → names ≡ names_among s.blocks.size block s.names.pairs

-- Of the blocks in use one is written to, and one takes copies, where they are not full; one is the victim, where it is in hand; and
-- the others are Sealed.
pub record HasPhases (s : Kept) : Type 0 where
  pub target_in : HasBlock s.blocks s.target
  pub filled_fits : s.filled ≤ s.blocks.size
  pub filling : s.filled < s.blocks.size → (block_at s.blocks s.target).state ≡ Target
  pub one_active : (block : ℕ) → HasBlock s.blocks block → (block_at s.blocks block).state ≡ Active
      → (block ≡ s.active) × (s.used < s.blocks.size)
  pub one_target : (block : ℕ) → HasBlock s.blocks block → (block_at s.blocks block).state ≡ Target
      → (block ≡ s.target) × (s.filled < s.blocks.size)
  pub one_victim : (block : ℕ) → HasBlock s.blocks block → (block_at s.blocks block).state ≡ Victim → s.victim ≡ Some block
  pub victim_in : (block : ℕ) → s.victim ≡ Some block → HasBlock s.blocks block × ((block_at s.blocks block).state ≡ Victim)

-- what holds of every state
pub record IsPhysicalFormed (s : Kept) : Type 0 where
  pub some : 0 < s.blocks.size
  pub numbers : (s.blocks.first + length s.blocks.blocks) * s.blocks.size < 2 ^ 32
  pub pages : length s.held.items ≡ (s.blocks.first + length s.blocks.blocks) * s.blocks.size
  pub marks : length s.soiled.items ≡ s.blocks.first + length s.blocks.blocks
  pub active_in : HasBlock s.blocks s.active
  pub used_fits : s.used ≤ s.blocks.size
  pub taken : s.used < s.blocks.size → (block_at s.blocks s.active).state ≡ Active
  pub places : AreLivePlaces (seen s)
  pub marked : AreMarked s.blocks s.held.items

-- the medium has the pages of the segment's blocks, and at least as many blocks
pub record FitsPhysical (geometry : Geometry) (seg : Physical) : Type 0 where
  pub pages : geometry.pages ≡ seg.size
  pub blocks : seg.blocks ≤ geometry.blocks

-- what holds beside it of the pairs and of the blocks that are cleaned, between two calls
pub record IsTied (s : Kept) : Type 0 where
  pub named : IsNamed s
  pub phases : HasPhases s
  pub behind : (page : ℕ) (h : Held) → held_at (seen s) page ≡ Some h → IsNextCopy (seen s) page → ⊥
