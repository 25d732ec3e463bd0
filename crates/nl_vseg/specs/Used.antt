-- How many pages of a block are used, and what a step on the table of blocks does to their number.
use Rattle.std.specs.Prelude.{◌≡◌, ℕ, ◌+◌, ◌<◌, Bool, true, false, length}
use Rattle.nl_blocks.specs.declared.states.BlockState.{BlockState}
use Rattle.nl_blocks.specs.declared.states.BlockState.TheVariants.{Free, Active, Target, Sealed, Victim, Retired}
use Rattle.nl_blocks.specs.Table.{Table}
use Rattle.nl_blocks.specs.Used.{BlocksAreRisen, used_in}

-- a block in this state was taken, and can be programmed
abbrev pub is_open_state : BlockState → Bool
is_open_state Free = false
is_open_state Active = true
is_open_state Target = true
is_open_state Sealed = false
is_open_state Victim = false
is_open_state (Retired names) = false

-- the number of the used pages of a block: the marked ones where it is open, and else all
abbrev pub used_of : Table → ℕ → ℕ
used_of table block = used_in is_open_state table block

-- in each open block the marked pages stand before the others
abbrev pub OpenBlocksAreRisen : Table → Type 0
OpenBlocksAreRisen table = BlocksAreRisen is_open_state table

-- Each page of the block counts as used, and as many pages of each other block are used as before.
pub record IsClosed (block : ℕ) (old new : Table) : Type 0 where
  pub full : used_of new block ≡ new.size
  pub others : (other : ℕ) → other < length old.blocks → (other ≡ block → ⊥) → used_of new other ≡ used_of old other
  pub rising : OpenBlocksAreRisen old → OpenBlocksAreRisen new

-- as many pages of each block are used as before
pub record KeepsUsed (old new : Table) : Type 0 where
  pub each : (block : ℕ) → block < length old.blocks → used_of new block ≡ used_of old block
  pub rising : OpenBlocksAreRisen old → OpenBlocksAreRisen new

-- No page of the block is used.
pub record IsUnusedBlock (block : ℕ) (old new : Table) : Type 0 where
  pub none : used_of new block ≡ 0
  pub rising : OpenBlocksAreRisen old → OpenBlocksAreRisen new

-- One page more of the block is used.
pub record UsesNext (block : ℕ) (old new : Table) : Type 0 where
  pub more : used_of new block ≡ used_of old block + 1
  pub rising : OpenBlocksAreRisen new
