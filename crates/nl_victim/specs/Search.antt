-- What a search of the blocks below a number has found.
use Rattle.std.specs.Prelude.{◌≡◌, ℕ, ◌<◌, ◌≤◌, Option, MatchOption}
use Rattle.nl_blocks.specs.Table.{Table, HasBlock, block_at, dead_count, wear_of}
use Rattle.nl_victim.specs.Victims.{IsSealed}

-- of the Sealed blocks below `end`, the block is the first of those with the most dead pages
pub record IsMostDeadBelow (t : Table) (end block : ℕ) : Type 0 where
  pub below : block < end
  pub sealed : IsSealed t block
  pub some : 0 < dead_count (block_at t block)
  pub most : (other : ℕ) → IsSealed t other → other < end → dead_count (block_at t other) ≤ dead_count (block_at t block)
  pub first : (other : ℕ) → IsSealed t other → other < block → dead_count (block_at t other) < dead_count (block_at t block)

abbrev pub MostDeadBelow : Table → ℕ → Option ℕ → Type 0
MostDeadBelow t end best =
    MatchOption best ((other : ℕ) → IsSealed t other → other < end → dead_count (block_at t other) ≡ 0) (IsMostDeadBelow t end)

-- of the Sealed blocks below `end`, the block is the first of those with the least wear
pub record IsColdestBelow (t : Table) (end block : ℕ) : Type 0 where
  pub below : block < end
  pub sealed : IsSealed t block
  pub least : (other : ℕ) → IsSealed t other → other < end → wear_of (block_at t block) ≤ wear_of (block_at t other)
  pub first : (other : ℕ) → IsSealed t other → other < block → wear_of (block_at t block) < wear_of (block_at t other)

abbrev pub ColdestBelow : Table → ℕ → Option ℕ → Type 0
ColdestBelow t end best = MatchOption best ((other : ℕ) → IsSealed t other → other < end → ⊥) (IsColdestBelow t end)

-- no block below `end` has more wear
pub record WornBelow (t : Table) (end block : ℕ) : Type 0 where
  pub has : HasBlock t block
  pub most : (other : ℕ) → HasBlock t other → other < end → wear_of (block_at t other) ≤ wear_of (block_at t block)
