-- Which block the cleaner takes.
use Rattle.std.specs.Prelude.{◌≡◌, ℕ, ◌+◌, ◌<◌, ◌≤◌, true}
use Rattle.nl_blocks.specs.Table.{Table, HasBlock, block_at, dead_count, is_sealed, wear_of}

abbrev pub IsSealed : Table → ℕ → Type 0
IsSealed t block = HasBlock t block × (is_sealed (block_at t block) ≡ true)

-- The block is Sealed and has a dead page. No Sealed block has more, and none of a lesser number as many.
pub record IsMostDead (t : Table) (block : ℕ) : Type 0 where
  pub sealed : IsSealed t block
  pub some : 0 < dead_count (block_at t block)
  pub most : (other : ℕ) → IsSealed t other → dead_count (block_at t other) ≤ dead_count (block_at t block)
  pub first : (other : ℕ) → IsSealed t other → other < block → dead_count (block_at t other) < dead_count (block_at t block)

-- The block is Sealed. No Sealed block has less wear, and none of a lesser number as little.
pub record IsColdest (t : Table) (block : ℕ) : Type 0 where
  pub sealed : IsSealed t block
  pub least : (other : ℕ) → IsSealed t other → wear_of (block_at t block) ≤ wear_of (block_at t other)
  pub first : (other : ℕ) → IsSealed t other → other < block → wear_of (block_at t block) < wear_of (block_at t other)

-- no block of the table exceeds this wear by 16 or more
abbrev pub IsLevel : Table → ℕ → Type 0
IsLevel t wear = (block : ℕ) → HasBlock t block → wear_of (block_at t block) < wear + 16
