-- Old names: where they lead, and how many stand in a block.
use Rattle.std.specs.Prelude.{◌≡◌, ℕ, ◌+◌, ◌/◌, ◌<◌, ◌^◌, ◌==◌, List, cond, length, sum_by, slice_index_or}
use Rattle.nl_remap.specs.Table.{IsRemap}
use Rattle.nl_remap.specs.declared.links.Link.{Link}

-- The pairs by rising old name, for how many more there is room, the pages of a block, and the blocks of the medium.
pub record NameTable : Type 0 where
  pub pairs : List Link
  pub room : ℕ
  pub size : ℕ
  pub blocks : ℕ

-- how many old names stand in a block of so many pages
abbrev pub names_among : ℕ → ℕ → List Link → ℕ
names_among size block pairs = sum_by (λ p. cond (p.from / size == block) 1 0) pairs

-- the counts are those of the blocks
pub record AreCounted (size : ℕ) (pairs : List Link) (counts : List ℕ) : Type 0 where
  pub each : (block : ℕ) → block < length counts → slice_index_or counts block 0 ≡ names_among size block pairs

-- what holds of every table
pub record IsNameTable (t : NameTable) : Type 0 where
  pub some : 0 < t.size
  pub few : length t.pairs + t.room < 2 ^ 32
  pub remap : IsRemap t.pairs

-- what the table keeps: where the names lead, and the counts of names by block
pub record AreKeptNames (size room limit : ℕ) (pairs : List Link) (counts : List ℕ) : Type 0 where
  pub some : 0 < size
  pub whole : length pairs + room ≡ limit
  pub fits : limit < 2 ^ 32
  pub remap : IsRemap pairs
  pub counted : AreCounted size pairs counts
