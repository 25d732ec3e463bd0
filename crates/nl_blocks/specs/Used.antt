-- How many pages of a block are used, where its pages are marked in rising order: those before the first one that is not marked.
use Rattle.std.specs.Prelude.{◌≡◌, ℕ, ◌+◌, ◌≤◌, List, [], ◌∷◌, Bool, true, false, cond, slice_index_or}
use Rattle.nl_blocks.specs.declared.states.BlockState.{BlockState}
use Rattle.nl_blocks.specs.declared.states.BlockState.TheVariants.{Free, Active, Target, Sealed, Victim, Retired}
use Rattle.nl_blocks.specs.declared.states.Page.{Page}
use Rattle.nl_blocks.specs.Table.{BlockRow, Table, HasBlock, block_at, new_page}

-- the number of the pages before the first one that is not marked
unfoldable pub first_unmarked : List Page → ℕ
first_unmarked [] = 0
first_unmarked (page ∷ pages) = cond page.marked (first_unmarked pages + 1) 0

abbrev pub is_active_state : BlockState → Bool
is_active_state Free = false
is_active_state Active = true
is_active_state Target = false
is_active_state Sealed = false
is_active_state Victim = false
is_active_state (Retired names) = false

abbrev pub is_target_state : BlockState → Bool
is_target_state Free = false
is_target_state Active = false
is_target_state Target = true
is_target_state Sealed = false
is_target_state Victim = false
is_target_state (Retired names) = false

-- how many pages are used of a row in a state of this kind; one in another state counts as full
abbrev pub row_used : (BlockState → Bool) → ℕ → BlockRow → ℕ
row_used kind size row = cond (kind row.state) (first_unmarked row.pages) size

-- how many pages are used of a block of the table, by its kind of state
unfoldable pub used_in : (BlockState → Bool) → Table → ℕ → ℕ
used_in kind t block = row_used kind t.size (block_at t block)

-- No page behind the first one that is not marked is marked.
pub record IsRisen (pages : List Page) : Type 0 where
  pub behind : (k : ℕ) → first_unmarked pages ≤ k → (slice_index_or pages k new_page).marked ≡ false

-- in each block in a state of this kind, no page behind the first one that is not marked is marked
pub record BlocksAreRisen (kind : BlockState → Bool) (t : Table) : Type 0 where
  pub each : (block : ℕ) → HasBlock t block → kind (block_at t block).state ≡ true → IsRisen (block_at t block).pages

-- in another table as many pages of the block are used
abbrev pub SameUsed : (BlockState → Bool) → ℕ → Table → Table → Type 0
SameUsed kind block old new = used_in kind new block ≡ used_in kind old block
