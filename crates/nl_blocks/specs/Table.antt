-- What the table of the blocks of one segment says.
use Rattle.std.specs.Prelude.{◌≡◌, ℕ, suc, zero, ◌+◌, ◌-◌, ◌*◌, ◌/◌, ◌%◌, ◌^◌, ◌<◌, ◌≤◌, List, [], length, Bool, true, false, replicate, slice_index_or, slice_set, count_by, map, min, All, Option, Some, None, MatchOption, if◌then◌else◌}
use Rattle.nl_blocks.specs.declared.states.BlockState.{BlockState}
use Rattle.nl_blocks.specs.declared.states.BlockState.TheVariants.{Free, Active, Target, Sealed, Victim, Retired}
use Rattle.nl_blocks.specs.declared.states.PageState.{PageState}
use Rattle.nl_blocks.specs.declared.states.PageState.TheVariants.{Dead, Live}
use Rattle.nl_blocks.specs.declared.states.Page.{Page}

-- what the table says of one block: its state, its wear, and its pages in rising order
pub record BlockRow : Type 0 where
  pub state : BlockState
  pub wear : ℕ
  pub pages : List Page

-- the blocks with numbers from `first` on, of `size` pages each
pub record Table : Type 0 where
  pub first : ℕ
  pub size : ℕ
  pub blocks : List BlockRow

abbrev pub is_free_state : BlockState → Bool
is_free_state Free = true
is_free_state Active = false
is_free_state Target = false
is_free_state Sealed = false
is_free_state Victim = false
is_free_state (Retired names) = false

abbrev pub is_sealed_state : BlockState → Bool
is_sealed_state Free = false
is_sealed_state Active = false
is_sealed_state Target = false
is_sealed_state Sealed = true
is_sealed_state Victim = false
is_sealed_state (Retired names) = false

abbrev pub is_retired_state : BlockState → Bool
is_retired_state Free = false
is_retired_state Active = false
is_retired_state Target = false
is_retired_state Sealed = false
is_retired_state Victim = false
is_retired_state (Retired names) = true

-- the names for which a Retired block waits
abbrev pub names_of : BlockState → ℕ
names_of Free = 0
names_of Active = 0
names_of Target = 0
names_of Sealed = 0
names_of Victim = 0
names_of (Retired names) = names

-- the state of an erased block of which so many names are in use
abbrev pub after_erase : ℕ → BlockState
after_erase zero = Free
after_erase (suc names) = Retired (suc names)

abbrev pub is_dead_state : PageState → Bool
is_dead_state Dead = true
is_dead_state Live = false

abbrev pub is_free : BlockRow → Bool
is_free row = is_free_state row.state

abbrev pub is_sealed : BlockRow → Bool
is_sealed row = is_sealed_state row.state

abbrev pub is_dead : Page → Bool
is_dead page = is_dead_state page.state

abbrev pub dead_count : BlockRow → ℕ
dead_count row = count_by is_dead row.pages

-- a page that was never marked
abbrev pub new_page : Page
new_page = record { state = Dead; marked = false }

-- the page as it is when its block is taken
abbrev pub unmarked : Page → Page
unmarked page = record { state = page.state; marked = false }

-- a block that was never used
abbrev pub new_row : ℕ → BlockRow
new_row size = record { state = Free; wear = 0; pages = replicate size new_page }

abbrev pub no_row : BlockRow
no_row = record { state = Free; wear = 0; pages = [] }

abbrev pub row_at : List BlockRow → ℕ → BlockRow
row_at rows i = slice_index_or rows i no_row

-- a new table
abbrev pub new_table : ℕ → ℕ → ℕ → Table
new_table first count size = record { first = first; size = size; blocks = replicate count (new_row size) }

-- the block of this number is in the table
pub record HasBlock (t : Table) (block : ℕ) : Type 0 where
  pub from : t.first ≤ block
  pub below : block < t.first + length t.blocks

abbrev pub block_at : Table → ℕ → BlockRow
block_at t block = row_at t.blocks (block - t.first)

-- the page of this number is in a block of the table
abbrev pub HasPage : Table → ℕ → Type 0
HasPage t page = HasBlock t (page / t.size)

abbrev pub page_at : Table → ℕ → Page
page_at t page = slice_index_or (block_at t (page / t.size)).pages (page % t.size) new_page

-- one block replaced
abbrev pub with_block : Table → ℕ → BlockRow → Table
with_block t block row = record { first = t.first; size = t.size; blocks = slice_set t.blocks (block - t.first) row }

-- the block in another state
abbrev pub in_state : BlockRow → BlockState → BlockRow
in_state row state = record { state = state; wear = row.wear; pages = row.pages }

-- the block with the page at this offset marked
abbrev pub with_mark : BlockRow → ℕ → PageState → BlockRow
with_mark row at state =
    record { state = row.state; wear = row.wear; pages = slice_set row.pages at (record { state = state; marked = true }) }

-- the block in a new state with no page marked
abbrev pub taken : BlockRow → BlockState → BlockRow
taken row state = record { state = state; wear = row.wear; pages = map unmarked row.pages }

-- the wear after one more erase; it stands at the end of its type
abbrev pub worn : ℕ → ℕ
worn wear = min (wear + 1) (2 ^ 32 - 1)

-- the block after one more erase, with so many names in use
abbrev pub erased_row : BlockRow → ℕ → BlockRow
erased_row row names = record { state = after_erase names; wear = worn row.wear; pages = row.pages }

-- the block in use after one more erase
abbrev pub worn_row : BlockRow → BlockRow
worn_row row = record { state = row.state; wear = worn row.wear; pages = row.pages }

-- each page before this one is marked
abbrev pub AreMarkedBefore : List Page → ℕ → Type 0
AreMarkedBefore pages next = (k : ℕ) → k < next → (slice_index_or pages k new_page).marked ≡ true

-- the first page that is not marked, or the number of pages
pub record IsFirstUnmarked (pages : List Page) (next : ℕ) : Type 0 where
  pub within : next ≤ length pages
  pub before : AreMarkedBefore pages next
  pub here : (slice_index_or pages next new_page).marked ≡ false

-- the number of Free blocks
abbrev pub free_count : Table → ℕ
free_count t = count_by is_free t.blocks

-- Of the first `n` rows, no row passes the test.
abbrev pub NonePass : (BlockRow → Bool) → List BlockRow → ℕ → Type 0
NonePass test rows n = (j : ℕ) → j < n → test (row_at rows j) ≡ false

-- Of those of the first `n` rows that pass the test, row `i` is the first of those with the least key.
pub record IsFirstLeast (test : BlockRow → Bool) (key : BlockRow → ℕ) (rows : List BlockRow) (n i : ℕ) : Type 0 where
  pub within : i < n
  pub passes : test (row_at rows i) ≡ true
  pub least : (j : ℕ) → j < n → test (row_at rows j) ≡ true → key (row_at rows i) ≤ key (row_at rows j)
  pub earlier : (j : ℕ) → j < i → test (row_at rows j) ≡ true → key (row_at rows i) < key (row_at rows j)

-- what a search of the first `n` rows has found
abbrev pub BestOf : (BlockRow → Bool) → (BlockRow → ℕ) → List BlockRow → ℕ → Option ℕ → Type 0
BestOf test key rows n best = MatchOption best (NonePass test rows n) (IsFirstLeast test key rows n)

abbrev pub wear_of : BlockRow → ℕ
wear_of row = row.wear

-- the wear of a Free block
abbrev pub wear_if_free : BlockRow → Option ℕ
wear_if_free row = if is_free row then Some row.wear else None

-- The Free block with the least wear, of equals the one with the least number.
pub record IsLeastWornFree (t : Table) (block : ℕ) : Type 0 where
  pub has : HasBlock t block
  pub chosen : IsFirstLeast is_free wear_of t.blocks (length t.blocks) (block - t.first)

-- The page is the first of its block that was not marked since the block was taken.
pub record IsNextPage (t : Table) (block page : ℕ) : Type 0 where
  pub in_block : page / t.size ≡ block
  pub unmarked : (page_at t page).marked ≡ false
  pub earlier : (other : ℕ) → other / t.size ≡ block → other < page → (page_at t other).marked ≡ true

-- the table with one page marked
abbrev pub with_page : Table → ℕ → PageState → Table
with_page t page state = let block = page / t.size in with_block t block (with_mark (block_at t block) (page % t.size) state)

-- Each block has `size` pages, a Retired block has a name, and the number behind the last page is below 2^32.
pub record IsRow (size : ℕ) (row : BlockRow) : Type 0 where
  pub pages : length row.pages ≡ size
  pub names : is_retired_state row.state ≡ true → 0 < names_of row.state

pub record IsBlockTable (t : Table) : Type 0 where
  pub some : 0 < t.size
  pub numbers : (t.first + length t.blocks) * t.size < 2 ^ 32
  pub each : All (IsRow t.size) t.blocks

-- What is kept of the table beside its rows: the number of Free blocks, and the wear of each.
pub record IsTableSummary (t : Table) (free : ℕ) (waiting : List (Option ℕ)) : Type 0 where
  pub table : IsBlockTable t
  pub counted : free ≡ free_count t
  pub keyed : waiting ≡ map wear_if_free t.blocks
