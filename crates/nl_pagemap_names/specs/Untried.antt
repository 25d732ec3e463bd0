-- By block, how many of its pages can be tried, and how many are in use; and which block has most to gain.
use Rattle.std.specs.Prelude.{◌≡◌, ℕ, ◌-◌, ◌/◌, ◌^◌, ◌<◌, ◌≤◌, ◌==◌, Bool, false, List, length, sum, count_by, slice_index_or, Option, Some, None}
use Rattle.std.specs.List.{range_with_len}
use Rattle.nl_pagemap_names.specs.Table.{Table, live_at}
use Rattle.nl_pagemap_names.specs.declared.entry.Entry.{Entry}

-- the count of a block, 0 where there is none such
abbrev pub count_at : List ℕ → ℕ → ℕ
count_at counts i = slice_index_or counts i 0

-- a number is in use, and its page is in this block of the medium
abbrev pub is_in : ℕ → ℕ → Option Entry → Bool
is_in pages block None = false
is_in pages block (Some e) = e.page / pages == block

-- how many numbers are in use whose page is in this block of the medium
abbrev pub used_in : ℕ → Table → ℕ → ℕ
used_in pages t block = count_by (λ n. is_in pages block (live_at t n)) (range_with_len t.first (t.last - t.first))

-- By block how many pages are not tried, the sum of that, and by block a count of those in use.
pub record IsUntried (counts : List ℕ) (total : ℕ) (used : List ℕ) : Type 0 where
  pub total_is : total ≡ sum counts
  pub same : length used ≡ length counts
  pub few : length counts < 2 ^ 32

-- each page of the block was tried, and one of them is not in use
pub record HasDead (pages : ℕ) (counts : List ℕ) (used : ℕ → ℕ) (i : ℕ) : Type 0 where
  pub within : i < length counts
  pub full : count_at counts i ≡ 0
  pub dead : used i < pages

-- such a block, and none such has fewer in use
pub record IsFewest (pages : ℕ) (counts : List ℕ) (used : ℕ → ℕ) (i : ℕ) : Type 0 where
  pub has : HasDead pages counts used i
  pub fewest : (j : ℕ) → HasDead pages counts used j → used i ≤ used j

-- the best of the first blocks
abbrev pub FewestBelow : ℕ → List ℕ → (ℕ → ℕ) → ℕ → Option ℕ → Type 0
FewestBelow pages counts used n None = (j : ℕ) → j < n → HasDead pages counts used j → ⊥
FewestBelow pages counts used n (Some i) =
    (i < n) × HasDead pages counts used i × ((j : ℕ) → j < n → HasDead pages counts used j → used i ≤ used j)
