-- What a table of numbers has: which numbers are in use, and the page of each.
use Rattle.std.specs.Prelude.{◌≡◌, ℕ, ◌<◌, ◌≤◌, Bool, true, false, cond, List, length, set, slice_index_or, Option, Some, None}
use Rattle.nl_pagemap_names.specs.declared.entry.Entry.{Entry}

-- The first number that is given out, and the one behind the last; by number what it was last given, and whether it is in use.
pub record Table : Type 0 where
  pub first : ℕ
  pub last : ℕ
  pub entries : List (Option Entry)
  pub used : List Bool

abbrev pub entry_in : List (Option Entry) → ℕ → Option Entry
entry_in entries n = slice_index_or entries n None

abbrev pub live_in : List (Option Entry) → List Bool → ℕ → Option Entry
live_in entries used n = cond (slice_index_or used n false) (entry_in entries n) None

-- what the number was last given
abbrev pub entry_at : Table → ℕ → Option Entry
entry_at t n = entry_in t.entries n

-- the entry of a number that is in use
abbrev pub live_at : Table → ℕ → Option Entry
live_at t n = live_in t.entries t.used n

-- the number is in use with this entry
abbrev pub given : ℕ → Entry → Table → Table
given n e t = record t { entries = set t.entries n (Some e); used = set t.used n true }

-- the number is not in use
abbrev pub released : ℕ → Table → Table
released n t = record t { used = set t.used n false }

-- each number that has a place for an entry can be in use
pub record IsTable (t : Table) : Type 0 where
  pub same : length t.used ≡ length t.entries

-- the number can be given out, and no lesser one can
pub record IsFirstFree (t : Table) (n : ℕ) : Type 0 where
  pub from : t.first ≤ n
  pub below : n < t.last
  pub free : live_at t n ≡ None
  pub least : (m : ℕ) → t.first ≤ m → m < n → live_at t m ≡ None → ⊥

-- numbers that are not in use have no entry, and the others have theirs
pub record ForgetsReleased (s t : Table) : Type 0 where
  pub first : t.first ≡ s.first
  pub last : t.last ≡ s.last
  pub used : t.used ≡ s.used
  pub count : length t.entries ≡ length s.entries
  pub entries : (n : ℕ) → entry_at t n ≡ live_at s n
