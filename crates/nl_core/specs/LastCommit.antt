-- What stays of a core where nothing was committed, and the room that a call needs to go without a commit.
use Rattle.std.specs.Prelude.{◌≡◌, ℕ, ◌+◌, ◌≤◌, length}
use Rattle.nl_iface.specs.Calls.{KeepsMedium}
use Rattle.nl_iface.specs.declared.counts.Counts.{Ghosts}
use Rattle.nl_meta.specs.Pages.{most}
use Rattle.nl_core.specs.Core.{begun_of, names_of}
use Rattle.nl_core.specs.declared.state.Core.{Core}

-- No transaction was begun, and the last commit is the one that it was: its moment, and how many calls it made durable.
pub record KeepsCommit {D : Type 0} (old new : Core D) : Type 0 where
  pub begun : begun_of new ≡ begun_of old
  pub moment : new.moment ≡ old.moment
  pub committed : new.committed ≡ old.committed

-- The last commit stays, and so do the dirty pages of the metadata. The device has room for at most so many pages less.
pub record KeepsRoom {D : Type 0} (g : Ghosts D) (pages : ℕ) (old new : Core D) : Type 0 where
  pub commit : KeepsCommit old new
  pub dirty : new.meta.dirty ≡ old.meta.dirty
  pub room : (names_of g old).space.room ≤ (names_of g new).space.room + pages

-- So many more pages of the metadata may become dirty before a commit, and the device has room for so many pages before a round of
-- reclaiming.
pub record HasRoomAtOnce {D : Type 0} (g : Ghosts D) (dirty pages : ℕ) (v : Core D) : Type 0 where
  pub dirty_room : length v.meta.dirty + dirty ≤ most
  pub page_room : pages ≤ (names_of g v).space.room

-- The medium is as it was but for reads that failed: nothing was programmed or erased, and no program or erase failed. The last commit
-- stays.
pub record LeavesMedium {D : Type 0} (g : Ghosts D) (old new : Core D) : Type 0 where
  pub medium : KeepsMedium g old.device new.device
  pub commit : KeepsCommit old new

-- A core whose calls are counted keeps its last commit. One whose last commit has another moment does not, nor one with another count of
-- durable calls.
abbrev pub CommitRows : {D : Type 0} → Ghosts D → Type 0
CommitRows {D} g =
    (v : Core D) → KeepsCommit v (record v { count = v.count + 1 })
    × (KeepsCommit v (record v { moment = v.moment + 1 }) → ⊥)
    × (KeepsCommit v (record v { committed = v.committed + 1 }) → ⊥)
