-- What a stop within a write of the journal leaves.
use Rattle.std.specs.Prelude.{◌≡◌, ◌⊎◌, ℕ, ◌+◌, true, length}
use Rattle.nl_field.specs.declared.shape.Shape.{Shape}
use Rattle.nl_iface.specs.Calls.{LeavesAt, stored}
use Rattle.nl_iface.specs.Stored.{NothingStoredBeyond, NoneFailed, SameNamed, Stored, Value}
use Rattle.nl_iface.specs.declared.counts.Counts.{Ghosts}
use Rattle.nl_meta.specs.Committed.{VirtualMap, committed}
use Rattle.nl_meta.specs.Pages.{Pages, dirty_pages}
use Rattle.nl_journal.specs.Committing.{Decides, ahead_on, aimed, committed_on, finished_on}
use Rattle.nl_journal.specs.Outcomes.{Agrees, bytes_of}
use Rattle.nl_journal.specs.Progress.{Progress, begun}
use Rattle.nl_journal.specs.Transaction.{with_pages}

-- what is stored has these committed pages
abbrev pub StoresCommitted : Shape → VirtualMap → Stored → Type 0
StoresCommitted shape base c = Agrees shape.vaddrs (committed shape (bytes_of c.virtual)) base

-- Nothing but values of addresses changed: the pages under names are the same, and a firm segment stays firm where no write failed before.
pub record LeavesRest (count : ℕ) (failed : ℕ → Value → Type 0) (old c : Stored) : Type 0 where
  pub beyond : NothingStoredBeyond count c
  pub firm : old.firm ≡ true → NoneFailed count failed → c.firm ≡ true
  pub named : SameNamed old c

-- The committed pages are these, and the rest is as it was on the device.
abbrev pub LeavesOne : {D : Type 0} → Ghosts D → D → VirtualMap → Stored → Type 0
LeavesOne g s a c = StoresCommitted (g.shape s) a c × LeavesRest (g.shape s).vaddrs (g.failed s) (stored g s) c

-- The committed pages are these or those, and the rest is as it was on the device.
abbrev pub LeavesEither : {D : Type 0} → Ghosts D → D → (a b : VirtualMap) → Stored → Type 0
LeavesEither g s a b c = (StoresCommitted (g.shape s) a c ⊎ StoresCommitted (g.shape s) b c) × LeavesRest (g.shape s).vaddrs (g.failed s) (stored g s) c

-- The committed pages are one of three maps, and the rest is as it was on the device.
abbrev pub LeavesOneOf : {D : Type 0} → Ghosts D → D → (a b d : VirtualMap) → Stored → Type 0
LeavesOneOf g s a b d c =
    (StoresCommitted (g.shape s) a c ⊎ (StoresCommitted (g.shape s) b c ⊎ StoresCommitted (g.shape s) d c))
    × LeavesRest (g.shape s).vaddrs (g.failed s) (stored g s) c

-- A unit: what is committed after it and once all is finished, and what a stop within it leaves.
pub record UnitWrites {D : Type 0} (g : Ghosts D) (done : Type 0) (p new_p : Progress) (pages new_pages : Pages)
    (old new : D) : Type 0 where
  pub commits : done → Agrees (g.shape old).vaddrs (committed_on g new) (aimed p.phase pages.frozen (committed_on g old))
  pub remains : (done → ⊥) → Agrees (g.shape old).vaddrs (committed_on g new) (committed_on g old)
  pub same_ahead : Agrees (g.shape old).vaddrs (ahead_on g new new_p new_pages) (ahead_on g old p pages)
  -- the pages of before, or those that it commits; and once it is done, these
  pub left : LeavesAt g done (LeavesEither g old (committed_on g old) (aimed p.phase pages.frozen (committed_on g old)))
      (LeavesOne g old (aimed p.phase pages.frozen (committed_on g old))) old new

-- The units that are left.
pub record FinishWrites {D : Type 0} (g : Ghosts D) (done : Type 0) (p new_p : Progress) (pages new_pages : Pages)
    (old new : D) : Type 0 where
  pub decided : ((new_p.number ≡ p.number) × Agrees (g.shape old).vaddrs (committed_on g new) (committed_on g old))
      ⊎ ((new_p.number ≡ begun p (length pages.frozen.addresses))
      × Agrees (g.shape old).vaddrs (committed_on g new) (finished_on g old p pages))
  pub same_finished : Agrees (g.shape old).vaddrs (finished_on g new new_p new_pages) (finished_on g old p pages)
  pub left : LeavesAt g done (LeavesEither g old (committed_on g old) (finished_on g old p pages))
      (LeavesOne g old (finished_on g old p pages)) old new

-- A transaction of the dirty pages, with nothing frozen before.
pub record DirtyWrites {D : Type 0} (g : Ghosts D) (done : Type 0) (p new_p : Progress) (pages new_pages : Pages)
    (old new : D) : Type 0 where
  pub decided : ((new_p.number ≡ p.number) × Agrees (g.shape old).vaddrs (committed_on g new) (committed_on g old))
      ⊎ ((new_p.number ≡ p.number + 1)
      × Agrees (g.shape old).vaddrs (committed_on g new) (with_pages (dirty_pages pages) (committed_on g old)))
  pub same_ahead : Agrees (g.shape old).vaddrs (ahead_on g new new_p new_pages) (with_pages (dirty_pages pages) (committed_on g old))
  pub left : LeavesAt g done (LeavesEither g old (committed_on g old) (with_pages (dirty_pages pages) (committed_on g old)))
      (LeavesOne g old (with_pages (dirty_pages pages) (committed_on g old))) old new

-- A commit: which pages are committed after it, what is committed once all is finished, and what a stop within it leaves.
pub record CommitWrites {D : Type 0} (g : Ghosts D) (done : Type 0) (p new_p : Progress) (pages new_pages : Pages)
    (old new : D) : Type 0 where
  pub decided : Decides (g.shape old).vaddrs p pages (committed_on g old) (committed_on g new) new_p.number
  pub same_ahead : Agrees (g.shape old).vaddrs (ahead_on g new new_p new_pages) (ahead_on g old p pages)
  -- the pages of before, or those with the frozen ones, or those with the dirty ones too; and once it is done, the last
  pub left : LeavesAt g done (LeavesOneOf g old (committed_on g old) (finished_on g old p pages) (ahead_on g old p pages))
      (LeavesOne g old (ahead_on g old p pages)) old new
