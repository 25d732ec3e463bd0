-- Between two commits: what leaves the addresses as they were, and the metadata as it changes; and after one pages that are due are freed,
-- and callbacks acknowledged.
use Rattle.std.specs.Prelude.{◌≡◌, ℕ, ◌≤◌, List, ◌++◌, length}
use Rattle.nl_field.specs.declared.pointer.Pointer.{Pointer}
use Rattle.nl_field.specs.declared.pointer.Tag.{Tag}
use Rattle.nl_iface.specs.Calls.{KeepsVirtual}
use Rattle.nl_iface.specs.Device.{IsVolumeShape}
use Rattle.nl_iface.specs.Moves.{Acknowledges}
use Rattle.nl_iface.specs.declared.counts.Counts.{Ghosts}
use Rattle.nl_spec_holders.specs.Holding.{Holding, HoldsPages, KeepsCommitted}
use Rattle.nl_spec_holders.specs.Laws.{PreservesHolding, OldNamesDiffer}
use Rattle.nl_journal.specs.Progress.{HasNumber, Progress}
use Rattle.nl_meta.specs.Pages.{Pages}
use Rattle.nl_meta.specs.Steps.{ChangesRunningPages}
use Rattle.nl_meta_running.specs.Running.{RunningIsRight}
use Rattle.nl_journal_commit.specs.Completing.{AwaitsCommitPage}
use Rattle.nl_journal_commit.specs.Freeing.{FreesEach}
use Rattle.nl_journal_commit.specs.Holding.{running_holders}
use Rattle.nl_journal_commit.specs.Standing.{IsJournaled}
use Rattle.nl_spec_commits.specs.Committed.{IsHoldingOn}

-- Live pages are held afterwards as they were, and where the medium tells its contents, what is committed keeps its own.
pub record PreservesHoldingAsTold (told : Type 0) (v w : Holding) : Type 0 where
  pub holds : HoldsPages v → HoldsPages w
  pub committed : told → HoldsPages v → KeepsCommitted v → KeepsCommitted w

-- the medium tells its contents, and the numbers of transactions have not ended
abbrev pub JournalIsObservable : {D : Type 0} → Ghosts D → Progress → Pages → Type 0
JournalIsObservable g p pages = g.tells × HasNumber p (length pages.frozen.addresses)

-- Callbacks that transactions up to this number handled may be acknowledged: where it is told which transactions count, all of those do.
abbrev pub MayAcknowledge : Type 0 → Progress → ℕ → Type 0
MayAcknowledge told p upto = told → upto ≤ p.number

-- A call that leaves the addresses as they were leaves what is committed and what is frozen, whoever else holds pages then.
abbrev pub AddressesHold : {D : Type 0} → Ghosts D → Type 0
AddressesHold {D} g =
    (s t : D) (p : Progress) (pages : Pages) (v : Holding) (flight : List (Tag × Pointer)) (freeing : List Pointer) (due : ℕ)
    → IsVolumeShape (g.shape s) → IsJournaled g s p pages → KeepsVirtual g s t
    → IsHoldingOn g s p pages v → IsHoldingOn g t p pages (record v { names = g.names t; flight = flight; freeing = freeing; due = due })

-- Where the metadata changes, and no frozen page, and it runs then, it is journaled as before.
abbrev pub ChangesJournaled : {D : Type 0} → Ghosts D → Type 0
ChangesJournaled {D} g =
    (s : D) (p : Progress) (pages now : Pages) → IsJournaled g s p pages → ChangesRunningPages pages now → RunningIsRight g s now → IsJournaled g s p now

-- The metadata is journaled as before while the device leaves what its addresses have, as one that is only read.
abbrev pub StepsJournaled : {D : Type 0} → Ghosts D → Type 0
StepsJournaled {D} g =
    (s t : D) (p : Progress) (pages now : Pages) → IsVolumeShape (g.shape s) → IsJournaled g s p pages → KeepsVirtual g s t
    → ChangesRunningPages pages now → RunningIsRight g t now → IsJournaled g t p now

-- Where the metadata changes, and no frozen page, its pointers are those of the pages that run then.
abbrev pub MetadataHolds : {D : Type 0} → Ghosts D → Type 0
MetadataHolds {D} g =
    (s : D) (p : Progress) (pages now : Pages) (v : Holding) (flight : List (Tag × Pointer)) (freeing : List Pointer)
    → now.frozen ≡ pages.frozen → IsHoldingOn g s p pages v
    → IsHoldingOn g s p now (record v { running = running_holders g s now; flight = flight; freeing = freeing })

-- Where nothing is frozen, the first of the pages that await their free are freed, if so many are due.
abbrev pub FreesHold : {D : Type 0} → Ghosts D → Type 0
FreesHold {D} g =
    (s t : D) (p : Progress) (pages : Pages) (v : Holding) (front rest : List Pointer) → IsHoldingOn g s p pages v
    → (AwaitsCommitPage p pages.frozen → ⊥) → OldNamesDiffer (g.names s)
    → v.freeing ≡ front ++ rest → v.due ≡ length front → FreesEach front (g.names s) (g.names t)
    → PreservesHoldingAsTold (JournalIsObservable g p pages) v (record v { names = g.names t; freeing = rest; due = 0 })

-- Callbacks are acknowledged that transactions handled which count.
abbrev pub AcknowledgesHold : {D : Type 0} → Ghosts D → Type 0
AcknowledgesHold {D} g =
    (s t : D) (p : Progress) (pages : Pages) (v : Holding) (upto : ℕ) → IsHoldingOn g s p pages v
    → MayAcknowledge (JournalIsObservable g p pages) p upto → Acknowledges upto (g.names s) (g.names t)
    → PreservesHoldingAsTold (JournalIsObservable g p pages) v (record v { names = g.names t })

-- Where no page is due, and the frozen transaction gives up none, all is kept too.
abbrev pub NoneDue : Type 0
NoneDue = (v : Holding) → PreservesHolding v (record v { due = 0; leaving = 0 })
