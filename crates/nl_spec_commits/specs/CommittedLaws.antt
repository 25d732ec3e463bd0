-- Live pages are held on through each part of a commit.
use Rattle.std.specs.Prelude.{◌≡◌, ℕ, ◌≤◌, List, length}
use Rattle.nl_field.specs.declared.answers.VirtualWrite.{VirtualWrite}
use Rattle.nl_field.specs.declared.answers.VirtualWrite.TheVariants as write
use Rattle.nl_iface.specs.Device.{IsVolumeShape}
use Rattle.nl_iface.specs.declared.counts.Counts.{Ghosts}
use Rattle.nl_spec_holders.specs.Holding.{Holding}
use Rattle.nl_spec_holders.specs.Laws.{PreservesHolding}
use Rattle.nl_journal.specs.Progress.{Progress}
use Rattle.nl_journal.specs.declared.answers.Phase.TheVariants.{Commit}
use Rattle.nl_meta.specs.Pages.{Frozen, IsPages, Pages}
use Rattle.nl_meta.specs.Steps.{with_dirty}
use Rattle.nl_journal_commit.specs.Completing.{Completes, AwaitsCommitPage}
use Rattle.nl_journal_commit.specs.Counting.{with_frozen}
use Rattle.nl_journal_commit.specs.Standing.{CanFreeze, IsJournaled}
use Rattle.nl_journal_commit.specs.Stepping.{TakesUnit}
use Rattle.nl_spec_commits.specs.Committed.{IsHoldingOn}

-- Who held pages holds them on. The same pages are in flight, and the same await their free.
pub record PreservesHoldingInFlight (v w : Holding) : Type 0 where
  pub keeps : PreservesHolding v w
  pub same_flight : w.flight ≡ v.flight
  pub same_freeing : w.freeing ≡ v.freeing

-- the commit page was to be written before, and is no longer
abbrev pub IsShutNow : Progress → Progress → Frozen → Frozen → Type 0
IsShutNow p q frozen now = AwaitsCommitPage p frozen × (AwaitsCommitPage q now → ⊥)

-- How many of the pages that await their free are given up then: none once the commit page is written, and else as many as before.
pub record GivesUpThen (shut : Type 0) (v w : Holding) : Type 0 where
  pub due : shut → w.due ≡ v.leaving
  pub none : shut → w.leaving ≡ 0
  pub same : (shut → ⊥) → (w.leaving ≡ v.leaving) × (w.due ≡ v.due)

-- Once the commit page is written, the pages are committed that were frozen, and those are due that the transaction gave up. Before it,
-- also where a write failed, both are held as they were.
abbrev pub CompletingHolds : {D : Type 0} → Ghosts D → Type 0
CompletingHolds {D} g =
    (answer : VirtualWrite) (s t : D) (p q : Progress) (pages now : Pages) (v : Holding) → IsVolumeShape (g.shape s)
    → IsHoldingOn g s p pages v → IsJournaled g s p pages
    → Completes g (answer ≡ write.Done) s p pages t q now
    → (w : Holding) × IsHoldingOn g t q now w × PreservesHoldingInFlight v w × GivesUpThen (IsShutNow p q pages.frozen now.frozen) v w

-- The same of one unit: the commit page is written by that one alone which is due then.
abbrev pub UnitHolds : {D : Type 0} → Ghosts D → Type 0
UnitHolds {D} g =
    (answer : VirtualWrite) (s t : D) (p q : Progress) (pages now : Pages) (v : Holding) → IsVolumeShape (g.shape s)
    → IsHoldingOn g s p pages v → IsJournaled g s p pages → 1 ≤ length pages.frozen.addresses
    → TakesUnit g (answer ≡ write.Done) s p pages t q now
    → (w : Holding) × IsHoldingOn g t q now w × PreservesHoldingInFlight v w × GivesUpThen ((answer ≡ write.Done) × (p.phase ≡ Commit)) v w

-- Once the dirty pages are frozen, their transaction keeps what the running metadata has, and gives up all that awaits its free.
abbrev pub FreezingHolds : {D : Type 0} → Ghosts D → Type 0
FreezingHolds {D} g =
    (s : D) (p : Progress) (pages : Pages) (v : Holding) → IsVolumeShape (g.shape s) → IsHoldingOn g s p pages v → IsJournaled g s p pages
    → IsPages pages
    → CanFreeze (g.shape s).vaddrs p pages
    → (w : Holding) × IsHoldingOn g s p (with_frozen pages) w × PreservesHoldingInFlight v w × (w.leaving ≡ length v.freeing)

-- Another super page changes nothing of who holds live pages.
abbrev pub SuperPageHolds : {D : Type 0} → Ghosts D → Type 0
SuperPageHolds {D} g =
    (s : D) (p : Progress) (pages : Pages) (bytes : List ℕ) (v : Holding) → IsVolumeShape (g.shape s) → IsJournaled g s p pages
    → IsHoldingOn g s p pages v
    → IsHoldingOn g s p (with_dirty pages 0 bytes) v
