-- A volume between two calls, as to who holds its live pages, and that a commit keeps it.
use Rattle.std.specs.Prelude.{◌≡◌, ◌≢◌, ℕ, ◌+◌, ◌≤◌, Bool, if◌then◌else◌, List, [], length, map, take, drop, Option, Some, None}
use Rattle.nl_field.specs.declared.answers.VirtualWrite.{VirtualWrite}
use Rattle.nl_field.specs.declared.answers.VirtualWrite.TheVariants as write
use Rattle.nl_field.specs.declared.pointer.Pointer.{Pointer}
use Rattle.nl_field.specs.declared.pointer.Tag.{Tag}
use Rattle.nl_iface.specs.Calls.{KeepsMedium}
use Rattle.nl_iface.specs.Device.{IsVolumeShape}
use Rattle.nl_iface.specs.Moves.{Acknowledges, Retains}
use Rattle.nl_iface.specs.Names.{IsTableOfNames, LivePage}
use Rattle.nl_iface.specs.declared.counts.Counts.{Ghosts}
use Rattle.nl_spec_holders.specs.Holding.{Holding, HoldsPages, KeepsCommitted}
use Rattle.nl_spec_holders.specs.Laws.{OldNamesDiffer}
use Rattle.nl_spec_holders.specs.Opening.{OpensHolding}
use Rattle.nl_journal.specs.Committing.{committed_on}
use Rattle.nl_journal.specs.Outcomes.{IsHome}
use Rattle.nl_journal.specs.Progress.{HasNumber, Progress}
use Rattle.nl_journal.specs.declared.answers.Phase.TheVariants.{Commit}
use Rattle.nl_meta.specs.Pages.{IsPages, Pages}
use Rattle.nl_meta_running.specs.Running.{running_on}
use Rattle.nl_journal_commit.specs.Completing.{AwaitsCommitPage}
use Rattle.nl_journal_commit.specs.Committing.{CommitsInParts}
use Rattle.nl_journal_commit.specs.Counting.{with_frozen}
use Rattle.nl_journal_commit.specs.Freeing.{FreesEach}
use Rattle.nl_journal_commit.specs.Holding.{running_holders}
use Rattle.nl_journal_commit.specs.Standing.{CanFreeze, IsJournaled}
use Rattle.nl_journal_commit.specs.Stepping.{TakesUnit}
use Rattle.nl_spec_commits.specs.Committed.{IsHoldingOn, read_as}
use Rattle.nl_spec_commits.specs.CommittedLaws.{PreservesHoldingInFlight}
use Rattle.nl_spec_commits.specs.SettlingLaws.{JournalIsObservable, MayAcknowledge}

-- Each live page is held once: by the running metadata, in flight, or while it awaits its free. Where the medium tells its contents and
-- the numbers of transactions have not ended, what is committed and what is frozen keep their pages. None is due. The frozen transaction
-- gives up so many of the pages that await their free, from the front on.
pub record IsHeldVolume {D : Type 0} (g : Ghosts D) (s : D) (p : Progress) (pages : Pages) (flight : List (Tag × Pointer))
    (freeing : List Pointer) (leaving : ℕ) : Type 0 where
  pub holding : Holding
  pub is_of : IsHoldingOn g s p pages holding
  pub in_flight : holding.flight ≡ flight
  pub awaits : holding.freeing ≡ freeing
  pub none_due : holding.due ≡ 0
  pub gives_up : holding.leaving ≡ leaving
  pub holds : HoldsPages holding
  pub committed : JournalIsObservable g p pages → KeepsCommitted holding

-- how many of the pages that await their free the frozen transaction gives up after a commit: all that awaited it where the dirty pages were
-- frozen, none once a commit page was finished, and else as many as before
abbrev pub leaving_part : Option ℕ → ℕ → ℕ
leaving_part None leaving = leaving
leaving_part (Some moment) leaving = 0

abbrev pub leaving_after : Bool → Option ℕ → Option ℕ → (waiting leaving : ℕ) → ℕ
leaving_after froze earlier decided waiting leaving = leaving_part decided (if froze then waiting else leaving_part earlier leaving)

-- A commit, done or not, holds pages on; once it is done, all are due that await their free.
pub record CommitsOn {D : Type 0} (g : Ghosts D) (done : Type 0) (froze : Bool) (earlier decided : Option ℕ) (p : Progress) (pages : Pages)
    (t : D) (r : Progress) (now : Pages) (v w : Holding) : Type 0 where
  pub is_of : IsHoldingOn g t r now w
  pub holds : PreservesHoldingInFlight v w
  pub due : done → w.due ≡ length v.freeing
  pub leaves : w.leaving ≡ leaving_after froze earlier decided (length v.freeing) v.leaving
  pub numbers : HasNumber r (length now.frozen.addresses) → HasNumber p (length pages.frozen.addresses)

abbrev pub CommitHolds : {D : Type 0} → Ghosts D → Type 0
CommitHolds {D} g =
    (answer : VirtualWrite) (froze : Bool) (earlier decided : Option ℕ) (s t : D) (p r : Progress) (pages now : Pages) (v : Holding)
    → IsVolumeShape (g.shape s) → IsJournaled g s p pages → IsHoldingOn g s p pages v
    → CommitsInParts g (answer ≡ write.Done) froze earlier decided s p pages t r now
    → (w : Holding) × CommitsOn g (answer ≡ write.Done) froze earlier decided p pages t r now v w

-- A commit leaves the volume held. Done or not, the same pages await their free.
abbrev pub CommitKeepsHeld : {D : Type 0} → Ghosts D → Type 0
CommitKeepsHeld {D} g =
    (answer : VirtualWrite) (froze : Bool) (earlier decided : Option ℕ) (s t : D) (p r : Progress) (pages now : Pages)
    (flight : List (Tag × Pointer)) (freeing : List Pointer) (leaving : ℕ) → IsVolumeShape (g.shape s) → IsJournaled g s p pages
    → IsHeldVolume g s p pages flight freeing leaving
    → CommitsInParts g (answer ≡ write.Done) froze earlier decided s p pages t r now
    → IsHeldVolume g t r now flight freeing (leaving_after froze earlier decided (length freeing) leaving)

-- Once a commit is done and all pages are freed that awaited their free, none awaits its free.
abbrev pub FreedKeepsHeld : {D : Type 0} → Ghosts D → Type 0
FreedKeepsHeld {D} g =
    (answer : VirtualWrite) (froze : Bool) (earlier decided : Option ℕ) (s t u : D) (p r : Progress) (pages now : Pages)
    (flight : List (Tag × Pointer)) (freeing : List Pointer) (leaving : ℕ) → IsVolumeShape (g.shape s) → IsJournaled g s p pages
    → IsHeldVolume g s p pages flight freeing leaving
    → CommitsInParts g (answer ≡ write.Done) froze earlier decided s p pages t r now → answer ≡ write.Done → IsVolumeShape (g.shape t)
    → IsJournaled g t r now → (AwaitsCommitPage r now.frozen → ⊥) → OldNamesDiffer (g.names t) → KeepsMedium g t u
    → FreesEach freeing (g.names t) (g.names u) → IsHeldVolume g u r now flight [] 0

-- A volume stays held where callbacks are acknowledged that transactions handled which count.
abbrev pub AcknowledgedKeepsHeld : {D : Type 0} → Ghosts D → Type 0
AcknowledgedKeepsHeld {D} g =
    (s t : D) (p : Progress) (pages : Pages) (flight : List (Tag × Pointer)) (freeing : List Pointer) (upto : ℕ) (leaving : ℕ)
    → IsVolumeShape (g.shape s) → IsJournaled g s p pages → IsHeldVolume g s p pages flight freeing leaving
    → KeepsMedium g s t → MayAcknowledge (JournalIsObservable g p pages) p upto → Acknowledges upto (g.names s) (g.names t)
    → IsHeldVolume g t p pages flight freeing leaving

-- ---- unit by unit

-- Once the dirty pages are frozen, their transaction gives up all pages that await their free then.
abbrev pub FreezeKeepsHeld : {D : Type 0} → Ghosts D → Type 0
FreezeKeepsHeld {D} g =
    (s : D) (p : Progress) (pages : Pages) (flight : List (Tag × Pointer)) (freeing : List Pointer) (leaving : ℕ) → IsVolumeShape (g.shape s)
    → IsJournaled g s p pages → IsPages pages → CanFreeze (g.shape s).vaddrs p pages → IsHeldVolume g s p pages flight freeing leaving
    → IsHeldVolume g s p (with_frozen pages) flight freeing (length freeing)

-- A unit that is not the commit page, or was not done, leaves the volume held.
abbrev pub UnitKeepsHeld : {D : Type 0} → Ghosts D → Type 0
UnitKeepsHeld {D} g =
    (answer : VirtualWrite) (s t : D) (p q : Progress) (pages now : Pages) (flight : List (Tag × Pointer)) (freeing : List Pointer)
    (leaving : ℕ) → IsVolumeShape (g.shape s) → IsJournaled g s p pages → IsHeldVolume g s p pages flight freeing leaving
    → 1 ≤ length pages.frozen.addresses → TakesUnit g (answer ≡ write.Done) s p pages t q now → (answer ≡ write.Done → p.phase ≢ Commit)
    → IsHeldVolume g t q now flight freeing leaving

-- Once the commit page is written and the pages are freed that its transaction gave up, and no other, the volume is held. No transaction
-- gives up any page then.
abbrev pub DecidedKeepsHeld : {D : Type 0} → Ghosts D → Type 0
DecidedKeepsHeld {D} g =
    (answer : VirtualWrite) (s t u : D) (p q : Progress) (pages now : Pages) (flight : List (Tag × Pointer)) (freeing : List Pointer)
    (leaving : ℕ) → IsVolumeShape (g.shape s) → IsJournaled g s p pages → IsHeldVolume g s p pages flight freeing leaving
    → 1 ≤ length pages.frozen.addresses → TakesUnit g (answer ≡ write.Done) s p pages t q now → answer ≡ write.Done → p.phase ≡ Commit → IsVolumeShape (g.shape t)
    → IsJournaled g t q now → OldNamesDiffer (g.names t) → KeepsMedium g t u
    → FreesEach (take leaving freeing) (g.names t) (g.names u) → IsHeldVolume g u q now flight (drop leaving freeing) 0

-- who holds pages of a volume that was opened: nothing but its metadata, which is the committed one
abbrev pub opened : {D : Type 0} → Ghosts D → D → Progress → Pages → Holding
opened g s p pages = record {
  names = g.names s;
  running = running_holders g s pages;
  flight = [];
  freeing = [];
  committed = map (λ (h : Tag × Pointer). h.1) (running_holders g s pages);
  decided = p.number;
  due = 0;
  frozen = [];
  number = p.number;
  leaving = 0;
  next = p.number + 1;
}

-- An opening leaves a volume held, where no transaction is open, and its metadata is what is committed.
abbrev pub OpeningIsHeld : {D : Type 0} → Ghosts D → Type 0
OpeningIsHeld {D} g =
    (s : D) (p : Progress) (pages : Pages) (kept : List Pointer) (place : Pointer → ℕ) (found : List (ℕ × LivePage))
    → IsVolumeShape (g.shape s) → IsJournaled g s p pages
    → (AwaitsCommitPage p pages.frozen → ⊥)
    → (g.tells → (v : ℕ) → IsHome (g.shape s).vaddrs v → read_as (g.shape s) (committed_on g s) v ≡ running_on g s pages v)
    → IsTableOfNames (g.names s) → Retains kept place found (g.names s) → OpensHolding kept (opened g s p pages) → IsHeldVolume g s p pages [] [] 0
