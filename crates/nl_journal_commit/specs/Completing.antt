-- A transaction is completed: its commit page is written, and its pages are copied home.
use Rattle.std.specs.Prelude.{◌≡◌, ℕ, ◌+◌, ◌-◌, ◌^◌, ◌<◌, ◌≤◌, ⊤, min, length, Option, Some, None}
use Rattle.nl_field.specs.CrashStates.{Earlier, Turns, top}
use Rattle.nl_iface.specs.Calls.{CrashStatesHave}
use Rattle.nl_iface.specs.Names.{SameTables}
use Rattle.nl_iface.specs.declared.counts.Counts.{Ghosts}
use Rattle.nl_journal.specs.Committing.{committed_on, finished_on}
use Rattle.nl_journal.specs.Left.{FinishWrites, LeavesEither, LeavesOne}
use Rattle.nl_journal.specs.Progress.{HasNumber, Progress, begun, units_left}
use Rattle.nl_journal.specs.Units.{Finishes}
use Rattle.nl_meta.specs.Pages.{Frozen, Pages}
use Rattle.nl_journal_commit.specs.Standing.{PreservesGraph}

-- Pages are frozen, and their commit page is still to be written.
abbrev pub AwaitsCommitPage : Progress → Frozen → Type 0
AwaitsCommitPage p frozen = length frozen.addresses < units_left p.phase (length frozen.addresses)

-- The commit page was finished at this moment, later than the call began. The number is the transaction's, and a stop at that moment or a
-- later one leaves its pages committed.
pub record DecidesAt {D : Type 0} (g : Ghosts D) (old new : D) (p q : Progress) (pages : Pages) (now : Frozen)
    (moment : ℕ) : Type 0 where
  pub was_open : AwaitsCommitPage p pages.frozen
  pub is_shut : AwaitsCommitPage q now → ⊥
  pub number : q.number ≡ begun p (length pages.frozen.addresses)
  pub later : Earlier (g.clock old) moment
  pub from : g.clock old ≤ moment
  pub to : moment ≤ g.clock new
  pub stops : g.tells → HasNumber p (length pages.frozen.addresses)
      → CrashStatesHave g (Turns ⊤ moment (LeavesEither g old (committed_on g old) (finished_on g old p pages))
      (LeavesOne g old (finished_on g old p pages))) old new

-- The commit page was not written: where it was to be written, it still is.
abbrev pub StillAwaitsCommitPage : Progress → Progress → Frozen → Frozen → Type 0
StillAwaitsCommitPage p q frozen now = AwaitsCommitPage p frozen → AwaitsCommitPage q now

-- Whether the commit page was finished: at a moment that is told, or not.
abbrev pub IsDecided : Option ℕ → Progress → Progress → Frozen → Frozen → Type 0
IsDecided None p q frozen now = StillAwaitsCommitPage p q frozen now
IsDecided (Some moment) p q frozen now =
    AwaitsCommitPage p frozen × (AwaitsCommitPage q now → ⊥) × (q.number ≡ begun p (length frozen.addresses))

-- the number of a transaction, up to the greatest that is spelled
abbrev pub spelled : ℕ → ℕ
spelled number = min number (2 ^ 63 - 1)

-- A number that was this at that clock rises by no more than the clock does, while the clock stands below its end: each transaction takes a
-- commit page that is finished.
abbrev pub NumberPaid : ℕ → ℕ → ℕ → ℕ → Type 0
NumberPaid clock_before before clock_now now = clock_now < top → spelled now + clock_before ≤ spelled before + clock_now

-- What completing says of the metadata and of who holds pages: the units that were left of the frozen transaction were done, or some of
-- them.
pub record Completes {D : Type 0} (g : Ghosts D) (done : Type 0) (s : D) (p : Progress) (pages : Pages) (t : D) (q : Progress)
    (now : Pages) : Type 0 where
  pub same_shape : g.shape t ≡ g.shape s
  pub tables : SameTables (g.names s) (g.names t)
  pub stands : PreservesGraph g s pages t q now
  pub finishes : Finishes 0 done p q pages now
  pub writes : g.tells → HasNumber p (length pages.frozen.addresses) → FinishWrites g done p q pages now s t
