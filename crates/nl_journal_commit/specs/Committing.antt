-- A whole commit: what was frozen is completed, and then the dirty pages.
use Rattle.std.specs.Prelude.{◌≡◌, ◌⊎◌, ℕ, ◌≤◌, ⊤, Bool, true, false, length, Option, None}
use Rattle.nl_field.specs.CrashStates.{Earlier, Turns}
use Rattle.nl_field.specs.declared.answers.VirtualWrite.{VirtualWrite}
use Rattle.nl_field.specs.declared.answers.VirtualWrite.TheVariants as write
use Rattle.nl_iface.specs.Calls.{CrashStatesHave}
use Rattle.nl_iface.specs.Stored.{Stored}
use Rattle.nl_iface.specs.declared.counts.Counts.{Ghosts}
use Rattle.nl_journal.specs.Committing.{ahead_on, committed_on, finished_on}
use Rattle.nl_journal.specs.Left.{LeavesEither, LeavesOne, LeavesOneOf}
use Rattle.nl_journal.specs.Progress.{HasNumber, Progress, begun, next_after}
use Rattle.nl_journal.specs.Units.{EndsCommit, Waits}
use Rattle.nl_meta.specs.Pages.{IsPages, Pages, dirty_pages}
use Rattle.nl_journal_commit.specs.Completing.{Completes, IsDecided, NumberPaid}
use Rattle.nl_journal_commit.specs.Counting.{with_frozen}
use Rattle.nl_journal_commit.specs.Standing.{CanFreeze}

-- Once a commit is done nothing is frozen or dirty, and the number is that of the last transaction; else the pages in memory wait, as they
-- were or with the dirty ones frozen.
pub record CommitsPages (done : Type 0) (old new : Progress) (pages now : Pages) : Type 0 where
  pub ends : done → EndsCommit (next_after (begun old (length pages.frozen.addresses))) old new pages now
  pub waits : (done → ⊥) → Waits pages now
  pub running : now.running ≡ pages.running

-- A commit page was finished at this moment, later than the call began. A stop at that moment or a later one leaves A, and an earlier one
-- what the call may leave.
pub record CommitsAt {D : Type 0} (g : Ghosts D) (old new : D) (p r : Progress) (pages now : Pages) (A : Stored → Type 0)
    (moment : ℕ) : Type 0 where
  pub later : Earlier (g.clock old) moment
  pub from : g.clock old ≤ moment
  pub to : moment ≤ g.clock new
  pub stops : g.tells → HasNumber r (length now.frozen.addresses)
      → CrashStatesHave g (Turns ⊤ moment (LeavesOneOf g old (committed_on g old) (finished_on g old p pages) (ahead_on g old p pages)) A) old new

-- The commit page of the transaction that was frozen before was finished at this moment: from then on a stop leaves its pages committed,
-- or the dirty ones too.
abbrev pub EarlierAt : {D : Type 0} → Ghosts D → D → D → Progress → Progress → Pages → Pages → ℕ → Type 0
EarlierAt g old new p r pages now =
    CommitsAt g old new p r pages now (LeavesEither g old (finished_on g old p pages) (ahead_on g old p pages))

-- The commit page of the dirty pages was finished at this moment: from then on a stop leaves them committed.
abbrev pub ChangesAt : {D : Type 0} → Ghosts D → D → D → Progress → Progress → Pages → Pages → ℕ → Type 0
ChangesAt g old new p r pages now = CommitsAt g old new p r pages now (LeavesOne g old (ahead_on g old p pages))

-- A commit is done in two parts. What is frozen is completed; once that is done, the dirty pages are frozen and completed. Else the second
-- part is left out. It is told whether the dirty pages were frozen, and the moments of the commit pages, where they were finished.
pub record CommitsInParts {D : Type 0} (g : Ghosts D) (done : Type 0) (froze : Bool) (earlier decided : Option ℕ) (s : D) (p : Progress)
    (pages : Pages) (t : D) (r : Progress) (now : Pages) : Type 0 where
  pub between : D
  pub halfway : Progress
  pub rest : Pages
  pub answer : VirtualWrite
  pub first : Completes g (answer ≡ write.Done) s p pages between halfway rest
  pub first_decided : IsDecided earlier p halfway pages.frozen rest.frozen
  pub second : ((froze ≡ false) × (done → ⊥) × (t ≡ between) × (r ≡ halfway) × (now ≡ rest) × (decided ≡ None))
      ⊎ ((froze ≡ true) × IsPages rest × CanFreeze (g.shape between).vaddrs halfway rest
      × Completes g done between halfway (with_frozen rest) t r now × IsDecided decided halfway r (dirty_pages rest) now.frozen)

-- What a whole commit does to the pages in memory, its two parts, and how far the number of transactions rises.
pub record CommitsWhole {D : Type 0} (g : Ghosts D) (done : Type 0) (froze : Bool) (earlier decided : Option ℕ) (s : D) (p : Progress)
    (pages : Pages) (t : D) (r : Progress) (now : Pages) : Type 0 where
  pub in_memory : CommitsPages done p r pages now
  pub parts : CommitsInParts g done froze earlier decided s p pages t r now
  pub paid : NumberPaid (g.clock s) p.number (g.clock t) r.number
