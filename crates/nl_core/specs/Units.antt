-- A sync goes on unit by unit: how many units it has to do at most, whether one is left, and what one unit does to a core.
use Rattle.std.specs.Prelude.{◌≡◌, ◌≢◌, ℕ, ◌+◌, ◌-◌, ◌<◌, ◌≤◌, ◌==◌, nat_le, nat_lt, Bool, false, if◌then◌else◌, List, length, take, drop, Option, Some, None, unwrap_or}
use Rattle.nl_field.specs.declared.answers.VirtualWrite.{VirtualWrite}
use Rattle.nl_field.specs.declared.answers.VirtualWrite.TheVariants as write
use Rattle.nl_flight.specs.Flight.{InFlight, of_worker}
use Rattle.nl_iface.specs.Calls.{StoresPages}
use Rattle.nl_iface.specs.Moves.{IsHandledBy}
use Rattle.nl_iface.specs.Names.{Has, IsNames, Names}
use Rattle.nl_iface.specs.declared.Callback.{Callback}
use Rattle.nl_iface.specs.declared.counts.Counts.{Ghosts}
use Rattle.nl_journal.specs.Progress.{next_after, units_left}
use Rattle.nl_journal.specs.declared.answers.Phase.TheVariants.{Commit}
use Rattle.nl_tree.specs.declared.call.Call.{Call}
use Rattle.nl_tree.specs.declared.call.Call.TheVariants.{Sync}
use Rattle.nl_journal_commit.specs.Counting.{with_frozen}
use Rattle.nl_core.specs.Writing.{HasTable, Settles, counted_pages}
use Rattle.nl_core.specs.declared.state.Core.{Core}

-- ---- the goal of a sync

-- the goal of a worker's line, None where its line in flight is another one
abbrev pub goal_of : List InFlight → ℕ → ℕ → Option ℕ
goal_of flight worker line = if (of_worker flight worker).line == line then (of_worker flight worker).goal else None

-- the count of calls that a sync has to reach: its goal, and where it has none all calls so far
abbrev pub goal_or : Option ℕ → ℕ → ℕ
goal_or goal count = unwrap_or goal count

-- Whether a unit is left of a line with this goal or none: of a sync whose goal is above the committed count, and of one without a goal
-- where not all calls so far are committed.
abbrev pub is_unit_left : Call → Option ℕ → (committed count : ℕ) → Bool
is_unit_left Sync goal committed count = nat_lt committed (goal_or goal count)
is_unit_left _ goal committed count = false

-- ---- how many units

-- the units of a transaction of 64 pages up to its commit page: a header, an image of each, and the commit page
abbrev pub most_to_commit : ℕ
most_to_commit = 66

-- the most that a sync has to do: all units of a transaction that does not reach its goal, 130, and those of the next one
abbrev pub most_units : ℕ
most_units = 196

-- The units of a sync that has to reach this count, at most, where so many calls are committed and will be with the frozen transaction, of
-- whose units so many are left, as many as its pages behind its commit page: none where the count is reached, those up to the commit page
-- where that reaches it, and else those that are left and those of the next one up to its commit page.
abbrev pub units_by : (goal committed frozen left pages : ℕ) → ℕ
units_by goal committed frozen left pages =
    if nat_le goal committed then 0 else (if nat_le goal frozen then left - pages else left + most_to_commit)

abbrev pub units_for : {D : Type 0} → Core D → ℕ → ℕ
units_for v goal =
    units_by goal v.committed v.frozen (units_left v.journal.phase (length v.meta.frozen.addresses)) (length v.meta.frozen.addresses)

-- ---- what a unit does

-- The core as a unit finds it: where nothing is frozen, the dirty pages are frozen first, under the count of all calls, and their transaction
-- gives up all pages that await their free.
abbrev pub begun_unit : {D : Type 0} → Core D → Core D
begun_unit v =
    if length v.meta.frozen.addresses == 0
    then record v { meta = with_frozen (counted_pages v); frozen = v.count; leaving = length v.freeing.items } else v

-- Of the callbacks that were pending exactly those are gone that transactions up to this number handled; others may be gone with a page that
-- was freed.
pub record AcknowledgesUpTo (number : ℕ) (old new : Names) : Type 0 where
  pub gone : (c : Callback) → Has new.pending c → Has old.pending c × (IsHandledBy old number c → ⊥)
  pub handled : (c : Callback) → Has new.pending c → new.handled c.number ≡ old.handled c.number
  pub posted : new.posted ≡ old.posted

-- The commit page was finished, and noted: the first of the pages that await their free are freed that the transaction gave up, and callbacks
-- are acknowledged up to its number.
pub record DecidesCommit {D : Type 0} (g : Ghosts D) (number : ℕ) (old new : Core D) : Type 0 where
  pub table : HasTable g old.device
  pub stores : g.tells → StoresPages g new.device
  pub numbers : IsNames (g.shape new.device) (g.next_stamp new.device) (g.names new.device)
  pub settled : Settles g old.leaving number (record old { committed = old.frozen; moment = g.clock old.device }) new

-- The commit page was finished: what was frozen is committed, at the clock as it is now. The pages are freed that the transaction gave up,
-- and no other, and callbacks are acknowledged that it or an earlier one handled.
pub record FinishesCommitPage {D : Type 0} (g : Ghosts D) (old new : Core D) : Type 0 where
  pub was_due : old.journal.phase ≡ Commit
  pub committed : new.committed ≡ old.frozen
  pub moment : new.moment ≡ g.clock new.device
  pub freed : new.freeing.items ≡ drop old.leaving old.freeing.items
  pub live : (g.names new.device).space.live + length (take old.leaving old.freeing.items) ≡ (g.names old.device).space.live
  pub acknowledged : AcknowledgesUpTo (next_after old.journal.number) (g.names old.device) (g.names new.device)

-- No commit page was finished: what is committed stays, the same pages await their free, and no callback is acknowledged.
pub record FinishesNone {D : Type 0} (g : Ghosts D) (old new : Core D) : Type 0 where
  pub committed : new.committed ≡ old.committed
  pub moment : new.moment ≡ old.moment
  pub freeing : new.freeing ≡ old.freeing
  pub pending : (g.names new.device).pending ≡ (g.names old.device).pending

-- A unit by its answer. Once it is done, less is left of each sync that still has something to do. The lines in flight stay, and so do the
-- nodes and the count of calls.
pub record DoesUnit {D : Type 0} (g : Ghosts D) (old new : Core D) (answer : VirtualWrite) : Type 0 where
  pub less : answer ≡ write.Done → (goal : ℕ) → goal ≤ old.count → old.committed < goal → units_for new goal < units_for old goal
  pub decides : answer ≡ write.Done → old.journal.phase ≡ Commit → FinishesCommitPage g old new
  pub others : (answer ≡ write.Done → old.journal.phase ≢ Commit) → FinishesNone g old new
  pub lost : (w f : ℕ) → answer ≡ write.Lost w f → (f ≢ w) × (g.tells → ⊥)
  pub same_flight : new.flight ≡ old.flight
  pub same_nodes : new.nodes ≡ old.nodes

-- So many calls are committed as the goal asks for. Where they were before, all is as it was.
pub record ReachesGoal {D : Type 0} (g : Ghosts D) (goal : ℕ) (old new : Core D) (answer : VirtualWrite) : Type 0 where
  pub reached : answer ≡ write.Done → goal ≤ new.committed
  pub at_once : goal ≤ old.committed → (answer ≡ write.Done) × (new ≡ old)
  pub lost : (w f : ℕ) → answer ≡ write.Lost w f → (f ≢ w) × (g.tells → ⊥)
  pub same_flight : new.flight ≡ old.flight
  pub same_nodes : new.nodes ≡ old.nodes
