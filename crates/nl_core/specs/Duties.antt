-- What a background task does to a core.
use Rattle.std.specs.Prelude.{◌≡◌, ◌≢◌, ◌↔◌, ◌⊎◌, ℕ, ◌^◌, ◌≤◌, [], Some, None}
use Rattle.nl_tree.specs.declared.turn.Duty.{Duty}
use Rattle.nl_tree.specs.declared.turn.Duty.TheVariants as task
use Rattle.nl_tree.specs.declared.turn.DutyAnswer.{DutyAnswer}
use Rattle.nl_tree.specs.declared.turn.DutyAnswer.TheVariants as duty
use Rattle.nl_iface.specs.declared.moving.Copying.{Copying}
use Rattle.nl_iface.specs.declared.moving.Copying.TheVariants as copying
use Rattle.nl_iface.specs.Calls.{OnlyReads, stored}
use Rattle.nl_iface.specs.Moves.{BeginsVictim, ErasesVictim, HasCopied, HasNothingToCopy}
use Rattle.nl_iface.specs.Victims.{CanBeginVictim, IsWiped, StaysOrTakes, TakesVictimOf}
use Rattle.nl_iface.specs.declared.counts.Counts.{Ghosts}
use Rattle.nl_iface.specs.declared.moving_pages.MovingPages.{Ghosts as Moving}
use Rattle.nl_journal.specs.declared.answers.Committing.{Committing}
use Rattle.nl_journal.specs.declared.answers.Committing.TheVariants as commits
use Rattle.nl_iface.specs.declared.moving.Erasing.{Erasing}
use Rattle.nl_iface.specs.declared.moving.Erasing.TheVariants as erasure
use Rattle.nl_core.specs.Calls.{CommitsAll}
use Rattle.nl_core.specs.Core.{names_of}
use Rattle.nl_core.specs.Handling.{HandlesNumber, CallbackIsPending}
use Rattle.nl_core.specs.declared.state.Core.{Core}

-- ---- what each call answers, as a task

abbrev pub duty_of_copy : Copying → DutyAnswer
duty_of_copy copying.Did = duty.Did
duty_of_copy copying.Nothing = duty.Nothing
duty_of_copy (copying.Lost w f) = duty.Lost w f
duty_of_copy copying.Fault = duty.Fault

abbrev pub duty_of_erase : Erasing → DutyAnswer
duty_of_erase erasure.Done = duty.Did
duty_of_erase erasure.Nothing = duty.Nothing
duty_of_erase erasure.Fault = duty.Fault

abbrev pub duty_of_commit : Committing → DutyAnswer
duty_of_commit (commits.Done number) = duty.Did
duty_of_commit (commits.Lost w f) = duty.Lost w f
duty_of_commit commits.Fault = duty.Fault

-- ---- why nothing is done

-- the volume is read-only, or its write sequence numbers are exhausted
abbrev pub IsAtRest : {D : Type 0} → Ghosts D → Core D → Type 0
IsAtRest g v = (v.stopped ≢ 0) ⊎ (2 ^ 62 ≤ g.next_stamp v.device)

-- There is nothing to copy; no victim without live pages is in hand; no callback of the number is pending; no call came since the last
-- commit, and no page is dirty; no block has to be moved for the sake of wear.
abbrev pub HasNothingToDo : {D : Type 0} → Ghosts D → Moving D → Duty → Core D → Type 0
HasNothingToDo g m task.Copy v = HasNothingToCopy (names_of g v).space
HasNothingToDo g m task.Erase v = ((names_of g v).space.victim ≡ 1) × ((names_of g v).space.left ≡ 0) → ⊥
HasNothingToDo g m (task.Handle number) v = CallbackIsPending (names_of g v) number → ⊥
HasNothingToDo g m task.Commit v = (v.committed ≡ v.count) × (v.meta.dirty ≡ [])
HasNothingToDo g m task.Level v = CanBeginVictim (names_of g v).space × ((block : ℕ) × m.coldest v.device block) → ⊥

-- The device was read at most, and no read failed.
pub record OnlyReadsDevice {D : Type 0} (g : Ghosts D) (old new : Core D) : Type 0 where
  pub reads : OnlyReads g old.device new.device
  pub read_faults : g.read_faults new.device ≡ g.read_faults old.device
  pub others : new ≡ record old { device = new.device }

-- all is as before
abbrev pub IsUnchangedByTask : {D : Type 0} → Ghosts D → Duty → Core D → Core D → Type 0
IsUnchangedByTask g task.Copy old new = OnlyReadsDevice g old new
IsUnchangedByTask g task.Erase old new = OnlyReadsDevice g old new
IsUnchangedByTask g (task.Handle number) old new = new ≡ old
IsUnchangedByTask g task.Commit old new = new ≡ old
IsUnchangedByTask g task.Level old new = OnlyReadsDevice g old new

-- ---- what is done

-- all but the device and the sum of a first failure stays
abbrev pub KeepsAllButDevice : {D : Type 0} → Core D → Core D → Type 0
KeepsAllButDevice old new = new ≡ record old { device = new.device; stopped = new.stopped }

-- each page of the victim is blank
abbrev pub Wipes : {D : Type 0} → Ghosts D → Moving D → D → D → Type 0
Wipes g m old new =
    (block : ℕ) × (m.victim old ≡ Some block) × (m.victim new ≡ None)
    × (g.tells → IsWiped (m.blank new) (g.shape old).pages block (stored g new))

-- A page of the victim was moved, or a victim was begun that has none to move; the victim was erased; the callback of the number is
-- handled; all calls so far are committed; a victim was begun.
abbrev pub TaskIsDone : {D : Type 0} → Ghosts D → Moving D → Duty → Core D → Core D → Type 0
TaskIsDone g m task.Copy old new =
    HasCopied g old.device new.device × StaysOrTakes (m.most_dead old.device) (m.victim old.device) (m.victim new.device)
    × KeepsAllButDevice old new
TaskIsDone g m task.Erase old new = ErasesVictim g old.device new.device × Wipes g m old.device new.device × KeepsAllButDevice old new
TaskIsDone g m (task.Handle number) old new = HandlesNumber g number old new
TaskIsDone g m task.Commit old new = (number : ℕ) × CommitsAll g old new number
TaskIsDone g m task.Level old new =
    BeginsVictim g old.device new.device × TakesVictimOf (m.coldest old.device) (m.victim new.device) × KeepsAllButDevice old new

-- What a task does. `Nothing` comes exactly where `none` holds, and then all is as before. A page is lost only with another number found,
-- and never where the medium tells what it stores.
pub record RunsTask {D : Type 0} (g : Ghosts D) (m : Moving D) (none : Type 0) (which : Duty) (old new : Core D)
    (answer : DutyAnswer) : Type 0 where
  pub nothing : (answer ≡ duty.Nothing) ↔ none
  pub same : answer ≡ duty.Nothing → IsUnchangedByTask g which old new
  pub done : answer ≡ duty.Did → TaskIsDone g m which old new
  pub lost : (w found : ℕ) → answer ≡ duty.Lost w found → (found ≢ w) × (g.tells → ⊥)

-- what a task does of a volume that can be written
abbrev pub DoesTask : {D : Type 0} → Ghosts D → Moving D → Duty → Core D → Core D → DutyAnswer → Type 0
DoesTask g m which old new answer = RunsTask g m (HasNothingToDo g m which old) which old new answer

-- what a task does of any volume
abbrev pub RunsBackgroundTask : {D : Type 0} → Ghosts D → Moving D → Duty → Core D → Core D → DutyAnswer → Type 0
RunsBackgroundTask g m which old new answer = RunsTask g m (IsAtRest g old ⊎ HasNothingToDo g m which old) which old new answer
