-- What a value behind the lock does in one turn, and the entry of that turn.
use Rattle.std.specs.Prelude.{◌≡◌, ◌≢◌, ℕ, ◌+◌, ◌<◌, ◌≤◌, ◌++◌, [], ◌∷◌, Bool, true, false, if◌then◌else◌, List, Option, Some, None, IfSome, IsSome}
use Rattle.nl_field.specs.CrashStates.{saturated, Rose}
use Rattle.nl_tree.specs.Calls.{IsBounded}
use Rattle.nl_tree.specs.Causes.{Counts, FaultState, HasCause, IsSumSince}
use Rattle.nl_tree.specs.Step.{Outcome}
use Rattle.nl_tree.specs.Replay.{step_marked}
use Rattle.nl_tree.specs.declared.call.Call.{Call}
use Rattle.nl_tree.specs.declared.call.Line.{Line}
use Rattle.nl_tree.specs.declared.reply.Reply.{Reply}
use Rattle.nl_tree.specs.declared.reply.Reply.TheVariants.{Synced, Fault as FaultAnswer}
use Rattle.nl_tree.specs.declared.turn.DutyAnswer.{DutyAnswer}
use Rattle.nl_tree.specs.declared.turn.DutyAnswer.TheVariants.{Lost as DutyLost}
use Rattle.nl_tree.specs.declared.turn.Stage.{Stage}
use Rattle.nl_tree.specs.declared.turn.Stage.TheVariants.{Staged, Fault as StageFault, Lost as StageLost}
use Rattle.nl_turns.specs.History.{Opening, effects, fault_of, line_at, tree_after, opening_counts}
use Rattle.nl_turns.specs.declared.entry.Entry.{Entry}
use Rattle.nl_turns.specs.declared.entry.FaultMark.{FaultMark}
use Rattle.nl_turns.specs.declared.entry.FaultMark.TheVariants.{NoFault, Fault}
use Rattle.nl_turns.specs.declared.entry.SyncMark.{SyncMark}
use Rattle.nl_turns.specs.declared.entry.SyncMark.TheVariants.{NoSync, At}

-- ---- the entry of a turn

abbrev pub is_fault : Stage → Bool
is_fault StageFault = true
is_fault _ = false

abbrev pub is_staged : Stage → Bool
is_staged Staged = true
is_staged _ = false

-- a page was found without the wanted stamp
abbrev pub is_lost_stage : Stage → Bool
is_lost_stage (StageLost wanted found) = true
is_lost_stage _ = false

abbrev pub is_lost_duty : DutyAnswer → Bool
is_lost_duty (DutyLost wanted found) = true
is_lost_duty _ = false

abbrev pub fault_mark : Reply → FaultMark
fault_mark (FaultAnswer fault) = Fault fault
fault_mark _ = NoFault

abbrev pub sync_mark : Reply → SyncMark
sync_mark (Synced upto moment) = At upto moment
sync_mark _ = NoSync

abbrev pub stage_entry : ℕ → Stage → Entry
stage_entry line answer = record { line = 0; staged = line; more = is_staged answer; lost = is_lost_stage answer; fault = NoFault; synced = NoSync }

abbrev pub effect_entry : ℕ → Reply → Entry
effect_entry line reply = record { line = line; staged = 0; more = false; lost = false; fault = fault_mark reply; synced = sync_mark reply }

abbrev pub duty_entry : DutyAnswer → Entry
duty_entry answer = record { line = 0; staged = 0; more = false; lost = is_lost_duty answer; fault = NoFault; synced = NoSync }

-- ---- what a call may be asked, and what it does

-- the opening has this line, of this worker and with this call, which has what each call has by condition
pub record IsLineOf (opening : Opening) (worker line : ℕ) (call : Call) : Type 0 where
  pub numbered : 0 < line
  pub bounded : IsBounded call
  pub found : (l : Line) × (line_at opening.lines line ≡ Some l) × (l.worker ≡ worker) × (l.call ≡ call)

module _ {V : Type 0} (stands : V → Opening → List Entry → V → Type 0) (value : V) where
  abbrev pub StandsForSome : Type 0
  StandsForSome = (origin : V) × (opening : Opening) × (history : List Entry) × stands origin opening history value

  abbrev pub StandsForSomeWithLine : ℕ → ℕ → Call → Type 0
  StandsForSomeWithLine worker line call =
      (origin : V) × (opening : Opening) × (history : List Entry) × stands origin opening history value × IsLineOf opening worker line call

  -- P holds from each origin, opening and history for which the value stands and which have the line
  abbrev pub FromEachWithLine : ℕ → ℕ → Call → (V → Opening → List Entry → Type 0) → Type 0
  FromEachWithLine worker line call P =
      (origin : V) (opening : Opening) (history : List Entry) → stands origin opening history value → IsLineOf opening worker line call
      → P origin opening history

-- the sum of the opening's count and of the effects with this one
abbrev pub place_due : Opening → List Entry → ℕ → Reply → ℕ
place_due opening history line reply = saturated (opening.count + effects (history ++ effect_entry line reply ∷ []))

-- the number of the effects with this one
abbrev pub ordinal_due : List Entry → ℕ → Reply → ℕ
ordinal_due history line reply = saturated (effects (history ++ effect_entry line reply ∷ []))

-- what is due on the tree after the history, with the fault of the reply, if it is one
abbrev pub outcome_due : Opening → List Entry → Call → Reply → Outcome
outcome_due opening history call reply = step_marked opening.shape (tree_after opening history) (call, fault_of (fault_mark reply))

-- a fault reply has its cause between the opening and now
abbrev pub FaultHasCause : Type 0 → Opening → Counts → Call → Reply → Type 0
FaultHasCause tells opening now call reply =
    IfSome (fault_of (fault_mark reply)) (HasCause tells (opening_counts opening) now opening.next_stamp call)

-- What refuses lines from one turn to the next: the number with which a volume became read-only stays, and it becomes so only where a
-- program or an erase failed, with the sum of the counts after some failure of this turn.
pub record StaysReadOnly (before now : Counts) (old new : Option ℕ) : Type 0 where
  pub stays : (n : ℕ) → old ≡ Some n → new ≡ Some n
  pub begins : (n : ℕ) → old ≡ None → new ≡ Some n → Rose before.write_faults now.write_faults × IsSumSince before now n
  pub always : before.write_faults < now.write_faults → IsSome new

-- the number that a failed staging of a line leaves, and what it leaves of other workers' lines
pub record KeepsStagedFaults (before now : ℕ → ℕ → FaultState) (worker line : ℕ) (failed : Bool) (sum : ℕ) : Type 0 where
  pub here : (now worker line).staged ≡ (if failed then Some sum else (before worker line).staged)
  pub others : (w l : ℕ) → w ≢ worker → (now w l).staged ≡ (before w l).staged

-- A stage leaves less to stage of its line where it staged, and no turn leaves more of a line of another worker.
pub record StagesLess (before now : ℕ → ℕ → ℕ) (worker line : ℕ) (staged : Bool) : Type 0 where
  pub falls : staged ≡ true → now worker line < before worker line
  pub others : (w l : ℕ) → w ≢ worker → now w l ≤ before w l

abbrev pub NoMoreToStage : (ℕ → ℕ → ℕ) → (ℕ → ℕ → ℕ) → Type 0
NoMoreToStage before now = (w l : ℕ) → now w l ≤ before w l
