-- What the staging of a page or of a unit does to a volume.
use Rattle.std.specs.Int.{div_ceil}
use Rattle.std.specs.Prelude.{◌≡◌, ◌≢◌, ◌⊎◌, ℕ, ◌+◌, ◌<◌, ◌≤◌, ◌==◌, if◌then◌else◌, Bool, true, false, ⊤, List, [], ◌∷◌, ◌++◌, map, IsSome, Option, Some}
use Rattle.nl_field.specs.CrashStates.{Rose}
use Rattle.nl_field.specs.Numbers.{max_file_size}
use Rattle.nl_field.specs.declared.answers.VirtualWrite.TheVariants as write
use Rattle.nl_field.specs.declared.pointer.Tag.{Tag}
use Rattle.nl_tree.specs.Causes.{FaultRose, LostHasCause, fault_sum}
use Rattle.nl_tree.specs.Event.{is_whole, left_to_stage, page_given}
use Rattle.nl_tree.specs.Tree.{Tree, is_file, node_at}
use Rattle.nl_tree.specs.declared.call.Call.{Call}
use Rattle.nl_tree.specs.declared.call.Call.TheVariants.{Sync}
use Rattle.nl_tree.specs.declared.turn.Stage.{Stage}
use Rattle.nl_tree.specs.declared.turn.Stage.TheVariants as stage
use Rattle.nl_flight.specs.Flight.{InFlight, of_worker}
use Rattle.nl_iface.specs.declared.counts.Counts.{Ghosts}
use Rattle.nl_meta.specs.Consistent.{PageOfStamp}
use Rattle.nl_meta_running.specs.Running.{IsDirectoryAt}
use Rattle.nl_spec_commits.specs.Trees.{RepresentsTree}
use Rattle.nl_core.specs.Core.{running_of}
use Rattle.nl_core.specs.Goes.{PreservesVolume}
use Rattle.nl_core.specs.LastCommit.{LeavesMedium}
use Rattle.nl_core.specs.Trees.{CoreRepresentsTree}
use Rattle.nl_core.specs.Units.{DoesUnit, goal_of, goal_or, is_unit_left}
use Rattle.nl_core.specs.declared.state.Core.{Core}
use Rattle.nl_calls_steps.specs.Calls.{OtherLinesStay, counts_of}
use Rattle.nl_calls_steps.specs.Finding.{IsSomeFile}
use Rattle.nl_turns.specs.History.{Opening}
use Rattle.nl_turns.specs.Served.{IsLineOf, is_fault, is_staged, stage_entry}
use Rattle.nl_turns.specs.declared.entry.Entry.{Entry}
use Rattle.nl_volume_stage.specs.Serving.{staged_fault, to_stage_of}
use Rattle.nl_volume_stage.specs.Standing.{RepresentsHistory, first_whole}
use Rattle.nl_volume_stage.specs.declared.next.Next.{Next}
use Rattle.nl_volume_stage.specs.declared.next.Next.TheVariants as next

-- The volume stands for whatever it stood for.
abbrev pub PreservesHistory : {D : Type 0} → Ghosts D → Core D → Core D → Type 0
PreservesHistory {D} g old new =
    (origin : Core D) (o : Opening) (h : List Entry) (done : ℕ) → RepresentsHistory g origin o h old done → RepresentsHistory g origin o h new done

-- the volume stands for whatever it stood for, with an opening that has this line, of this worker and with this call
abbrev pub PreservesHistoryWith : {D : Type 0} → Ghosts D → ℕ → ℕ → Call → Core D → Core D → Type 0
PreservesHistoryWith {D} g worker line call old new =
    (origin : Core D) (o : Opening) (h : List Entry) (done : ℕ) → RepresentsHistory g origin o h old done → IsLineOf o worker line call
    → RepresentsHistory g origin o h new done

-- The volume stands for whatever it stood for, with an opening that has this line, of this worker and with this call, and with the entry of
-- a turn that staged it and answered so.
abbrev pub StandsAfterStaging : {D : Type 0} → Ghosts D → ℕ → ℕ → Call → Core D → Core D → Stage → Type 0
StandsAfterStaging {D} g worker line call old new answer =
    (origin : Core D) (o : Opening) (h : List Entry) (done : ℕ) → RepresentsHistory g origin o h old done → IsLineOf o worker line call
    → RepresentsHistory g origin o (h ++ stage_entry line answer ∷ []) new done

-- the volume stands for some opening and history
abbrev pub RepresentsSome : {D : Type 0} → Ghosts D → Core D → Type 0
RepresentsSome {D} g v = (origin : Core D) × (o : Opening) × (h : List Entry) × (done : ℕ) × RepresentsHistory g origin o h v done

-- the volume stands for some history and an opening that has this line, of this worker and with this call
abbrev pub RepresentsWithLine : {D : Type 0} → Ghosts D → ℕ → ℕ → Call → Core D → Type 0
RepresentsWithLine {D} g worker line call v =
    (origin : Core D) × (o : Opening) × (h : List Entry) × (done : ℕ) × RepresentsHistory g origin o h v done × IsLineOf o worker line call

-- A part of a staging that programs no page: what the volume shows of the worker's line stays, and so do the lines of others.
pub record PassesOn {D : Type 0} (g : Ghosts D) (worker line : ℕ) (old new : Core D) : Type 0 where
  pub most : ℕ
  pub goes : PreservesVolume g most old new
  pub on : PreservesHistory g old new
  pub others : OtherLinesStay worker old.flight new.flight
  pub fault : staged_fault new.flight worker line ≡ staged_fault old.flight worker line
  pub room : to_stage_of new worker line ≤ to_stage_of old worker line

-- The staging of a page, or its last part. The line keeps the number with which it failed, and has less to stage where a page was put in
-- flight.
pub record StagesOn {D : Type 0} (g : Ghosts D) (worker line : ℕ) (call : Call) (old new : Core D) (answer : Stage) : Type 0 where
  pub most : ℕ
  pub goes : PreservesVolume g most old new
  pub on : PreservesHistoryWith g worker line call old new
  pub others : OtherLinesStay worker old.flight new.flight
  pub fault : staged_fault new.flight worker line
      ≡ (if is_fault answer then Some (fault_sum (counts_of g new.device)) else staged_fault old.flight worker line)
  pub falls : is_staged answer ≡ true → to_stage_of new worker line < to_stage_of old worker line
  pub failed : answer ≡ stage.Fault → FaultRose (counts_of g old.device) (counts_of g new.device)
  pub lost : (w f : ℕ) → answer ≡ stage.Lost w f → LostHasCause g.tells w f

-- A whole staging, of a page or of a unit, with the entry of its turn. The line keeps the number with which it failed, and has less to stage
-- where one was staged.
pub record StagesTurn {D : Type 0} (g : Ghosts D) (worker line : ℕ) (call : Call) (old new : Core D) (answer : Stage) : Type 0 where
  pub most : ℕ
  pub goes : PreservesVolume g most old new
  pub on : StandsAfterStaging g worker line call old new answer
  pub others : OtherLinesStay worker old.flight new.flight
  pub fault : staged_fault new.flight worker line
      ≡ (if is_fault answer then Some (fault_sum (counts_of g new.device)) else staged_fault old.flight worker line)
  pub falls : is_staged answer ≡ true → to_stage_of new worker line < to_stage_of old worker line
  pub failed : answer ≡ stage.Fault → FaultRose (counts_of g old.device) (counts_of g new.device)
  pub lost : (w f : ℕ) → answer ≡ stage.Lost w f → LostHasCause g.tells w f

-- The tag is that of the page at a place of the call's range.
pub record IsNextTag (call : Call) (place : ℕ) (tag : Tag) : Type 0 where
  pub index : tag.index ≡ first_whole call + place
  pub whole : IsSome (page_given call tag.index)

abbrev pub IfPage : Next → (Tag → Type 0) → Type 0
IfPage (next.Page tag) P = P tag
IfPage next.Whole P = ⊤
IfPage (next.Lost w f) P = ⊤
IfPage next.Fault P = ⊤

-- ---- what is left to stage

-- the indexes of the pages in flight for a line of a worker
abbrev pub staged_indexes : List InFlight → ℕ → ℕ → List ℕ
staged_indexes flight worker line =
    if (of_worker flight worker).line == line then map (λ page. page.index) (of_worker flight worker).pages else []

-- What a staging says by its answer of the indexes that are left before it and after it: the first of them was staged; or none was left.
-- Where none was left it fails only where a read failed.
abbrev pub StagesFirst : (before after : List ℕ) → Type 0 → Stage → Type 0
StagesFirst before after read_failed stage.Staged = (index : ℕ) × (before ≡ index ∷ after)
StagesFirst before after read_failed stage.Whole = before ≡ []
StagesFirst before after read_failed stage.Fault = before ≡ [] → read_failed
StagesFirst before after read_failed stage.Stopped = ⊤
StagesFirst before after read_failed (stage.Lost w f) = ⊤

-- a staging says so of the line's pages, while the medium tells its contents, in each tree as which the core runs
abbrev pub TellsLeft : {D : Type 0} → Ghosts D → ℕ → ℕ → Call → Core D → Core D → Stage → Type 0
TellsLeft g worker line call old new answer =
    g.tells → (page_of_stamp : ℕ → Option PageOfStamp) (tree : Tree) → CoreRepresentsTree g old page_of_stamp tree
    → StagesFirst (left_to_stage tree call (staged_indexes old.flight worker line))
    (left_to_stage tree call (staged_indexes new.flight worker line)) (Rose (g.read_faults old.device) (g.read_faults new.device)) answer

-- The core as the unit of a sync finds it: pages in flight of another line of the worker were freed, and the line has its goal. The medium
-- and all else stay, what is frozen too.
pub record FindsUnit {D : Type 0} (g : Ghosts D) (old between : Core D) : Type 0 where
  pub kept : LeavesMedium g old between
  pub others : between ≡ record old { device = between.device; flight = between.flight }

-- What a staging says by its answer of the units of a sync, over any medium. Where none was left it did none, and answers so unless it was
-- stopped. Where it answers Staged it did one. The line has a goal then: the one that it had, and else all calls before the staging.
pub record TellsUnit {D : Type 0} (g : Ghosts D) (worker line : ℕ) (call : Call) (old new : Core D) (answer : Stage) : Type 0 where
  pub whole : answer ≡ stage.Whole → is_unit_left call (goal_of old.flight worker line) old.committed old.count ≡ false
  pub none : call ≡ Sync → is_unit_left call (goal_of old.flight worker line) old.committed old.count ≡ false
      → (answer ≡ stage.Whole) ⊎ (answer ≡ stage.Stopped)
  pub done : call ≡ Sync → answer ≡ stage.Staged → (between : Core D) × FindsUnit g old between × DoesUnit g between new write.Done
  pub goal : call ≡ Sync → answer ≢ stage.Stopped
      → goal_of new.flight worker line ≡ Some (goal_or (goal_of old.flight worker line) old.count)

-- What a staging says by its answer of what was left: of the pages of a call that writes, and of the units of a sync.
pub record TellsRest {D : Type 0} (g : Ghosts D) (worker line : ℕ) (call : Call) (old new : Core D) (answer : Stage) : Type 0 where
  pub pages : call ≢ Sync → TellsLeft g worker line call old new answer
  pub units : TellsUnit g worker line call old new answer

-- in each tree for which the pages of the core stand, a file is at the path, or none
abbrev pub FileIsAt : {D : Type 0} → Ghosts D → Core D → List (List ℕ) → Bool → Type 0
FileIsAt g v path is =
    (page_of_stamp : ℕ → Option PageOfStamp) (tree : Tree) → RepresentsTree (g.shape v.device) (running_of g v) page_of_stamp tree
    → is_file (node_at tree path) ≡ is

-- What is next of a range of a file, so many of whose pages are in flight. A page of it is, which ends at the greatest size at the latest;
-- or none, where it is of no file, or ends behind the greatest size or before that page.
abbrev pub IsNextOf : (file none : Type 0) → (from len place : ℕ) → Next → Type 0
IsNextOf file none from len place (next.Page tag) = file × (from + len ≤ max_file_size)
IsNextOf file none from len place next.Whole =
    none ⊎ (max_file_size < from + len) ⊎ (is_whole from len (div_ceil from 4096 + place) ≡ false)
IsNextOf file none from len place (next.Lost w f) = ⊤
IsNextOf file none from len place next.Fault = ⊤

-- of the file at a path, and of a node
abbrev pub IsNextIn : {D : Type 0} → Ghosts D → Core D → List (List ℕ) → (from len place : ℕ) → Next → Type 0
IsNextIn g v path from len place answer = IsNextOf (FileIsAt g v path true) (FileIsAt g v path false) from len place answer

abbrev pub IsNextAt : {D : Type 0} → Ghosts D → Core D → (n from len place : ℕ) → Next → Type 0
IsNextAt g v n from len place answer = IsNextOf (IsSomeFile g v n) (IsDirectoryAt g v.device v.meta n) from len place answer
