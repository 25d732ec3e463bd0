-- What a file call does to a core, and what it answers.
use Rattle.std.specs.Prelude.{◌≡◌, ℕ, ◌^◌, ◌<◌, ◌≤◌, ◌&&◌, Bool, true, false, IsTrue, IfSome, List, length, is_none, Option}
use Rattle.nl_tree.specs.Causes.{FaultWithin, fault_in, is_changing}
use Rattle.nl_tree.specs.Replay.{Answers, step_marked}
use Rattle.nl_tree.specs.Tree.{Tree}
use Rattle.nl_tree.specs.declared.call.Call.{Call}
use Rattle.nl_tree.specs.declared.call.Call.TheVariants.{Clean, Sync}
use Rattle.nl_tree.specs.declared.reply.FaultReply.{FaultReply}
use Rattle.nl_tree.specs.declared.reply.Reply.{Reply}
use Rattle.nl_tree.specs.declared.reply.Reply.TheVariants.{Done, Synced}
use Rattle.nl_flight.specs.Flight.{InFlight, begun, of_worker}
use Rattle.nl_iface.specs.declared.counts.Counts.{Ghosts}
use Rattle.nl_iface.specs.declared.moving_pages.MovingPages.{Ghosts as Moving}
use Rattle.nl_meta.specs.Consistent.{PageOfStamp}
use Rattle.nl_journal_commit.specs.Holding.{running_holders}
use Rattle.nl_namespace.specs.Calls.{IsOfNames}
use Rattle.nl_core.specs.Core.{IsCore}
use Rattle.nl_core.specs.Goes.{PreservesVolume}
use Rattle.nl_core.specs.Rounds.{ReclaimPassIsDone}
use Rattle.nl_core.specs.Trees.{CoreRepresentsTree}
use Rattle.nl_core.specs.Units.{goal_or}
use Rattle.nl_core.specs.declared.state.Core.{Core}
use Rattle.nl_calls_steps.specs.Steps.{Steps}
use Rattle.nl_calls_steps.specs.Calls.{MakesTree, OtherLinesStay, counts_of}
use Rattle.nl_calls_names.specs.Naming.{TakesLeastOn}

-- how many pages files have
abbrev pub pages_of_files : {D : Type 0} → Ghosts D → Core D → ℕ
pages_of_files g v = length (running_holders g v.device v.meta)

-- ---- lines in flight

-- The worker has no line, and those of others stay.
pub record EndsLine (worker : ℕ) (old new : List InFlight) : Type 0 where
  pub idle : of_worker new worker ≡ begun 0
  pub others : OtherLinesStay worker old new

-- ---- what the call does

-- The core goes on, and then pages of the metadata change in memory, so that it makes of its tree what the call makes of it, with this
-- fault, if it met one. A call that changes names takes the least of what is free then.
pub record MakesEffect {D : Type 0} (g : Ghosts D) (call : Call) (fault : Option FaultReply) (old new : Core D) : Type 0 where
  pub between : Core D
  pub core : IsCore g between
  pub most : ℕ
  pub goes : PreservesVolume g most old between
  pub steps : Steps g between new
  pub makes : MakesTree g between new (call, fault)
  pub takes : IsOfNames call → TakesLeastOn g between new

-- The core goes on, and at least as many calls are committed as the goal asks for. How many are committed is told, whoever made them so, and
-- the moment of that commit page, which may be an earlier one than the begin of the call.
pub record Syncs {D : Type 0} (g : Ghosts D) (goal upto moment : ℕ) (old new : Core D) : Type 0 where
  pub most : ℕ
  pub goes : PreservesVolume g most old new
  pub reached : goal ≤ new.committed
  pub upto_is : upto ≡ new.committed
  pub moment_is : moment ≡ new.moment

-- The core goes on, and then a round of reclaiming is done.
pub record RunsReclaimPass {D : Type 0} (g : Ghosts D) (m : Moving D) (old new : Core D) : Type 0 where
  pub between : Core D
  pub most : ℕ
  pub goes : PreservesVolume g most old between
  pub round : ReclaimPassIsDone g m between new

-- what a call does whose reply is this one, with this goal where it is a sync
abbrev pub HasEffectOf : {D : Type 0} → Ghosts D → ℕ → Call → Core D → Core D → Reply → Type 0
HasEffectOf g goal call old new (Synced upto moment) = Syncs g goal upto moment old new
HasEffectOf g goal call old new reply = MakesEffect g call (fault_in reply) old new

-- the goal of a worker's line in flight as a sync, all calls so far where none is fixed
abbrev pub goal_now : {D : Type 0} → Core D → ℕ → ℕ
goal_now v worker = goal_or (of_worker v.flight worker).goal v.count

-- ---- what it answers

abbrev pub is_synced : Reply → Bool
is_synced (Synced upto moment) = true
is_synced _ = false

abbrev pub is_sync_call : Call → Bool
is_sync_call Sync = true
is_sync_call _ = false

-- On each tree as which the core ran, the call has this reply and these bytes, with the fault of the reply if it is one.
abbrev pub AnswersOn : {D : Type 0} → Ghosts D → Call → Core D → Reply → List ℕ → Type 0
AnswersOn g call old reply out =
    g.tells → (page_of_stamp : ℕ → Option PageOfStamp) (tree : Tree) → CoreRepresentsTree g old page_of_stamp tree
    → Answers (step_marked (g.shape old.device) tree (call, fault_in reply)) reply out

-- A call that was tried: its reply is the one that is due, it had its effect, and a fault has its cause within it. Exactly a sync without a
-- fault has the numbers of one, and a call for cleaning that is done did a round. The worker has no line afterwards, and files have so many
-- pages.
pub record AnswersCall {D : Type 0} (g : Ghosts D) (worker : ℕ) (call : Call) (old new : Core D) (reply : Reply) (out : List ℕ) (files : ℕ) : Type 0 where
  pub effect : HasEffectOf g (goal_now old worker) call old new reply
  pub answers : AnswersOn g call old reply out
  pub cause : IfSome (fault_in reply) (FaultWithin g.tells (counts_of g old.device) (counts_of g new.device))
  pub synced : is_synced reply ≡ (is_sync_call call && is_none (fault_in reply))
  pub line : EndsLine worker old.flight new.flight
  pub files_are : files ≡ pages_of_files g new

-- ---- what it asks

-- A sync whose goal is reached: so many calls are committed.
pub record IsReachedSync {D : Type 0} (call : Call) (goal : ℕ) (v : Core D) : Type 0 where
  pub sync : call ≡ Sync
  pub reached : goal ≤ v.committed

-- A call that changes something is tried only where the volume can be written to and its write sequence numbers are not used up.
pub record MayTry {D : Type 0} (g : Ghosts D) (call : Call) (v : Core D) : Type 0 where
  pub writes : IsTrue (is_changing call) → v.stopped ≡ 0
  pub stamp : IsTrue (is_changing call) → g.next_stamp v.device < 2 ^ 62
