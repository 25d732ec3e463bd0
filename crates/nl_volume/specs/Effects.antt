-- What the effect of a line does to a volume, and what it answers.
use Rattle.std.specs.Prelude.{◌≡◌, ◌≢◌, ◌⊎◌, ℕ, ◌^◌, ◌≤◌, ◌&&◌, false, List, is_none}
use Rattle.nl_tree.specs.Causes.{FaultIsDue, fault_in, is_changing}
use Rattle.nl_tree.specs.declared.call.Call.{Call}
use Rattle.nl_tree.specs.declared.reply.Reply.{Reply}
use Rattle.nl_iface.specs.declared.counts.Counts.{Ghosts}
use Rattle.nl_iface.specs.declared.moving_pages.MovingPages.{Ghosts as Moving}
use Rattle.nl_core.specs.Core.{IsCore}
use Rattle.nl_core.specs.Units.{goal_of, goal_or}
use Rattle.nl_core.specs.declared.state.Core.{Core}
use Rattle.nl_calls.specs.Answering.{AnswersOn, RunsReclaimPass, EndsLine, HasEffectOf, IsReachedSync, is_sync_call, is_synced, pages_of_files}
use Rattle.nl_calls_steps.specs.Calls.{counts_of}
use Rattle.nl_volume_stage.specs.Serving.{refusing_of}
use Rattle.nl_core.specs.Calls.{counted}

-- A line was refused before it was tried, or tried: its reply is the one that is due, it had its effect, and a fault has its cause. Exactly
-- a sync without a fault has the numbers of one. The worker has no line afterwards, and files have so many pages.
pub record AnswersLine {D : Type 0} (g : Ghosts D) (worker line : ℕ) (call : Call) (old new : Core D) (reply : Reply) (out : List ℕ) (files : ℕ) : Type 0 where
  pub core : IsCore g new
  pub effect : HasEffectOf g (goal_or (goal_of old.flight worker line) old.count) call old new reply
  pub answers : AnswersOn g call old reply out
  pub due : FaultIsDue g.tells (refusing_of g old worker line) (counts_of g old.device) (counts_of g new.device) call reply
  pub synced : is_synced reply ≡ (is_sync_call call && is_none (fault_in reply))
  pub ended : EndsLine worker old.flight new.flight
  pub files_are : files ≡ pages_of_files g new

-- A round of reclaiming was done, and then the call was counted.
abbrev pub CleansAndCounts : {D : Type 0} → Ghosts D → Moving D → Core D → Core D → Type 0
CleansAndCounts {D} g m old new = (between : Core D) × RunsReclaimPass g m old between × (new ≡ counted between)

-- The call only looks, or the volume is read-only or worn.
abbrev pub CannotChange : {D : Type 0} → Ghosts D → Call → Core D → Type 0
CannotChange g call v = (is_changing call ≡ false) ⊎ (v.stopped ≢ 0) ⊎ (2 ^ 62 ≤ g.next_stamp v.device)

-- The call needs no write: it cannot change anything, or it is a sync whose goal is committed.
abbrev pub NeedsNoWrite : {D : Type 0} → Ghosts D → ℕ → ℕ → Call → Core D → Type 0
NeedsNoWrite g worker line call v = CannotChange g call v ⊎ IsReachedSync call (goal_or (goal_of v.flight worker line) v.count) v
