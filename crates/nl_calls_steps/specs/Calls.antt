-- What a call on a file does to a core.
use Rattle.std.specs.Prelude.{◌≡◌, ◌≢◌, ℕ, ◌^◌, ⊤, List, length, Option, Some, None}
use Rattle.nl_tree.specs.Causes.{Counts}
use Rattle.nl_tree.specs.Replay.{step_marked}
use Rattle.nl_tree.specs.Tree.{Tree}
use Rattle.nl_tree.specs.declared.call.Call.{Call}
use Rattle.nl_tree.specs.declared.reply.FaultReply.{FaultReply}
use Rattle.nl_core_callbacks.specs.Handled.{nameless_line}
use Rattle.nl_flight.specs.Flight.{InFlight, begun, of_worker}
use Rattle.nl_iface.specs.declared.counts.Counts.{Ghosts}
use Rattle.nl_meta.specs.Consistent.{PageOfStamp}
use Rattle.nl_meta_running.specs.declared.answer.Stop.{Stop}
use Rattle.nl_meta_running.specs.declared.answer.Stop.TheVariants as stop
use Rattle.nl_journal_commit.specs.Holding.{running_holders}
use Rattle.nl_spec_commits.specs.Trees.{RepresentsTree}
use Rattle.nl_core.specs.Core.{IsCore, running_of}
use Rattle.nl_core.specs.Goes.{PreservesVolume}
use Rattle.nl_core.specs.Trees.{CoreRepresentsTree}
use Rattle.nl_core.specs.declared.state.Core.{Core}
use Rattle.nl_calls_steps.specs.Steps.{Steps}
use Rattle.nl_calls_steps.specs.declared.answer.Written.{Written}
use Rattle.nl_calls_steps.specs.declared.answer.Written.TheVariants as written

-- the clock and the counts of faults of the medium
abbrev pub counts_of : {D : Type 0} → Ghosts D → D → Counts
counts_of g s = record { clock = g.clock s; read_faults = g.read_faults s; write_faults = g.write_faults s }

-- the core runs as some tree while the medium tells its contents
abbrev pub RepresentsSomeTree : {D : Type 0} → Ghosts D → Core D → Type 0
RepresentsSomeTree g v = g.tells → (page_of_stamp : ℕ → Option PageOfStamp) × (tree : Tree) × CoreRepresentsTree g v page_of_stamp tree

-- files have so many pages
abbrev pub HasPagesOfFiles : {D : Type 0} → Ghosts D → Core D → ℕ → Type 0
HasPagesOfFiles g v files = files ≡ length (running_holders g v.device v.meta)

-- The lines of other workers are those of before but for the names of their pages.
abbrev pub OtherLinesStay : ℕ → List InFlight → List InFlight → Type 0
OtherLinesStay worker old new = (w : ℕ) → w ≢ worker → nameless_line (of_worker new w) ≡ nameless_line (of_worker old w)

-- The pages of the core stand for what the call makes of each tree as which it ran.
abbrev pub MakesTree : {D : Type 0} → Ghosts D → Core D → Core D → Call × Option FaultReply → Type 0
MakesTree g old new x =
    g.tells → (page_of_stamp : ℕ → Option PageOfStamp) (tree : Tree) → CoreRepresentsTree g old page_of_stamp tree
    → RepresentsTree (g.shape new.device) (running_of g new) page_of_stamp (step_marked (g.shape old.device) tree x).tree

-- The core goes on, with at most so many write sequence numbers, and then makes of its tree what the call makes of it. The worker has no
-- line afterwards.
pub record TakesWithin {D : Type 0} (g : Ghosts D) (most worker : ℕ) (call : Call) (old new : Core D) : Type 0 where
  pub between : Core D
  pub core : IsCore g between
  pub goes : PreservesVolume g most old between
  pub steps : Steps g between new
  pub makes : MakesTree g between new (call, None)
  pub ended : of_worker new.flight worker ≡ begun 0

abbrev pub TakesCall : {D : Type 0} → Ghosts D → ℕ → Call → Core D → Core D → Type 0
TakesCall g worker call old new = TakesWithin g (2 ^ 40) worker call old new

-- the call is done, and P holds of how many pages files have then
abbrev pub IfWritten : Written → (ℕ → Type 0) → Type 0
IfWritten (written.Done files) P = P files
IfWritten (written.No refusal) P = ⊤
IfWritten (written.Lost w f) P = ⊤
IfWritten written.Fault P = ⊤

-- the call is not done, and P holds
abbrev pub IfUndone : Written → Type 0 → Type 0
IfUndone (written.Done files) P = ⊤
IfUndone (written.No refusal) P = P
IfUndone (written.Lost w f) P = P
IfUndone written.Fault P = P

-- what ended the call early
abbrev pub stop_in : Written → Option Stop
stop_in (written.Done files) = None
stop_in (written.No refusal) = None
stop_in (written.Lost w f) = Some (stop.Lost w f)
stop_in written.Fault = Some stop.Fault
