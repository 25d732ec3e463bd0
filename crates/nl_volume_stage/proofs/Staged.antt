-- What a turn of staging shows.
use Rattle.std.proofs.Common.{◌≡◌, ℕ, List, ◌∷◌, ◌++◌, [], refl}
use Rattle.nl_tree.specs.Causes.{FaultRose, NeverFall, fault_sum}
use Rattle.nl_tree.specs.declared.call.Call.{Call}
use Rattle.nl_tree.specs.declared.turn.Stage.{Stage}
use Rattle.nl_tree.specs.declared.turn.Stage.TheVariants as stage
use Rattle.nl_iface.specs.declared.counts.Counts.{Ghosts}
use Rattle.nl_core.specs.Core.{IsCore}
use Rattle.nl_core.specs.declared.state.Core.{Core}
use Rattle.nl_turns.specs.History.{Opening}
use Rattle.nl_turns.specs.Served.{IsLineOf, KeepsStagedFaults, StagesLess, StaysReadOnly, is_fault, is_staged, stage_entry}
use Rattle.nl_turns.specs.declared.entry.Entry.{Entry}
use Rattle.nl_calls_steps.specs.Calls.{counts_of}
use Rattle.nl_volume_stage.specs.Serving.{refusing_of, some_number, to_stage_of}
use Rattle.nl_volume_stage.specs.Staging.{StagesOn, StagesTurn}
use Rattle.nl_volume_stage.specs.Standing.{RepresentsHistory}
use Rattle.nl_volume_stage.proofs.Serving.{GoalsWithin, never_fall, staged_same, stays_read_only, to_stage_less}
use Rattle.nl_volume_stage.proofs.Standing.{quiet_stands}

-- the staging of a page, with the entry of its turn
pub turn_of : {D : Type 0} (g : Ghosts D) (worker line : ℕ) (call : Call) (u w : Core D) (answer : Stage) → StagesOn g worker line call u w answer → StagesTurn g worker line call u w answer
turn_of g worker line call u w answer x = record {
  most = x.most;
  goes = x.goes;
  on = λ origin o h done s of. quiet_stands g origin o h w done (stage_entry line answer) (x.on origin o h done s of) (record { line = refl; fault = refl; synced = refl });
  others = x.others;
  fault = x.fault;
  falls = x.falls;
  failed = x.failed;
  lost = x.lost;
}

module _ {D : Type 0} (g : Ghosts D) (worker line : ℕ) (call : Call) (u w : Core D) (answer : Stage) (core : IsCore g u) (x : StagesTurn g worker line call u w answer) where
  pub staged_stands : (origin : Core D) (o : Opening) (h : List Entry) (done : ℕ) → RepresentsHistory g origin o h u done → IsLineOf o worker line call → RepresentsHistory g origin o (h ++ stage_entry line answer ∷ []) w done
  staged_stands = x.on

  pub staged_counts : NeverFall (counts_of g u.device) (counts_of g w.device)
  staged_counts = never_fall g x.most u w core x.goes

  pub staged_less : GoalsWithin u → StagesLess (to_stage_of u) (to_stage_of w) worker line (is_staged answer)
  staged_less within = record { falls = x.falls; others = λ k l far. to_stage_less u w x.goes.onward within k l (x.others k far) }

  pub staged_read_only : StaysReadOnly (counts_of g u.device) (counts_of g w.device) (some_number u.stopped) (some_number w.stopped)
  staged_read_only = stays_read_only g x.most u w core x.goes

  pub staged_faults : KeepsStagedFaults (refusing_of g u) (refusing_of g w) worker line (is_fault answer) (fault_sum (counts_of g w.device))
  staged_faults = record { here = x.fault; others = λ k l far. staged_same u.flight w.flight k l (x.others k far) }

  pub staged_failed : answer ≡ stage.Fault → FaultRose (counts_of g u.device) (counts_of g w.device)
  staged_failed = x.failed
