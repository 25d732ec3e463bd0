-- What a call of the core, or a step of a file call, means for a volume that stands.
use Rattle.std.specs.Prelude.{◌≡◌, ◌⊎◌, ◌≤◌, ℕ, List, None}
use Rattle.nl_field.specs.CrashStates.{top}
use Rattle.nl_tree.specs.Causes.{FaultRose, NeverFall}
use Rattle.nl_flight.specs.Flight.{InFlight, of_worker}
use Rattle.nl_iface.specs.declared.counts.Counts.{Ghosts}
use Rattle.nl_core.specs.Core.{IsCore}
use Rattle.nl_core.specs.Goes.{PreservesVolume}
use Rattle.nl_core.specs.declared.state.Core.{Core}
use Rattle.nl_turns.specs.History.{Opening}
use Rattle.nl_turns.specs.declared.entry.Entry.{Entry}
use Rattle.nl_turns.specs.declared.entry.FaultMark.TheVariants.{NoFault}
use Rattle.nl_turns.specs.declared.entry.SyncMark.TheVariants.{NoSync}
use Rattle.nl_calls_steps.specs.Calls.{counts_of}
use Rattle.nl_volume_stage.specs.Standing.{FlightIsOfLines}

-- no effect, no fault and no sync
pub record IsQuiet (entry : Entry) : Type 0 where
  pub line : entry.line ≡ 0
  pub fault : entry.fault ≡ NoFault
  pub synced : entry.synced ≡ NoSync

-- No staging failed: each number that is kept was kept before.
abbrev pub FaultsStay : List InFlight → List InFlight → Type 0
FaultsStay old new = (worker : ℕ) → ((of_worker new worker).fault ≡ (of_worker old worker).fault) ⊎ ((of_worker new worker).fault ≡ 0)

-- No goal is fixed: each that is kept was kept before, of the same line.
abbrev pub GoalsStay : List InFlight → List InFlight → Type 0
GoalsStay old new =
    (worker : ℕ) → ((of_worker new worker).goal ≡ None)
    ⊎ (((of_worker new worker).goal ≡ (of_worker old worker).goal) × ((of_worker new worker).line ≡ (of_worker old worker).line))

-- Clock and count of failed writes are numbers of a `u64`.
pub record AreCounts {D : Type 0} (g : Ghosts D) (v : Core D) : Type 0 where
  pub clock : g.clock v.device ≤ top
  pub write_faults : g.write_faults v.device ≤ top

-- The core goes on.
pub record PreservesCore {D : Type 0} (g : Ghosts D) (old new : Core D) : Type 0 where
  pub core : IsCore g new
  pub counts : AreCounts g new
  pub most : ℕ
  pub goes : PreservesVolume g most old new

-- A call of the core that keeps what is in flight in order.
pub record CallsCore {D : Type 0} (g : Ghosts D) (opening : Opening) (old new : Core D) : Type 0 where
  pub on : PreservesCore g old new
  pub flight : FlightIsOfLines g opening new.device new.flight
  pub goals : GoalsStay old.flight new.flight

-- A turn began with one volume and has come to another: an operation of the medium failed in it, and no staging has failed yet.
pub record FailsSince {D : Type 0} (g : Ghosts D) (start now : Core D) : Type 0 where
  pub later : NeverFall (counts_of g start.device) (counts_of g now.device)
  pub rose : FaultRose (counts_of g start.device) (counts_of g now.device)
  pub faults : FaultsStay start.flight now.flight
