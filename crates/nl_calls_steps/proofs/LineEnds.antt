-- A core is the same whatever lines its pages in flight are of.
use Rattle.std.proofs.Common.{◌≡◌, ℕ, ◌<◌, List, length, refl, sym, ap, subst, arith}
use Rattle.nl_field.specs.declared.pointer.Pointer.{Pointer}
use Rattle.nl_field.specs.declared.pointer.Tag.{Tag}
use Rattle.nl_flight.specs.Flight.{InFlight, IsFlight, begun, carried, of_worker, with_line}
use Rattle.nl_iface.specs.Calls.{StoresPages}
use Rattle.nl_iface.specs.Device.{IsVolumeShape}
use Rattle.nl_iface.specs.Names.{Has}
use Rattle.nl_iface.specs.declared.counts.Counts.{Ghosts}
use Rattle.nl_meta.proofs.PageProofs.{none}
use Rattle.nl_meta_running.proofs.Holds.{reads-none}
use Rattle.nl_spec_commits.specs.Held.{IsHeldVolume}
use Rattle.nl_core.specs.Core.{IsCore}
use Rattle.nl_core.specs.declared.state.Core.{Core}
use Rattle.nl_core.proofs.Lines.{none_is_flight}
use Rattle.nl_calls_steps.specs.Installing.{with_landed}
use Rattle.nl_calls_steps.specs.Steps.{IsHeldAfter, Steps}
use Rattle.nl_calls_files.proofs.Landing.{pages_land}
use Rattle.nl_calls_steps.proofs.Stepping.{stepped_core}

-- other lines with the same pages
pub flight_step : {D : Type 0} (g : Ghosts D) (v : Core D) (flight : List InFlight) → Steps g v (record v { flight = flight })
flight_step g v flight = record { reads = reads-none g v.device; read_faults = omega arith; pages = none v.meta; room = omega arith; others = refl }

module _ {D : Type 0} (g : Ghosts D) (v : Core D) (flight : List InFlight) (core : IsCore g v) (volume : IsVolumeShape (g.shape v.device)) (stores : g.tells → StoresPages g v.device) (lines : IsFlight flight)
    (same : carried flight ≡ carried v.flight) where
  held : IsHeldAfter g v (record v { flight = flight })
  held = record {
    runs = core.journaled.runs;
    free = record { count_nodes = core.free.count_nodes; count_pool = core.free.count_pool; nodes = core.free.nodes; pool = core.free.pool };
    held = subst (λ (xs : List (Tag × Pointer)). IsHeldVolume g v.device v.journal v.meta xs v.freeing.items v.leaving) (sym same) core.held;
    as_many = let n = ap length same in omega (arith, n);
    few = core.space.few;
    flight = lines;
    fewer = λ x has. subst (λ (xs : List (Tag × Pointer)). Has xs x) same has;
  }

  pub other_lines : IsCore g (record v { flight = flight })
  other_lines = stepped_core g v (record v { flight = flight }) core volume (flight_step g v flight) held core.formed stores

pub line_ended : {D : Type 0} (g : Ghosts D) (v : Core D) (worker : ℕ) → IsCore g (with_landed v worker (length (of_worker v.flight worker).pages)) → IsVolumeShape (g.shape v.device) → (g.tells → StoresPages g v.device)
    → IsFlight v.flight → worker < 8 → IsCore g (record v { flight = with_line v.flight worker (begun 0) })
line_ended g v worker core volume stores lines known =
    other_lines g (with_landed v worker (length (of_worker v.flight worker).pages)) (with_line v.flight worker (begun 0)) core volume stores (none_is_flight v.flight worker lines known) (sym (pages_land v.flight worker lines known).last)
