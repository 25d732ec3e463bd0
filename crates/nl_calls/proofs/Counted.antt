-- How many pages files have after a step: as many live pages are held as before.
use Rattle.std.proofs.Common.{◌≡◌, ℕ, ◌+◌, ◌*◌, ◌≤◌, List, length, ap, subst, ◌∙◌, arith}
use Rattle.std.proofs.Math.Nat.{mul-le-mul_left}
use Rattle.nl_field.specs.declared.shape.Shape.{Shape}
use Rattle.nl_flight.specs.Flight.{InFlight, carried}
use Rattle.nl_iface.specs.Device.{IsVolumeShape}
use Rattle.nl_iface.specs.Names.{Names}
use Rattle.nl_iface.specs.declared.counts.Counts.{Ghosts}
use Rattle.nl_meta_running.proofs.Holds.{bounds-of}
use Rattle.nl_core.specs.Core.{IsCore, running_of}
use Rattle.nl_core.specs.Goes.{PreservesVolume}
use Rattle.nl_core.specs.Laws.{PagesStayAsMany}
use Rattle.nl_core.specs.declared.state.Core.{Core}
use Rattle.nl_meta.specs.Nodes.{graph_of}
use Rattle.nl_core_callbacks.specs.Handled.{SameButNames}
use Rattle.nl_meta.specs.PointerLists.{tagged_in}
use Rattle.nl_calls_steps.specs.Steps.{Steps}
use Rattle.nl_calls.specs.Answering.{pages_of_files}

module _ {D : Type 0} (g : Ghosts D) (u v : Core D) (before : IsCore g u) (after : IsCore g v) (step : Steps g u v) (fly : v.flight ≡ u.flight) where
  -- what awaits its free came from files
  pub counted_after : pages_of_files g v + length v.freeing.items ≡ pages_of_files g u + length u.freeing.items
  counted_after =
      let live = ap (λ (m : Names). m.space.live) step.reads.names in
      let was = before.space.counted in
      let now = after.space.counted in
      let same = ap (λ (f : List InFlight). length (carried f)) fly in
      omega (arith, live, was, now, same)

  -- files have no more pages than there are
  pub few_after : IsVolumeShape (g.shape u.device) → pages_of_files g v ≤ 262144
  few_after volume =
      let b = bounds-of (g.shape u.device) volume in
      let few = after.space.few in
      let same = ap (λ (h : Shape). h.cap) step.reads.medium.virtual.same_shape in
      let segments = b.segments in
      let within : (g.shape u.device).pages * (g.shape u.device).pblocks ≤ (g.shape u.device).pages * (g.shape u.device).blocks = mul-le-mul_left (g.shape u.device).pages (omega (arith, segments)) in
      let all = b.all_pages in
      let held = b.data_pages in
      omega (arith, few, same, within, all, held)

-- where a core goes on, files have as many
module _ {D : Type 0} (g : Ghosts D) (n : ℕ) (u v : Core D) (goes : PreservesVolume g n u v) (law : PagesStayAsMany) where
  pub goes_counted : pages_of_files g v ≡ pages_of_files g u
  goes_counted =
      ap (λ (h : Shape). length (tagged_in h (running_of g v))) goes.same_shape
      ∙ law (g.shape u.device) (running_of g u) (running_of g v) (subst (λ (h : Shape). SameButNames (graph_of (g.shape u.device) (running_of g u)) (graph_of h (running_of g v))) goes.same_shape goes.nodes)
