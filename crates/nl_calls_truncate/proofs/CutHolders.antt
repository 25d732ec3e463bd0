-- How many pages files have after a cut.
use Rattle.std.proofs.Common.{◌≡◌, ℕ, ◌+◌, ◌<◌, ◌≤◌, List, length, ap, arith}
use Rattle.nl_field.specs.declared.shape.Shape.{Shape}
use Rattle.nl_flight.specs.Flight.{InFlight, begun, carried, with_line}
use Rattle.nl_iface.specs.Names.{Names}
use Rattle.nl_iface.specs.declared.counts.Counts.{Ghosts}
use Rattle.nl_journal_commit.specs.Holding.{running_holders}
use Rattle.nl_core.specs.Core.{IsCore}
use Rattle.nl_core.specs.declared.state.Core.{Core}
use Rattle.nl_core.proofs.Lines.{in_flight}
use Rattle.nl_calls_steps.specs.Lines.{worker_pages}
use Rattle.nl_calls_steps.specs.Steps.{Steps}
use Rattle.nl_calls_truncate.proofs.CutFlight.{carried_less}

-- what awaits its free more left the files, or came from the flight
module _ {D : Type 0} (g : Ghosts D) (u v : Core D) (worker : ℕ) (core : IsCore g u) (core_v : IsCore g v) (known : worker < 8) (step : Steps g u v) (ended : v.flight ≡ with_line u.flight worker (begun 0)) where
  pub cut_as_many : length (running_holders g v.device v.meta) + length v.freeing.items ≡ length (running_holders g u.device u.meta) + length (worker_pages u worker) + length u.freeing.items
  cut_as_many =
      let live = ap (λ (m : Names). m.space.live) step.reads.names in
      let was = core.space.counted in
      let is = core_v.space.counted in
      let flight = ap (λ (f : List InFlight). length (carried f)) ended in
      let less = carried_less u.flight worker (in_flight u.flight worker core.flight known) in
      omega (arith, live, was, is, flight, less)

  pub few_then : length (running_holders g v.device v.meta) ≤ (g.shape u.device).cap
  few_then = let few = core_v.space.few in let same = ap (λ (h : Shape). h.cap) step.reads.medium.virtual.same_shape in omega (arith, few, same)
