use Rattle.std.proofs.Common.{◌≤◌, ◌-◌, length}
use Rattle.nl_flight.specs.Flight.{of_worker}
use Rattle.nl_volume_stage.proofs.next.flying.Given as goal

abbrev pub invariant-pages : goal.invariant-pages
invariant-pages l = record { most : l.count ≤ length (of_worker l.flight l.worker).pages }

abbrev pub decreases-pages : goal.decreases-pages
decreases-pages l = length (of_worker l.flight l.worker).pages - l.count
