use Rattle.std.proofs.Common.{◌≡◌, ◌≤◌, ◌-◌, ◌==◌, false, take, length}
use Rattle.std.specs.List.{list_any}
use Rattle.nl_flight.specs.Flight.{of_worker}
use Rattle.nl_flight.specs.declared.page.FlightPage.{FlightPage}
use Rattle.nl_calls_bytes.proofs.lining.has_index.Given as goal

abbrev pub invariant-pages : goal.invariant-pages
invariant-pages l = record {
  within : l.place ≤ length (of_worker l.flight l.worker).pages;
  none : list_any (λ (page : FlightPage). page.index == l.index) (take l.place (of_worker l.flight l.worker).pages) ≡ false;
}

abbrev pub decreases-pages : goal.decreases-pages
decreases-pages l = length (of_worker l.flight l.worker).pages - l.place
