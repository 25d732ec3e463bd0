use Rattle.std.proofs.Common.{◌≡◌, ◌<◌, ◌≤◌, ◌-◌, ℕ, Some, slice_get, length}
use Rattle.nl_flight.specs.Flight.{of_worker}
use Rattle.nl_flight.specs.declared.page.FlightPage.{FlightPage}
use Rattle.nl_calls_bytes.proofs.lining.all_of_file.Given as goal
use Rattle.nl_calls_bytes.specs.Staged.{IsOfFile}

abbrev pub invariant-pages : goal.invariant-pages
invariant-pages l = record {
  within : l.place ≤ length (of_worker l.flight l.worker).pages;
  below : (k : ℕ) (page : FlightPage) → k < l.place → slice_get (of_worker l.flight l.worker).pages k ≡ Some page → IsOfFile l.ino l.generation page;
}

abbrev pub decreases-pages : goal.decreases-pages
decreases-pages l = length (of_worker l.flight l.worker).pages - l.place
