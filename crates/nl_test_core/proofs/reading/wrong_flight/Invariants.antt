use Rattle.nl_test_core.specs.Rigs.{IsFormed}
use Rattle.nl_test_core.proofs.reading.wrong_flight.Given as goal

abbrev pub invariant-workers : goal.invariant-workers
invariant-workers l = IsFormed l.device

abbrev pub invariant-places : goal.invariant-places
invariant-places l = IsFormed l.device
