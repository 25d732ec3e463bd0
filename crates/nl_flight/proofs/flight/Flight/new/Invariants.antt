use Rattle.std.proofs.Common.{◌≡◌, replicate}
use Rattle.nl_flight.specs.Flight.{begun}
use Rattle.nl_flight.proofs.flight.Flight.new.Given as goal

abbrev pub invariant-made : goal.invariant-made
invariant-made l = l.lines.items ≡ replicate l.counter (begun 0)
