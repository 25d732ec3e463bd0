use Rattle.std.proofs.Common.{◌≡◌, ◌++◌, take, drop, map}
use Rattle.nl_flight.specs.Flight.{renamed_line}
use Rattle.nl_flight.proofs.flight.rename_lines.Given as goal

abbrev pub invariant-loop-worker : goal.invariant-loop-worker
invariant-loop-worker l = l.lines.items ≡ map (renamed_line l.stamp l.to) (take l.worker l.initial.lines.items) ++ drop l.worker l.initial.lines.items
