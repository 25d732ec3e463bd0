use Rattle.std.proofs.Common.{◌≡◌, ◌++◌, take, drop, map}
use Rattle.std.specs.Prelude.{vec_capacity}
use Rattle.nl_flight.specs.Flight.{renamed_page}
use Rattle.nl_flight.proofs.line.rename_pages.Given as goal

abbrev pub invariant-loop-at : goal.invariant-loop-at
invariant-loop-at l = (l.pages.items ≡ map (renamed_page l.stamp l.to) (take l.at l.initial.pages.items) ++ drop l.at l.initial.pages.items) × (vec_capacity l.pages ≡ vec_capacity l.initial.pages)
