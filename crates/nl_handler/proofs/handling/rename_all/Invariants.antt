use Rattle.std.proofs.Common.{◌≡◌, ◌==◌, ◌++◌, map, take, drop}
use Rattle.std.specs.List.{list_any}
use Rattle.nl_flight.specs.Flight.{renamed_pointer}
use Rattle.nl_handler.proofs.handling.rename_all.Given as goal

abbrev pub invariant-loop-at : goal.invariant-loop-at
invariant-loop-at l = record {
  items : l.list.items ≡ map (renamed_pointer l.stamp l.to) (take l.at l.initial.list.items) ++ drop l.at l.initial.list.items;
  room : l.list.room ≡ l.initial.list.room;
  found : l.found ≡ list_any (λ p. p.stamp == l.stamp) (take l.at l.initial.list.items);
}
