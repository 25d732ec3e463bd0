use Rattle.std.proofs.Common.{◌≡◌, ◌≤◌, vec_len}
use Rattle.std.specs.Prelude.{vec_capacity}
use Rattle.nl_workers.proofs.placing.blank_spots.Given as goal

abbrev pub invariant-loop : goal.invariant-loop
invariant-loop l = (vec_len l.spots ≡ l.counter) × (l.fn.count ≤ vec_capacity l.spots)
