use Rattle.std.proofs.Common.{◌≡◌, ◌≤◌, ℕ, Some, vec_len}
use Rattle.std.specs.Prelude.{vec_capacity, slice_get}
use Rattle.nl_workers.specs.Fresh.{IsFreshStation}
use Rattle.nl_workers.specs.declared.station.Station.{Station}
use Rattle.nl_workers.proofs.answers.stations_for.Given as goal

abbrev pub invariant-loop-worker : goal.invariant-loop-worker
invariant-loop-worker l = (vec_len l.stations ≡ l.worker) × (8 ≤ vec_capacity l.stations) × (l.worker ≤ 8) × ((w : ℕ) (s : Station) → slice_get l.stations.items w ≡ Some s → IsFreshStation l.lines w s)
