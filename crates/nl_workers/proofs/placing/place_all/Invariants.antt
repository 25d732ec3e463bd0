use Rattle.std.proofs.Common.{◌≡◌, ◌≤◌, vec_len}
use Rattle.nl_workers.specs.Spots.{AreSpotted}
use Rattle.nl_workers.proofs.placing.place_all.Given as goal

abbrev pub invariant-loop-worker : goal.invariant-loop-worker
invariant-loop-worker l = (l.worker ≤ vec_len l.stations) × (vec_len l.spots ≡ vec_len l.initial.spots) × AreSpotted l.stations.items l.worker 0 l.spots.items
