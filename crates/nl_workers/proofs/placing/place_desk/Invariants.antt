use Rattle.std.proofs.Common.{◌≡◌, vec_len}
use Rattle.nl_workers.specs.Spots.{AreSpotted}
use Rattle.nl_workers.proofs.placing.place_desk.Given as goal

abbrev pub invariant-loop-at : goal.invariant-loop-at
invariant-loop-at l = (vec_len l.spots ≡ vec_len l.initial.spots) × AreSpotted l.stations.items l.worker l.at l.spots.items
