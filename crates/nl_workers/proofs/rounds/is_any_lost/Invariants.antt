use Rattle.std.proofs.Common.{◌≡◌, false}
use Rattle.std.specs.Prelude.{take}
use Rattle.nl_workers.specs.Crew.{any_lost}
use Rattle.nl_workers.proofs.rounds.is_any_lost.Given as goal

abbrev pub invariant-loop-station : goal.invariant-loop-station
invariant-loop-station l = any_lost (take l.station-index l.stations.items) ≡ false
