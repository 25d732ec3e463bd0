use Rattle.std.proofs.Common.{◌+◌, ◌-◌, ◌*◌, ◌^◌}
use Rattle.nl_callbacks.specs.Links.{no_link, rank}
use Rattle.nl_callbacks.proofs.ListsProofs.{Halving}
use Rattle.nl_callbacks.proofs.links.place.Given as goal

abbrev pub invariant-loop-low : goal.invariant-loop-low
invariant-loop-low l = Halving rank no_link l.links.items (l.key * 2 ^ 64 + l.number) l.low l.high

abbrev pub decreases-loop-low : goal.decreases-loop-low
decreases-loop-low l = l.high - l.low
