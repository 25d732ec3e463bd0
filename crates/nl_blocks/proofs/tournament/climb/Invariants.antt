use Rattle.std.proofs.Common.{◌<◌, ◌*◌, ◌≡◌, length}
use Rattle.nl_blocks.specs.Tournament.{HasSameLeaves, HasWinnersBut}
use Rattle.nl_blocks.proofs.tournament.climb.Given as goal

abbrev pub invariant-loop-node : goal.invariant-loop-node
invariant-loop-node l = record {
  winners : HasWinnersBut l.node l.count l.tree.items;
  size : length l.tree.items ≡ 2 * l.count;
  inner : l.node < l.count;
  leaves : HasSameLeaves l.count l.fn.tree.items l.tree.items;
}

abbrev pub decreases-loop-node : goal.decreases-loop-node
decreases-loop-node l = l.node
