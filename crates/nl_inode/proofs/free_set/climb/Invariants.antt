use Rattle.std.proofs.Common.{◌+◌, ◌*◌, ◌<◌, length}
use Rattle.nl_inode.specs.Tree.{MarksBelowBut, SameLeaves}
use Rattle.nl_inode.proofs.free_set.climb.Given as goal

abbrev pub invariant-loop-node : goal.invariant-loop-node
invariant-loop-node l = record {
  marks : MarksBelowBut l.node l.tree.items;
  inside : 2 * l.node + 1 < length l.tree.items;
  leaves : SameLeaves l.fn.tree.items l.tree.items;
}

abbrev pub decreases-loop-node : goal.decreases-loop-node
decreases-loop-node l = l.node
