use Rattle.std.proofs.Common.{◌≡◌, take}
use Rattle.nl_inode.specs.Free.{count_free}
use Rattle.nl_inode.proofs.free_set.FreeSet.free.Given as goal

abbrev pub invariant-loop-leaf : goal.invariant-loop-leaf
invariant-loop-leaf l = l.free ≡ count_free (take l.leaf-index l.leaves)
