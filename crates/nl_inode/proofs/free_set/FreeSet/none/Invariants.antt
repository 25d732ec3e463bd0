use Rattle.std.proofs.Common.{◌≡◌, ◌-◌, ◌^◌, ◌<◌, ◌≤◌}
use Rattle.nl_inode.proofs.free_set.FreeSet.none.Given as goal

abbrev pub invariant-loop-width : goal.invariant-loop-width
invariant-loop-width l = record {
  power : l.width ≡ 2 ^ l.height;
  some : 1 ≤ l.width;
  small : l.width ≤ 2 ^ 33;
  height : l.height < l.width;
}

abbrev pub decreases-loop-width : goal.decreases-loop-width
decreases-loop-width l = l.count - l.width
