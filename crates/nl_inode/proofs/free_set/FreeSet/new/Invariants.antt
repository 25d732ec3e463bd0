use Rattle.std.proofs.Common.{◌≡◌, ℕ, ◌<◌, length, true}
use Rattle.nl_inode.specs.Free.{is_free}
use Rattle.nl_inode.proofs.free_set.FreeSet.new.Given as goal

abbrev pub invariant-loop-k : goal.invariant-loop-k
invariant-loop-k l = record {
  count : length l.free ≡ l.count;
  free : (j : ℕ) → j < l.k → is_free l.free j ≡ true;
}
