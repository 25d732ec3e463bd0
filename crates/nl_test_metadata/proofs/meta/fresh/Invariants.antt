use Rattle.std.proofs.Common.{◌≡◌, length}
use Rattle.nl_test_metadata.proofs.meta.fresh.Given as goal

abbrev pub invariant-loop-vaddr : goal.invariant-loop-vaddr
invariant-loop-vaddr l = length l.meta.running ≡ 103
