use Rattle.std.proofs.Common.{◌≡◌, length}
use Rattle.nl_test_metadata.proofs.meta.differs.Given as goal

abbrev pub invariant-loop-row : goal.invariant-loop-row
invariant-loop-row l = length l.meta.running ≡ 103
