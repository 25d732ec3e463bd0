use Rattle.nl_test_metadata.specs.Tested.{IsTested}
use Rattle.nl_test_metadata.proofs.indirect.differs.Given as goal

abbrev pub invariant-loop-row : goal.invariant-loop-row
invariant-loop-row l = IsTested 0 l.rec l.meta
