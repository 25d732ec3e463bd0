use Rattle.nl_test_device.specs.Rigs.{HasAddressed}
use Rattle.nl_test_device.proofs.device.differs_at.Given as goal

abbrev pub invariant-loop-row : goal.invariant-loop-row
invariant-loop-row l = HasAddressed l.device
