use Rattle.std.proofs.Common.{◌-◌}
use Rattle.nl_test_namespace.proofs.writer.+save.Given as goal

abbrev pub decreases-save : goal.decreases-save
decreases-save g l = 4000 - l.vaddr
