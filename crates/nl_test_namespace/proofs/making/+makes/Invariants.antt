use Rattle.std.proofs.Common.{◌-◌}
use Rattle.nl_test_namespace.proofs.making.+makes.Given as goal

abbrev pub decreases-makes : goal.decreases-makes
decreases-makes g l = 2000 - l.number
