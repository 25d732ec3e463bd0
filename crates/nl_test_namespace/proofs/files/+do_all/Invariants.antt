use Rattle.std.proofs.Common.{length}
use Rattle.nl_test_namespace.proofs.files.+do_all.Given as goal

abbrev pub decreases-do_all : goal.decreases-do_all
decreases-do_all g l = length l.steps.now
