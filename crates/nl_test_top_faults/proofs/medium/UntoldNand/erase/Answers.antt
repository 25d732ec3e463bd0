use Rattle.nl_test_top_faults.proofs.States.{crash_leaves}
use Rattle.nl_test_top_faults.proofs.medium.UntoldNand.erase.Goals as goal

pub returns-clause-crash : goal.returns-clause-crash
returns-clause-crash c = crash_leaves _ _ _ _ _ c.counted.result c.counted.ensures.never_falls c.counted.ensures.counted.ticks
