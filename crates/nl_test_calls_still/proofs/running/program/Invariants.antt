use Rattle.nl_core.specs.Core.{IsCore}
use Rattle.nl_testkit_still.specs.contracts.counts.StillCounts.TheImpl.{ghosts}
use Rattle.nl_test_calls_still.proofs.running.program.Given as goal

abbrev pub invariant-loop-number : goal.invariant-loop-number
invariant-loop-number l = IsCore ghosts l.core
