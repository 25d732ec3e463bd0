use Rattle.nl_core.specs.Core.{IsCore}
use Rattle.nl_testkit_still.specs.contracts.counts.StillCounts.TheImpl.{ghosts}
use Rattle.nl_test_calls_still.proofs.filling.lines.Given as goal

abbrev pub invariant-loop-turn : goal.invariant-loop-turn
invariant-loop-turn l = IsCore ghosts l.core
