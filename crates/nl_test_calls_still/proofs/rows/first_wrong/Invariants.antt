use Rattle.nl_testkit_still.specs.contracts.counts.StillCounts.TheImpl.{ghosts}
use Rattle.nl_pagemap_volume.specs.Serving.{CoreServes}
use Rattle.nl_test_calls_still.proofs.rows.first_wrong.Given as goal

abbrev pub invariant-loop-row : goal.invariant-loop-row
invariant-loop-row l = CoreServes ghosts l.files l.core
