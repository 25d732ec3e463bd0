use Rattle.nl_pagemap_names.specs.Untried.{FewestBelow, count_at}
use Rattle.nl_pagemap_names.proofs.untried.fewest.Given as goal

abbrev pub invariant-loop-block : goal.invariant-loop-block
invariant-loop-block l = FewestBelow l.pages l.counts.items (λ i. count_at l.used.items i) l.block l.best
