use Rattle.std.proofs.Common.{◌≡◌, ℕ, ◌<◌, ◌≤◌}
use Rattle.nl_pagemap_names.specs.Untried.{count_at}
use Rattle.nl_pagemap_names.proofs.untried.first_untried.Given as goal

abbrev pub invariant-loop-block : goal.invariant-loop-block
invariant-loop-block l = (i : ℕ) → l.from ≤ i → i < l.block → count_at l.counts.items i ≡ 0
