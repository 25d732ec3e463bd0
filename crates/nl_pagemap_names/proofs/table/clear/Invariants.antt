use Rattle.std.proofs.Common.{◌≡◌, ℕ, ◌<◌, length}
use Rattle.nl_pagemap_names.specs.Untried.{count_at}
use Rattle.nl_pagemap_names.proofs.table.clear.Given as goal

abbrev pub invariant-loop-at : goal.invariant-loop-at
invariant-loop-at l = record {
  same : length l.counts.items ≡ length l.fn.counts.items;
  clear : (i : ℕ) → i < l.at → count_at l.counts.items i ≡ 0;
}
