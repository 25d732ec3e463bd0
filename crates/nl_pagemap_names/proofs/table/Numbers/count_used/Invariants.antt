use Rattle.std.proofs.Common.{◌≡◌, ℕ, ◌+◌, ◌-◌, ◌<◌, ◌≤◌, length, count_by}
use Rattle.std.specs.List.{range_with_len}
use Rattle.nl_pagemap_names.specs.Table.{live_at}
use Rattle.nl_pagemap_names.specs.Untried.{count_at, is_in}
use Rattle.nl_pagemap_names.proofs.table.Numbers.count_used.Given as goal

abbrev pub invariant-loop-number : goal.invariant-loop-number
invariant-loop-number l = record {
  near : l.number - l.from ≤ l.to - l.from;
  same : length l.counts.items ≡ length l.fn.counts.items;
  counts : (i : ℕ) → i < length l.fn.counts.items → count_at l.counts.items i ≡ count_by (λ n. is_in l.pages (l.first + i) (live_at l.self n)) (range_with_len l.from (l.number - l.from));
}
