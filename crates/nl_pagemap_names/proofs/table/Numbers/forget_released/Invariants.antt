use Rattle.std.proofs.Common.{◌≡◌, ℕ, ◌<◌, ◌≤◌, length}
use Rattle.nl_pagemap_names.specs.Table.{entry_in, live_in}
use Rattle.nl_pagemap_names.proofs.table.Numbers.forget_released.Given as goal

abbrev pub invariant-loop-at : goal.invariant-loop-at
invariant-loop-at l = record {
  first : l.self-inside.first ≡ l.fn.self.first;
  last : l.self-inside.last ≡ l.fn.self.last;
  used : l.self-inside.used.items ≡ l.fn.self.used;
  count : length l.self-inside.entries.items ≡ length l.fn.self.entries;
  done : (n : ℕ) → n < l.at → entry_in l.self-inside.entries.items n ≡ live_in l.fn.self.entries l.fn.self.used n;
  later : (n : ℕ) → l.at ≤ n → entry_in l.self-inside.entries.items n ≡ entry_in l.fn.self.entries n;
}
