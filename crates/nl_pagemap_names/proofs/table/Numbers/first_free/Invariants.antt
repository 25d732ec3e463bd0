use Rattle.std.proofs.Common.{◌≡◌, ℕ, ◌<◌, ◌≤◌, None}
use Rattle.nl_pagemap_names.specs.Table.{live_at}
use Rattle.nl_pagemap_names.proofs.table.Numbers.first_free.Given as goal

abbrev pub invariant-loop-number : goal.invariant-loop-number
invariant-loop-number l = (m : ℕ) → l.first ≤ m → m < l.number → live_at l.self m ≡ None → ⊥
