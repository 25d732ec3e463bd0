use Rattle.std.proofs.Common.{◌≡◌, ℕ, ◌+◌, ◌<◌}
use Rattle.nl_callbacks.specs.Pending.{entry_at, number_of}
use Rattle.nl_callbacks.proofs.pending.least_free.Given as goal

abbrev pub invariant-loop-at : goal.invariant-loop-at
invariant-loop-at l = (k : ℕ) → k < l.at → number_of (entry_at l.entries.items k) ≡ k + 1
