use Rattle.std.proofs.Common.{◌≤◌}
use Rattle.nl_test_script.proofs.soak.replies_of.Given as goal

abbrev pub invariant-loop-at : goal.invariant-loop-at
invariant-loop-at l = (l.done ≤ l.at) × (l.full ≤ l.at)
