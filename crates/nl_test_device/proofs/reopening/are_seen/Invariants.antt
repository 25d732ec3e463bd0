use Rattle.std.proofs.Common.{ℕ, ◌<◌}
use Rattle.nl_test_device.specs.Reopened.{own_page, place_of, wanted_at}
use Rattle.nl_test_device.proofs.Reopened.{IsAt}
use Rattle.nl_test_device.proofs.reopening.are_seen.Given as goal

abbrev pub invariant-loop-at : goal.invariant-loop-at
invariant-loop-at l = (i : ℕ) → i < l.at → IsAt l.tables.seen i (own_page (wanted_at (place_of l.first l.fives i)))
