use Rattle.std.proofs.Common.{◌<◌, ◌≤◌, ◌+◌, [], ◌∷◌, arith}
use Rattle.nl_tree.specs.Order.{IsSyncAt}
use Rattle.nl_test_script.specs.Examples.{the_sync}
use Rattle.nl_test_script.proofs.order_rows.syncs.Goals as goal

low : 5 ≤ 4 → ⊥
low h = omega arith

behind : 6 < 5 + 0 + 1 → ⊥
behind h = omega arith

pub returns-clause-below_opening : goal.returns-clause-below_opening
returns-clause-below_opening c h = let s : IsSyncAt 5 (the_sync ∷ []) 0 the_sync (record { upto = 4; moment = 4 }) = h.numbers 0 in low s.not_below_opening

pub returns-clause-beyond_place : goal.returns-clause-beyond_place
returns-clause-beyond_place c h = let s : IsSyncAt 5 (the_sync ∷ []) 0 the_sync (record { upto = 6; moment = 4 }) = h.numbers 0 in behind s.below_place
