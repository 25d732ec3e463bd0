use Rattle.std.proofs.Common.{ℕ, zero, suc, refl, arith}
use Rattle.std.specs.Prelude.{◌<◌, ◌≤◌, IsTrue, slice_get, IfSome, ◌+◌}
use Rattle.nl_tree.specs.Order.{has_to_precede}
use Rattle.nl_test_script.specs.Examples.{sync_lines, the_sync}
use Rattle.nl_test_script.proofs.rows.numbers_of_syncs.Goals as goal

no_later : (j : ℕ) → suc j < 1 → ⊥
no_later j b = omega arith

first : 5 + 0 + 1 ≤ 6
first = omega arith

earlier : (j : ℕ) → j < 1 → IfSome (slice_get sync_lines j) (λ earlier. IsTrue (has_to_precede earlier the_sync) → 5 + j + 1 ≤ 6)
earlier zero b = λ h. first
earlier (suc j) b = absurd (no_later j b)

low : 5 ≤ 6
low = omega arith

below : 6 < 5 + 1 + 1
below = omega arith

some : 0 < 1
some = omega arith

too_low : 5 + 0 + 1 ≤ 5 → ⊥
too_low h = omega arith

too_high : 7 < 5 + 1 + 1 → ⊥
too_high h = omega arith

pub returns-clause-safe : goal.returns-clause-safe
returns-clause-safe c = record { not_below_opening = low; below_place = below; earlier_lines = earlier }

pub returns-clause-too_few : goal.returns-clause-too_few
returns-clause-too_few c h = too_low (h.earlier_lines 0 some refl)

pub returns-clause-too_many : goal.returns-clause-too_many
returns-clause-too_many c h = too_high h.below_place
