use Rattle.std.proofs.Common.{◌≡◌, ℕ, true, false, arith}
use Rattle.std.specs.Prelude.{◌<◌, ◌≤◌}
use Rattle.nl_test_script.proofs.rows.no_causes.Goals as goal

not_so : false ≡ true → ⊥
not_so e = cc

not_both : (a n : ℕ) → a < n → n ≤ a → ⊥
not_both a n l h = omega arith

pub returns-clause-worn : goal.returns-clause-worn
returns-clause-worn c before now next h = not_so h.0

pub returns-clause-read_only : goal.returns-clause-read_only
returns-clause-read_only c before now next n h = not_so h.0

pub returns-clause-later_sum : goal.returns-clause-later_sum
returns-clause-later_sum c before now next n call l h = not_both _ n l h.2.1

pub returns-clause-damaged : goal.returns-clause-damaged
returns-clause-damaged c before now next call h = h.0 tt
