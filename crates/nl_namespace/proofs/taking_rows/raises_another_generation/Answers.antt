use Rattle.std.proofs.Common.{◌≡◌, ℕ, sym, arith}
use Rattle.nl_namespace.proofs.Taking.{true-false}
use Rattle.nl_namespace.proofs.taking_rows.raises_another_generation.Goals as goal

differ : ◌≡◌ {A = ℕ} 8 7 → ⊥
differ e = omega (arith, e)

-- number 0 is in use
pub returns : goal.returns
returns c f = differ (f.others 0 (λ x. true-false (sym x.was_free)))
