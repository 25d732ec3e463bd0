use Rattle.std.proofs.Common.{◌≡◌, ℕ, ◌+◌, ◌%◌, ◌^◌, refl, arith}
use Rattle.nl_namespace.proofs.taking_rows.keeps_the_generation.Goals as goal

differ : ◌≡◌ {A = ℕ} 7 ((7 + 1) % 2 ^ 32) → ⊥
differ e = omega (arith, e)

pub returns : goal.returns
returns c f = differ (f.next 1 (record { was_free = refl; is_used = refl }))
