-- Counts of faults that did not rise, and a count that stays zero.
use Rattle.std.proofs.Common.{◌≡◌, ◌<◌, ℕ, zero, suc, inl, inr, Bool, true, false, IsTrue, refl, arith}
use Rattle.nl_field.specs.CrashStates.{Rose}
use Rattle.nl_tree.specs.Causes.{Counts, FaultRose}

pub not_true : IsTrue false → ⊥
not_true is = cc is

pub still_zero : (n : ℕ) → ((n ≡ 0 → ⊥) → ⊥) → n ≡ 0
still_zero zero never = refl
still_zero (suc n) never = absurd (never (λ is. more is))
  where
    more : suc n ≡ 0 → ⊥
    more is = omega (arith, is)

pub neither_rose : (before now : Counts) → (Rose before.read_faults now.read_faults → ⊥) → (Rose before.write_faults now.write_faults → ⊥) → FaultRose before now → ⊥
neither_rose before now reads writes (inl rose) = reads rose
neither_rose before now reads writes (inr rose) = writes rose
