use Rattle.std.proofs.Common.{inr, ⊎_elim, ℕ, [], refl, sym, subst, arith}
use Rattle.nl_tree.proofs.OnLiterals.{tree_on_literals}
use Rattle.nl_spec_image.specs.Crash.{OpensAsPrefix}
use Rattle.nl_test_volume_format.specs.Trees.{tree_with_a, run_from_two, opens_as}
use Rattle.nl_test_volume_format.proofs.trees.moments.Goals as goal

opens_at : (m : ℕ) → OpensAsPrefix opens_as (run_from_two []) m (2, tree_with_a)
unfolding tree_on_literals
opens_at m = record { prefix = 2; holds_synced = omega arith; not_beyond = omega arith; sound = refl }

pub returns-clause-within : goal.returns-clause-within
returns-clause-within c = record { each = λ m i l. let at = l.0 in inr (omega arith, omega arith, subst (OpensAsPrefix opens_as (run_from_two []) m) (sym l.1) (opens_at m)) }

pub returns-clause-too_late : goal.returns-clause-too_late
returns-clause-too_late c s = ⊎_elim (λ none. none) (λ o. let t = o.1 in absurd (omega arith)) (s.each 8 (2, tree_with_a) (refl, refl))

pub returns-clause-too_early : goal.returns-clause-too_early
returns-clause-too_early c s = ⊎_elim (λ none. none) (λ o. let t = o.0 in absurd (omega arith)) (s.each 6 (2, tree_with_a) (refl, refl))
