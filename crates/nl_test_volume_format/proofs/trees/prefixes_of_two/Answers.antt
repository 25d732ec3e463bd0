use Rattle.std.proofs.Common.{◌≡◌, ℕ, ◌-◌, ◌≤◌, [], take, length, refl, sym, ap, ◌∙◌, arith}
use Rattle.nl_tree.specs.Order.{durable_prefix}
use Rattle.nl_tree.specs.Replay.{replay}
use Rattle.nl_tree.specs.Tree.{Tree}
use Rattle.nl_tree.proofs.OnLiterals.{tree_on_literals}
use Rattle.nl_test_volume_format.specs.Trees.{tree_with_a, run_from_two, after_one, after_two}
use Rattle.nl_test_volume_format.proofs.trees.prefixes_of_two.Goals as goal

none_synced : durable_prefix [] 2 5 ≡ 2
unfolding tree_on_literals
none_synced = refl

opens_after : ℕ → Tree
opens_after prefix = replay (run_from_two []).shape tree_with_a (take (prefix - 2) (run_from_two []).calls)

pub returns-clause-first : goal.returns-clause-first
unfolding tree_on_literals
returns-clause-first c = record { prefix = 2; holds_synced = omega arith; not_beyond = omega arith; sound = refl }

pub returns-clause-second : goal.returns-clause-second
unfolding tree_on_literals
returns-clause-second c = record { prefix = 3; holds_synced = omega arith; not_beyond = omega arith; sound = refl }

pub returns-clause-third : goal.returns-clause-third
unfolding tree_on_literals
returns-clause-third c = record { prefix = 4; holds_synced = omega arith; not_beyond = omega arith; sound = refl }

pub returns-clause-early : goal.returns-clause-early
returns-clause-early c o = none o.prefix (durable_prefix [] 2 5) none_synced o.holds_synced (ap (λ (x : ℕ × Tree). x.0) o.sound)
  where
    none : (p d : ℕ) → d ≡ 2 → d ≤ p → 1 ≡ p → ⊥
    none p d e h f = omega arith

pub returns-clause-ahead : goal.returns-clause-ahead
returns-clause-ahead c o = none o.prefix o.not_beyond (ap (λ (x : ℕ × Tree). x.0) o.sound)
  where
    none : (p : ℕ) → p ≤ 4 → 5 ≡ p → ⊥
    none p h f = omega arith

after_third : opens_after 3 ≡ after_one
unfolding tree_on_literals opens_after
after_third = refl

pub returns-clause-other : goal.returns-clause-other
unfolding opens_after
returns-clause-other c o =
    let p : 3 ≡ o.prefix = ap (λ (x : ℕ × Tree). x.0) o.sound in
    let t : after_two ≡ opens_after o.prefix = ap (λ (x : ℕ × Tree). x.1) o.sound in
    let same : after_two ≡ after_one = t ∙ sym (ap opens_after p) ∙ after_third in
    not_three (ap (λ (t : Tree). length t) same)
  where
    not_three : ◌≡◌ {A = ℕ} 2 3 → ⊥
    not_three e = omega (arith, e)
