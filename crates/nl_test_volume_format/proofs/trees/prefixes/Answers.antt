use Rattle.std.proofs.Common.{◌≡◌, ℕ, ◌≤◌, [], ◌∷◌, refl, arith}
use Rattle.nl_field.specs.Examples.{fresh_image}
use Rattle.nl_tree.specs.Order.{durable_prefix}
use Rattle.nl_tree.proofs.OnLiterals.{tree_on_literals}
use Rattle.nl_spec_image.proofs.FreshImage.{fresh_stands}
use Rattle.nl_spec_image.proofs.SoundProofs.{represents_one}
use Rattle.nl_test_volume_format.proofs.trees.prefixes.Goals as goal

pub returns-clause-none : goal.returns-clause-none
unfolding tree_on_literals
returns-clause-none c = record { prefix = 0; holds_synced = omega arith; not_beyond = omega arith; sound = fresh_stands }

pub returns-clause-later : goal.returns-clause-later
unfolding tree_on_literals
returns-clause-later c = record { prefix = 0; holds_synced = omega arith; not_beyond = omega arith; sound = fresh_stands }

one_safe : durable_prefix (record { upto = 1; moment = 5 } ∷ []) 0 5 ≡ 1
unfolding tree_on_literals
one_safe = refl

pub returns-clause-synced : goal.returns-clause-synced
returns-clause-synced c o = none o.prefix (durable_prefix (record { upto = 1; moment = 5 } ∷ []) 0 5) one_safe o.holds_synced (represents_one fresh_image o.prefix 0 _ _ o.sound.stands fresh_stands.stands).0
  where
    none : (p d : ℕ) → d ≡ 1 → d ≤ p → p ≡ 0 → ⊥
    none p d e h f = omega arith
