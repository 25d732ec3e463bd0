use Rattle.std.proofs.Common.{◌≡◌, inl, inr, ⊎_elim, ℕ, zero, suc, ◌<◌, ◌≤◌, [], ◌∷◌, refl, subst, arith}
use Rattle.std.specs.Prelude.{slice_index_or}
use Rattle.nl_tree.specs.Order.{SyncPoint}
use Rattle.nl_turns.specs.Examples.{from_five}
use Rattle.nl_volume_stage.specs.Examples.{at_opening, second_commit}
use Rattle.nl_volume_stage.specs.Standing.{IsSinceOpening}
use Rattle.nl_volume_stage.proofs.rows.moments_of_syncs.Goals as goal

-- what is said of each sync
abbrev Within : ℕ → SyncPoint → Type 0
Within last s = IsSinceOpening from_five s.moment s.upto × (30 ≤ s.moment) × (s.moment ≤ last)

no_pair : (i j : ℕ) → i < j → j < 1 → ⊥
no_pair i j low high = omega (arith, low, high)

-- the two syncs in the order of their moments
two : (i j : ℕ) (d : SyncPoint) → i < j → j < 2 → (slice_index_or (at_opening 5 ∷ second_commit ∷ []) i d).moment ≤ (slice_index_or (at_opening 5 ∷ second_commit ∷ []) j d).moment
two zero zero d low high = absurd (let no : ⊥ = omega (arith, low) in no)
two zero (suc zero) d low high = let is : 30 ≤ 33 = omega arith in is
two zero (suc (suc j)) d low high = absurd (let no : ⊥ = omega (arith, high) in no)
two (suc i) j d low high = absurd (let no : ⊥ = omega (arith, low, high) in no)

-- a moment is not behind itself, and 6 calls are not those of the opening
not_since : IsSinceOpening from_five 30 6 → ⊥
not_since (inl later) = let below : 30 < 30 = later (omega arith) in omega (arith, below)
not_since (inr same) = let is : 6 ≡ 5 = same in omega (arith, is)

pub returns-clause-opening : goal.returns-clause-opening
returns-clause-opening c = record {
  begins = omega arith;
  ends = omega arith;
  since = inr refl;
  not_below = omega arith;
  rising = λ i j d low high. absurd (no_pair i j low high);
  within = λ s has. ⊎_elim (λ is. subst (Within 30) is (inr refl, omega arith, omega arith)) (λ no. absurd no) has;
}

pub returns-clause-later : goal.returns-clause-later
returns-clause-later c = record {
  begins = omega arith;
  ends = omega arith;
  since = inl (λ below. omega arith);
  not_below = omega arith;
  rising = two;
  within = λ s has. ⊎_elim (λ is. subst (Within 33) is (inr refl, omega arith, omega arith)) (⊎_elim (λ is. subst (Within 33) is (inl (λ below. omega arith), omega arith, omega arith)) (λ no. absurd no)) has;
}

pub returns-clause-too_much : goal.returns-clause-too_much
returns-clause-too_much c is = not_since (is.within (at_opening 6) (inl refl)).0

pub returns-clause-falls : goal.returns-clause-falls
returns-clause-falls c is = let low : 33 ≤ 30 = is.rising 0 1 (at_opening 5) (omega arith) (omega arith) in omega (arith, low)

pub returns-clause-begins : goal.returns-clause-begins
returns-clause-begins c is = not_since is.since
