-- A round of workers, one generator after the other.
use Rattle.std.proofs.Common.{◌≡◌, ◌≢◌, ℕ, ◌+◌, ◌<◌, ◌≤◌, List, length, get_or, set, refl, arith, add-one, get_or-set_other, get_or-set_same}
use Rattle.std.specs.Prelude.{◌⊎◌}
use Rattle.std.proofs.Common.{inl, inr}
use Rattle.std.proofs.lemmas.Bool.{cases_lt}
use Rattle.rand_pcg.specs.Lcg.{Lcg}
use Rattle.nl_gen.specs.Soak.{after_line, generator}

-- the generator behind one more line
pub one_more_line : (seed k n : ℕ) → generator seed k (n + 1) ≡ after_line (generator seed k n)
unfolding generator
one_more_line seed k n = rw add-one refl

module _ (all begun : List Lcg) (k : ℕ) (g : Lcg) (within : k < length all) where
  pub went_on : ((j : ℕ) (d : Lcg) → j < k → get_or all j d ≡ after_line (get_or begun j d)) → ((d : Lcg) → g ≡ after_line (get_or begun k d))
      → (j : ℕ) (d : Lcg) → j < k + 1 → get_or (set all k g) j d ≡ after_line (get_or begun j d)
  went_on before here j d lt = by_case (cases_lt j k)
    where
      by_case : (j < k) ⊎ (k ≤ j) → get_or (set all k g) j d ≡ after_line (get_or begun j d)
      by_case (inl below) = let other : j ≢ k = omega arith in rw get_or-set_other (before j d below)
      by_case (inr above) = let same : j ≡ k = omega arith in rw same (rw get_or-set_same (here d))

  pub stay : ((j : ℕ) (d : Lcg) → k ≤ j → get_or all j d ≡ get_or begun j d) → (j : ℕ) (d : Lcg) → k + 1 ≤ j → get_or (set all k g) j d ≡ get_or begun j d
  stay rest j d le = let other : j ≢ k = omega arith in rw get_or-set_other (rest j d (omega arith))
