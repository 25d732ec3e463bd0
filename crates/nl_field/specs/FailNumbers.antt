-- The numbers of the calls that fail.
use Rattle.std.specs.Prelude.{ℕ, ◌<◌, List, All, AllPairs}

-- above 0, and each above those before it
pub record AreFailNumbers (numbers : List ℕ) : Type 0 where
  pub first : All (λ n. 0 < n) numbers
  pub rising : AllPairs (λ m n. m < n) numbers
