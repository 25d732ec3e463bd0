-- A list that is filled within room that was made before.
use Rattle.std.specs.Prelude.{ℕ, List}

-- the items, and how many more can be pushed without memory
pub record Table (A : Type 0) : Type 0 where
  pub items : List A
  pub room : ℕ
