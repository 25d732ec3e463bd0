-- Bytes of a file that are read piece by piece.
use Rattle.std.specs.Prelude.{◌≡◌, ℕ, List, ◌++◌}
use Rattle.nl_files.specs.Reading.{AreBytesFrom}

-- The list has further bytes behind those that it had: those of the file from an offset on.
pub record AddsBytes (page : ℕ → List ℕ) (at : ℕ) (old new : List ℕ) : Type 0 where
  pub more : List ℕ
  pub added : new ≡ old ++ more
  pub are : AreBytesFrom page at more
