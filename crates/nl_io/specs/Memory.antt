-- What a source and a sink in memory are.
use Rattle.std.specs.Prelude.{ℕ, List}

-- the bytes left, how many reads were made, which of them fail, and how many failed
pub record SourceState : Type 0 where
  pub left : List ℕ
  pub calls : ℕ
  pub failing : List ℕ
  pub faults : ℕ

-- the bytes taken, the most that are, how many writes were made, which of them fail, and how many failed
pub record SinkState : Type 0 where
  pub taken : List ℕ
  pub room : ℕ
  pub calls : ℕ
  pub failing : List ℕ
  pub faults : ℕ
