-- The pieces of bytes.
use Rattle.std.specs.Prelude.{◌≡◌, ◌≤◌, ℕ, ◌^◌, List, length}
use Rattle.std.specs.List.{AllByRecursion}
use Rattle.nl_field.specs.Numbers.{max_bytes}
use Rattle.nl_cmd_put.specs.Phases.{joined}

-- The bytes are those of the pieces, each no longer than a call may write, and there are not too many.
pub record AreCut (bytes : List ℕ) (pieces : List (List ℕ)) : Type 0 where
  pub all : joined pieces ≡ bytes
  pub each : AllByRecursion (λ piece. length piece ≤ max_bytes) pieces
  pub few : length pieces ≤ 2 ^ 25
