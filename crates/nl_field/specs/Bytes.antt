-- Lists of zero bytes, and the test that all bytes are zero.
use Rattle.std.specs.Prelude.{ℕ, ◌==◌, Bool, List, replicate}
use Rattle.std.specs.List.{list_all}

-- so many zeros
unfoldable pub zeros : ℕ → List ℕ
zeros n = replicate n 0

abbrev pub all_zero : List ℕ → Bool
all_zero bytes = list_all (λ b. b == 0) bytes
