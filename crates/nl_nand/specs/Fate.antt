-- What becomes of an operation that is begun.
use Rattle.std.specs.Prelude.{◌≡◌, ℕ, List, Option, Some, None}
use Rattle.std.specs.List.{Contains}
use Rattle.nl_nand.specs.Plan.{cut_at}
use Rattle.nl_nand.specs.declared.stop.Stop.{Stop}
use Rattle.nl_nand.specs.declared.fate.Fate.{Fate}
use Rattle.nl_nand.specs.declared.fate.Fate.TheVariants as fate

abbrev pub IsFate : Option Stop → List ℕ → ℕ → Fate → Type 0
IsFate stop failing number fate.Finishes = (cut_at stop number ≡ None) × (Contains failing number → ⊥)
IsFate stop failing number fate.Fails = (cut_at stop number ≡ None) × Contains failing number
IsFate stop failing number (fate.Stops how) = cut_at stop number ≡ Some how
