-- What reading a page into a buffer finds.
use Rattle.std.specs.Prelude.{◌≡◌, ⊤, ℕ, List, Option, Some, None}
use Rattle.nl_recover.specs.declared.loading.Fill.{Fill}
use Rattle.nl_recover.specs.declared.loading.Fill.TheVariants as fill

-- the bytes of the address, or none
abbrev pub FillsFrom : Option (List ℕ) → List ℕ → Fill → Type 0
FillsFrom stored main fill.Ready = stored ≡ Some main
FillsFrom stored main fill.Absent = stored ≡ None
FillsFrom stored main fill.Fault = ⊤
