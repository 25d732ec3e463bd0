-- What a list of pointers is seen as.
use Rattle.std.specs.Prelude.{ℕ, List}
use Rattle.nl_field.specs.declared.pointer.Pointer.{Pointer}

-- the pointers, and how many more there is room for
pub record PointerItems : Type 0 where
  pub items : List Pointer
  pub room : ℕ
