-- Lists in rising order of a number of their items.
use Rattle.std.specs.Prelude.{ℕ, ◌<◌, ◌≤◌, List, length, slice_index_or}

-- each item ranks above those before it; `d` is any item
abbrev pub Rises : {X : Type 0} → (X → ℕ) → X → List X → Type 0
Rises rank d xs = (i j : ℕ) → i < j → j < length xs → rank (slice_index_or xs i d) < rank (slice_index_or xs j d)

-- the place of a rank: what is before it ranks below it, and nothing from there on does
pub record IsInsertionPoint {X : Type 0} (rank : X → ℕ) (d : X) (xs : List X) (n at : ℕ) : Type 0 where
  pub bound : at ≤ length xs
  pub below : (i : ℕ) → i < at → rank (slice_index_or xs i d) < n
  pub above : (i : ℕ) → at ≤ i → i < length xs → n ≤ rank (slice_index_or xs i d)
