-- What a stop leaves of the cells of a medium.
use Rattle.std.specs.Prelude.{◌≡◌, ◌⊎◌, ℕ, ◌-◌, ◌<◌, ◌≤◌, List, length, slice_index_or, Option, Some, None}
use Rattle.nl_field.specs.Page.{Page, erased}
use Rattle.nl_nand.specs.Stop.{outcome_of, page_after}
use Rattle.nl_nand.specs.Record.{pages_of, low_of_attempt, high_of_attempt, value_of_attempt}
use Rattle.nl_nand.specs.declared.interrupted.Interrupted.{Interrupted}
use Rattle.nl_nand.specs.declared.cell.Cell.{Cell}
use Rattle.nl_nand.specs.declared.stop.Cut.{Cut as How}

-- each page of the range has its outcome, and the others are as they were
pub record CellsAreCut (low high : ℕ) (value : Page) (how : How) (old new : List Cell) : Type 0 where
  pub size : length (pages_of new) ≡ length (pages_of old)
  pub inside : (p : ℕ) → low ≤ p → p < high
      → slice_index_or (pages_of new) p erased ≡ page_after (outcome_of how (p - low)) value (slice_index_or (pages_of old) p erased)
  pub outside : (p : ℕ) → (p < low) ⊎ (high ≤ p) → slice_index_or (pages_of new) p erased ≡ slice_index_or (pages_of old) p erased

-- the cells after a restart
abbrev pub AreCrashCells : Option Interrupted → List Cell → List Cell → Type 0
AreCrashCells None old new = new ≡ old
AreCrashCells (Some i) old new = CellsAreCut (low_of_attempt i.attempt) (high_of_attempt i.attempt) (value_of_attempt i.attempt) i.cut old new
