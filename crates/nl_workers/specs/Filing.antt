-- How a desk keeps its rows.
use Rattle.std.specs.Prelude.{◌≡◌, ℕ, ◌+◌, ◌<◌, ◌≤◌, ◌^◌, List, map, take, drop, length, slice_get, Some}
use Rattle.nl_workers.specs.Table.{Row}
use Rattle.nl_workers.specs.declared.desk.Filed.{Filed}

abbrev pub row_of : List ℕ → Filed → Row
row_of bytes f = record { line = f.answer.line; answered = f.answer.answered; bytes = take f.len (drop f.from bytes) }

abbrev pub rows_of : List ℕ → List Filed → List Row
rows_of bytes filed = map (row_of bytes) filed

-- Each row has its bytes, and there is memory for what it has room for.
pub record IsFiled (filed : List Filed) (filed_room : ℕ) (bytes : List ℕ) (bytes_room lines_left bytes_left : ℕ) : Type 0 where
  pub each : (j : ℕ) (f : Filed) → slice_get filed j ≡ Some f → f.from + f.len ≤ length bytes
  pub lines_fit : length filed + lines_left ≤ filed_room
  pub bytes_fit : length bytes + bytes_left ≤ bytes_room
  pub small : length filed + lines_left < 2 ^ 32
