-- The rows of a table of answers, and for which lines it has room.
use Rattle.std.specs.Prelude.{◌≡◌, ◌==◌, ℕ, List, [], length, slice_get, IfSome, Bool, false, nat_le, if◌then◌else◌, sum_by, count_by}
use Rattle.nl_tree.specs.Calls.{read_length}
use Rattle.nl_tree.specs.declared.call.Line.{Line}
use Rattle.nl_tree.specs.declared.turn.Answered.{Answered}

-- an answered line: its number, its answer, and the bytes of the reply
pub record Row : Type 0 where
  pub line : ℕ
  pub answered : Answered
  pub bytes : List ℕ

-- the rows of one worker, and how many lines and bytes it has room for
pub record DeskState : Type 0 where
  pub rows : List Row
  pub lines_left : ℕ
  pub bytes_left : ℕ

-- the lines of a worker, and what their replies may hold
abbrev pub lines_to_come : ℕ → List Line → ℕ
lines_to_come worker lines = count_by (λ (l : Line). l.worker == worker) lines

abbrev pub read_bytes_of_line : ℕ → Line → ℕ
read_bytes_of_line worker line = if line.worker == worker then read_length line.call else 0

abbrev pub bytes_to_come : ℕ → List Line → ℕ
bytes_to_come worker lines = sum_by (read_bytes_of_line worker) lines

-- A desk has room for just these lines of the worker.
pub record DeskHasRoom (worker : ℕ) (lines : List Line) (desk : DeskState) : Type 0 where
  pub lines_left : desk.lines_left ≡ lines_to_come worker lines
  pub bytes_left : desk.bytes_left ≡ bytes_to_come worker lines

-- bytes that are more than were asked for are not kept
abbrev pub kept_bytes : ℕ → List ℕ → List ℕ
kept_bytes room bytes = if nat_le (length bytes) room then bytes else []

-- The answered lines in the order of their places, whether a page was lost, the desks of the eight workers, which of them
-- lost a page, and for how many lines there are places.
pub record TableState : Type 0 where
  pub rows : List Row
  pub lost : Bool
  pub desks : List DeskState
  pub lost_by : List Bool
  pub places : ℕ

-- the table is new, and made for these lines
pub record IsTableFor (lines : List Line) (table : TableState) : Type 0 where
  pub no_rows : table.rows ≡ []
  pub not_lost : table.lost ≡ false
  pub workers : length table.desks ≡ 8
  pub places : table.places ≡ length lines
  pub desks : (worker : ℕ) → IfSome (slice_get table.desks worker) (λ d. DeskHasRoom worker lines d)
  pub none_lost : (worker : ℕ) → IfSome (slice_get table.lost_by worker) (λ lost. lost ≡ false)
  pub blank : (worker : ℕ) → IfSome (slice_get table.desks worker) (λ d. d.rows ≡ [])
