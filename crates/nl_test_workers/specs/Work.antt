-- What a worker adds to the history.
use Rattle.std.specs.Prelude.{◌≡◌, ℕ, ◌+◌, ◌-◌, ◌<◌, ◌≤◌, List, ◌++◌, map, replicate, false, slice_get, IfSome, Contains}
use mathlib.Core.List.{IsPrefix}
use Rattle.nl_tree.specs.declared.call.Line.{Line}
use Rattle.nl_turns.specs.History.{Opening}
use Rattle.nl_turns.specs.Seat.{Passed, SeatState, entries, by_seat, NoNumberBeyond}
use Rattle.nl_turns.specs.Served.{IsLineOf}
use Rattle.nl_turns.specs.declared.entry.Entry.{Entry}

-- the entries of one seat
abbrev pub entries_of : ℕ → List Passed → List Entry
entries_of number history = entries (by_seat number history)

-- the lines whose effects one seat passed
abbrev pub lines_of : ℕ → List Passed → List ℕ
lines_of number history = map (λ e. e.line) (entries_of number history)

abbrev pub LineIsOfSeat : Opening → Line → Type 0
LineIsOfSeat opening line = IsLineOf opening line.worker line.line line.call

-- the seat took so many turns for the line
pub record HasTakenTurns (seat : SeatState) (line times : ℕ) (after : SeatState) : Type 0 where
  pub same : after ≡ record seat { seen = after.seen }
  pub grows : IsPrefix seat.seen after.seen
  pub own : lines_of seat.number after.seen ≡ lines_of seat.number seat.seen ++ replicate times line

-- the first seat is at rest, and has so many places
pub record CanRunWorkers (seat : SeatState) (workers : ℕ) : Type 0 where
  pub at_rest : seat.has_turn ≡ false
  pub first : seat.number ≡ 0
  pub places : workers ≤ seat.places

-- Each worker had a seat of its own, with the next numbers. The first seat knows their entries, of those that it took back before,
-- and its own.
pub record SeatsHaveRun (seat : SeatState) (lines : List Line) (workers times : ℕ) (after : SeatState) : Type 0 where
  pub same : after ≡ record seat { seen = after.seen; next = seat.next + workers; joined = after.joined }
  pub grows : IsPrefix seat.seen after.seen
  pub own : by_seat 0 after.seen ≡ by_seat 0 seat.seen
  pub numbers : NoNumberBeyond seat.next seat.seen → NoNumberBeyond after.next after.seen
  pub joined : (n : ℕ) → Contains seat.joined n → Contains after.joined n × (by_seat n after.seen ≡ by_seat n seat.seen)
  pub each : (i : ℕ) → i < workers → Contains after.joined (seat.next + i)
      × IfSome (slice_get lines (workers - 1 - i)) (λ line. lines_of (seat.next + i) after.seen ≡ replicate times line.line)

abbrev pub EachHasLine : Opening → List Line → Type 0
EachHasLine opening lines = (i : ℕ) → IfSome (slice_get lines i) (LineIsOfSeat opening)
