-- What a gate heard: of which worker, of which line, and at which place the worker was with it.
use Rattle.std.specs.Prelude.{◌≡◌, ℕ, ◌<◌, ◌≤◌, List, slice_get, Some}
use Rattle.nl_tree.specs.declared.call.Line.{Line}
use Rattle.nl_turns.specs.Seat.{SeatState}
use Rattle.nl_turns.specs.declared.entry.Entry.{Entry}
use Rattle.nl_workers.specs.Placed.{entries_of}
use Rattle.nl_workers.specs.Gates.{stagings_of}
use Rattle.nl_workers.specs.declared.crew.Crew.{Crew}
use Rattle.nl_workers.specs.declared.gate.GatePlace.{GatePlace}
use Rattle.nl_workers.specs.declared.gate.GatePlace.TheVariants.{Before, Staged, After}

-- before the line's first turn, and after its effect
abbrev pub HeardAround : (ℕ → ℕ → GatePlace → Type 0) → Line → Type 0
HeardAround heard line = heard line.worker line.line Before × heard line.worker line.line After

-- that a page or a unit was staged, of each of the lines for which one of the entries staged one
abbrev pub StagingsHeard : (ℕ → ℕ → GatePlace → Type 0) → List Line → List Entry → Type 0
StagingsHeard heard lines es =
    (i : ℕ) (line : Line) → slice_get lines i ≡ Some line → 0 < stagings_of line.line es → heard line.worker line.line Staged

-- before and after each of the lines
abbrev pub EachHeardAround : (ℕ → ℕ → GatePlace → Type 0) → List Line → Type 0
EachHeardAround heard lines = (i : ℕ) (line : Line) → slice_get lines i ≡ Some line → HeardAround heard line

-- before and after each of the lines, and of the stagings that the history has
pub record HeardOfLines (heard : ℕ → ℕ → GatePlace → Type 0) (lines : List Line) (history : List Entry) : Type 0 where
  pub around : EachHeardAround heard lines
  pub staged : StagingsHeard heard lines history

-- ---- on the way there

-- a seat ran one line: it staged for no other, and the gate heard of the line
pub record HeardOfLine (heard : ℕ → ℕ → GatePlace → Type 0) (line : Line) (seat after : SeatState) : Type 0 where
  pub around : HeardAround heard line
  pub staged : (m : ℕ) → stagings_of m (entries_of seat.number seat.seen) < stagings_of m (entries_of seat.number after.seen)
      → (m ≡ line.line) × heard line.worker line.line Staged

-- a worker did its lines from one position up to another
pub record HeardOfWorker (heard : ℕ → ℕ → GatePlace → Type 0) (lines : List Line) (worker from to : ℕ)
    (seat after : SeatState) : Type 0 where
  pub each : (i : ℕ) (line : Line) → from ≤ i → i < to → slice_get lines i ≡ Some line → line.worker ≡ worker → HeardAround heard line
  pub staged : StagingsHeard heard lines (entries_of seat.number seat.seen) → StagingsHeard heard lines (entries_of seat.number after.seen)

-- the workers below a count did theirs, with the first seat and the seats that it gave
pub record HeardOfCrew (heard : ℕ → ℕ → GatePlace → Type 0) (lines : List Line) (from to count : ℕ)
    (seat after : SeatState) : Type 0 where
  pub each : (i : ℕ) (line : Line) → from ≤ i → i < to → slice_get lines i ≡ Some line → line.worker < count → HeardAround heard line
  pub first : StagingsHeard heard lines (entries_of 0 seat.seen) → StagingsHeard heard lines (entries_of 0 after.seen)
  pub others : (n : ℕ) → seat.next ≤ n → n < after.next → StagingsHeard heard lines (entries_of n after.seen)

-- the lines below a position are done
pub record HeardSoFar (heard : ℕ → ℕ → GatePlace → Type 0) (lines : List Line) (count : ℕ) (crew : Crew) : Type 0 where
  pub each : (i : ℕ) (line : Line) → i < count → slice_get lines i ≡ Some line → HeardAround heard line
  pub first : StagingsHeard heard lines (entries_of 0 crew.seat.seen)
  pub others : (n : ℕ) → 3 ≤ n → n < crew.seat.next → StagingsHeard heard lines (entries_of n crew.seat.seen)
  pub cleaner : StagingsHeard heard lines (entries_of 1 crew.cleaner.seat.seen)
  pub handler : StagingsHeard heard lines (entries_of 2 crew.handler.seat.seen)
