-- Of which steps a gate was told.
use Rattle.std.specs.Prelude.{◌≡◌, ◌≢◌, ◌==◌, ℕ, ◌≤◌, nat_lt, ◌&&◌, Bool, if◌then◌else◌, count_by, List, Option, Some, None}
use Rattle.nl_tree.specs.declared.call.Line.{Line}
use Rattle.nl_tree.specs.declared.turn.DutyAnswer.{DutyAnswer}
use Rattle.nl_tree.specs.declared.turn.DutyAnswer.TheVariants.{Did}
use Rattle.nl_turns.specs.Seat.{SeatState}
use Rattle.nl_turns.specs.declared.entry.Entry.{Entry}
use Rattle.nl_workers.specs.Placed.{entries_of}
use Rattle.nl_workers.specs.declared.gate.GatePlace.{GatePlace}
use Rattle.nl_workers.specs.declared.gate.GatePlace.TheVariants.{Before, Staged, After}
use Rattle.nl_workers.specs.declared.gate.Told.{Told}
use Rattle.nl_workers.specs.declared.turn.LineTold.{LineTold}

-- how many of these staged a page or a unit for the line of this number
abbrev pub stagings_of : ℕ → List Entry → ℕ
stagings_of line es = count_by (λ (e : Entry). e.staged == line && e.more) es

abbrev pub told_of : Line → GatePlace → Told
told_of line place = record { worker = line.worker; line = line.line; place = place }

-- what a gate was told of a task of the cleaner or of the handler that did something
abbrev pub told_of_task : ℕ → DutyAnswer → Option Told
told_of_task worker Did = Some (record { worker = worker; line = 0; place = After })
told_of_task worker _ = None

-- since the first seat's history pages or units were staged for the line
abbrev pub has_staged : ℕ → SeatState → SeatState → Bool
has_staged line seat after =
    nat_lt (stagings_of line (entries_of seat.number seat.seen)) (stagings_of line (entries_of seat.number after.seen))

-- The gate was told of the line before its turns, of its stagings exactly where a page or a unit was staged, and of its effect.
pub record GateWasTold (line : Line) (seat after : SeatState) (told : LineTold) : Type 0 where
  pub before : told.before ≡ told_of line Before
  pub staged : told.staged ≡ (if has_staged line.line seat after then Some (told_of line Staged) else None)
  pub after_effect : told.after ≡ told_of line After

-- while a line stages, its seat stages for no other
pub record StagesSome (line : ℕ) (seat after : SeatState) (some : Bool) : Type 0 where
  pub none_gone : stagings_of line (entries_of seat.number seat.seen) ≤ stagings_of line (entries_of seat.number after.seen)
  pub some_is : some ≡ has_staged line seat after
  pub others : (m : ℕ) → m ≢ line → stagings_of m (entries_of seat.number after.seen) ≡ stagings_of m (entries_of seat.number seat.seen)
