-- What the workers of one epoch do together.
use Rattle.std.specs.Prelude.{◌≡◌, ◌==◌, ℕ, zero, suc, ◌+◌, ◌<◌, ◌≤◌, ◌&&◌, nat_lt, ◌||◌, Bool, List, [], ◌∷◌, length, slice_get, Some, Contains, false, count_by}
use mathlib.Core.List.{IsPrefix}
use Rattle.nl_tree.specs.declared.call.Line.{Line}
use Rattle.nl_turns.specs.Seat.{Passed, SeatState, by_seat, NoNumberBeyond}
use Rattle.nl_turns.specs.declared.entry.Entry.{Entry}
use Rattle.nl_workers.specs.Placed.{EachPlaced, KnowsLosses, entries_of, effects_of, losses_by}
use Rattle.nl_workers.specs.Worked.{AreLinesOf, IsEpoch, AreDone, IsStation, lines_between}
use Rattle.nl_workers.specs.declared.station.Station.{Station}

-- the entries of a kind that so many seats passed, from one number on
abbrev pub counted_from : (Entry → Bool) → ℕ → ℕ → List Passed → ℕ
counted_from is_one first zero history = 0
counted_from is_one first (suc count) history = count_by is_one (entries_of first history) + counted_from is_one (first + 1) count history

-- the effects of a line among them, and those that lost a page
abbrev pub effects_from : ℕ → ℕ → ℕ → List Passed → ℕ
effects_from line first count history = counted_from (λ (e : Entry). e.line == line) first count history

abbrev pub losses_from : ℕ → ℕ → List Passed → ℕ
losses_from first count history = counted_from (λ (e : Entry). e.lost) first count history

-- one of the stations has lost a page
abbrev pub any_lost : List Station → Bool
any_lost [] = false
any_lost (s ∷ ss) = s.lost || any_lost ss

-- how many of these lines have the number and a worker below this one
abbrev pub lines_below : ℕ → ℕ → List Line → ℕ
lines_below number worker lines = count_by (λ (l : Line). nat_lt l.worker worker && l.line == number) lines

-- what the workers begin with, with the first seat, which does the work of one of them
pub record MayStart (tells : Type 0) (lines : List Line) (from to : ℕ) (seat : SeatState) (stations : List Station) : Type 0 where
  pub at_rest : seat.has_turn ≡ false
  pub first : seat.number ≡ 0
  pub few : length stations ≤ 8
  pub places : length stations ≤ seat.places + 1
  pub lines_are : AreLinesOf seat.opening lines
  pub rises : from ≤ to
  pub epoch : IsEpoch lines from to
  pub before : AreDone lines from seat.seen
  pub placed : EachPlaced lines 0 seat.seen
  pub stations_are : (w : ℕ) (s : Station) → slice_get stations w ≡ Some s → IsStation tells seat.opening lines w from seat.seen s

-- The workers did their lines. Some had seats of their own, with the next numbers, which the first seat took back.
pub record CrewHasRun (tells : Type 0) (lines : List Line) (from to : ℕ) (seat : SeatState) (stations : List Station) (after : SeatState)
    (worked : List Station) : Type 0 where
  pub count : ℕ
  pub same : after ≡ record seat { seen = after.seen; next = seat.next + count; joined = after.joined }
  pub grows : IsPrefix seat.seen after.seen
  pub numbers : NoNumberBeyond seat.next seat.seen → NoNumberBeyond after.next after.seen
  pub joined : (n : ℕ) → Contains seat.joined n → Contains after.joined n × (by_seat n after.seen ≡ by_seat n seat.seen)
  pub each : (i : ℕ) → i < count → Contains after.joined (seat.next + i) × EachPlaced lines (seat.next + i) after.seen
  pub placed : EachPlaced lines 0 after.seen
  pub done : (m : ℕ) → 0 < m → effects_of m (entries_of 0 after.seen) + effects_from m seat.next count after.seen
      ≡ effects_of m (entries_of 0 seat.seen) + lines_below m (length stations) (lines_between from to lines)
  pub knows : KnowsLosses (any_lost stations) (any_lost worked) (losses_by 0 seat.seen)
      (losses_by 0 after.seen + losses_from seat.next count after.seen)
  pub size : length worked ≡ length stations
  pub stations_are : (w : ℕ) (s : Station) → slice_get worked w ≡ Some s → IsStation tells seat.opening lines w to after.seen s
