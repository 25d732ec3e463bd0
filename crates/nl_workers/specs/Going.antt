-- The crew between two epochs, and at the end.
use Rattle.std.specs.Prelude.{◌≡◌, ◌==◌, ℕ, ◌+◌, ◌-◌, ◌<◌, ◌≤◌, List, take, length, slice_get, Some, Contains, false, count_by}
use mathlib.Core.List.{IsPrefix}
use Rattle.atomic_table.specs.Seated.{TableId}
use Rattle.nl_callbacks.specs.declared.notices.Notices.{Notices}
use Rattle.nl_callbacks.specs.Notices.{IsTaker}
use Rattle.nl_tree.specs.declared.call.Line.{Line}
use Rattle.nl_turns.specs.Seat.{SeatState, by_seat, entries, NoNumberBeyond}
use Rattle.nl_workers.specs.Placed.{EachPlaced, KnowsLosses, entries_of, effects_of, losses_by}
use Rattle.nl_workers.specs.Duties.{MayClean, MayHandle, IsOutbox}
use Rattle.nl_workers.specs.Worked.{AreLinesOf, IsStation}
use Rattle.nl_workers.specs.Crew.{any_lost, effects_from, losses_from}
use Rattle.nl_workers.specs.Rounds.{AllPlaced, IsFirstSeat}
use Rattle.nl_workers.specs.Fresh.{AreFresh}
use Rattle.nl_workers.specs.declared.crew.Crew.{Crew}
use Rattle.nl_workers.specs.declared.kit.Passes.{Passes}
use Rattle.nl_workers.specs.declared.station.Station.{Station}

-- a seat that runs background tasks has this number, and no effect of a line
pub record IsTaskSeat (lines : List Line) (number : ℕ) (seat : SeatState) : Type 0 where
  pub number_is : seat.number ≡ number
  pub placed : EachPlaced lines number seat.seen
  pub done : (m : ℕ) → 0 < m → effects_of m (entries_of number seat.seen) ≡ 0

-- how many of these lines have the number
abbrev pub times_in : ℕ → List Line → ℕ
times_in number lines = count_by (λ (l : Line). l.line == number) lines

-- the lines below a position are done, with the seat at rest
pub record IsUnderWay (tells : Type 0) (lock : TableId) (notices : Notices) (lines : List Line) (first : SeatState) (count : ℕ)
    (crew : Crew) : Type 0 where
  pub same : crew.seat ≡ record first { seen = crew.seat.seen; next = crew.seat.next; joined = crew.seat.joined }
  pub below : count ≤ length lines
  pub numbers : NoNumberBeyond crew.seat.next crew.seat.seen
  pub some : 3 ≤ crew.seat.next
  pub known : (n : ℕ) → 3 ≤ n → n < crew.seat.next → Contains crew.seat.joined n × EachPlaced lines n crew.seat.seen
  pub placed : EachPlaced lines 0 crew.seat.seen
  pub done : (m : ℕ) → 0 < m
      → effects_of m (entries_of 0 crew.seat.seen) + effects_from m 3 (crew.seat.next - 3) crew.seat.seen ≡ times_in m (take count lines)
  pub workers_know : KnowsLosses false (any_lost crew.stations.items) 0
      (losses_by 0 crew.seat.seen + losses_from 3 (crew.seat.next - 3) crew.seat.seen)
  pub size : length crew.stations.items ≡ 8
  pub stations_are : (w : ℕ) (s : Station) → slice_get crew.stations.items w ≡ Some s
      → IsStation tells first.opening lines w count crew.seat.seen s
  pub cleaner : MayClean lock notices crew.cleaner
  pub cleaner_seat : IsTaskSeat lines 1 crew.cleaner.seat
  pub cleaner_knows : KnowsLosses false crew.cleaner.lost 0 (losses_by 1 crew.cleaner.seat.seen)
  pub cleaner_lost : tells → crew.cleaner.lost ≡ false
  pub handler : MayHandle lock notices crew.handler
  pub handler_seat : IsTaskSeat lines 2 crew.handler.seat
  pub handler_knows : KnowsLosses false crew.handler.lost 0 (losses_by 2 crew.handler.seat.seen)
  pub handler_lost : tells → crew.handler.lost ≡ false

-- the first seat took both duty seats back
pub record TookSeatsBack (seat first second after : SeatState) : Type 0 where
  pub same : after ≡ record seat { seen = after.seen; places = seat.places + 2; joined = after.joined }
  pub grows : IsPrefix seat.seen after.seen
  pub grows_first : IsPrefix first.seen after.seen
  pub grows_second : IsPrefix second.seen after.seen
  pub own : by_seat 0 after.seen ≡ by_seat 0 seat.seen
  pub first_is : by_seat first.number after.seen ≡ by_seat first.number first.seen
  pub second_is : by_seat second.number after.seen ≡ by_seat second.number second.seen
  pub joined : (n : ℕ) → Contains seat.joined n → by_seat n after.seen ≡ by_seat n seat.seen
  pub numbers : NoNumberBeyond after.next after.seen

-- what is needed to run all lines
pub record MayRunEpochs (lock : TableId) (notices : Notices) (lines : List Line) (seat : SeatState) (stations : List Station)
    (passes : Passes) (places : ℕ) : Type 0 where
  pub of_lock : seat.lock ≡ lock
  pub first : IsFirstSeat lines seat
  pub fresh : AreFresh lines stations
  pub outbox : IsOutbox notices passes.outbox
  pub taker : IsTaker notices passes.taker
  pub places_are : places ≡ length lines

-- what the first seat has for it all
pub record MayGo (lock : TableId) (lines : List Line) (first : SeatState) : Type 0 where
  pub of_lock : first.lock ≡ lock
  pub at_rest : first.has_turn ≡ false
  pub number : first.number ≡ 0
  pub places : 7 ≤ first.places
  pub lines_are : AreLinesOf first.opening lines

-- all lines are done
pub record HasRunAll (tells : Type 0) (lines : List Line) (seat after : SeatState) (stations : List Station) : Type 0 where
  pub same : after ≡ record seat { seen = after.seen; next = after.next; joined = after.joined }
  pub placed : AllPlaced lines after.seen
  pub done : (m : ℕ) → 0 < m → effects_of m (entries after.seen) ≡ times_in m lines
  pub size : length stations ≡ 8
  pub stations_are : (w : ℕ) (s : Station) → slice_get stations w ≡ Some s
      → IsStation tells seat.opening lines w (length lines) after.seen s
