-- What the loops of background tasks add to the history, and what they send and take.
use Rattle.std.specs.Prelude.{◌≡◌, ℕ, ◌<◌, ◌≤◌, Bool, true, false, List}
use Rattle.std.specs.List.{range_with_len}
use Rattle.atomic_table.specs.Seated.{TableId}
use Rattle.nl_callbacks.specs.Notices.{IsSender, IsTaker, sent}
use Rattle.nl_callbacks.specs.declared.notices.Notices.{Notices}
use Rattle.nl_tree.specs.declared.call.Line.{Line}
use Rattle.nl_tree.specs.declared.turn.Duty.{Duty}
use Rattle.nl_tree.specs.declared.turn.Duty.TheVariants.{Copy}
use Rattle.nl_turns.specs.Seat.{SeatState}
use Rattle.nl_workers.specs.Gates.{stagings_of}
use Rattle.nl_workers.specs.Placed.{EachPlaced, SeatAdvances, KnowsLosses, entries_of, effects_of, losses_by}
use Rattle.nl_workers.specs.declared.duty.Cleaner.{Cleaner}
use Rattle.nl_workers.specs.declared.duty.Handler.{Handler}
use Rattle.nl_workers.specs.declared.outbox.Outbox.{Outbox}

abbrev pub is_copy : Duty → Bool
is_copy Copy = true
is_copy _ = false

-- A seat went on by background tasks: its entries have neither a line nor a staging.
pub record HasServed (seat after : SeatState) : Type 0 where
  pub goes : SeatAdvances seat after
  pub placed : (lines : List Line) → EachPlaced lines seat.number seat.seen → EachPlaced lines seat.number after.seen
  pub done : (m : ℕ) → 0 < m → effects_of m (entries_of seat.number after.seen) ≡ effects_of m (entries_of seat.number seat.seen)
  pub staged : (m : ℕ) → stagings_of m (entries_of seat.number after.seen) ≡ stagings_of m (entries_of seat.number seat.seen)

-- The cleaner's end has sent the numbers from 1 to its last one, each once and in order, and nobody else sends.
pub record IsOutbox (notices : Notices) (outbox : Outbox) : Type 0 where
  pub sender : IsSender notices outbox.pass
  pub numbers : sent outbox.pass ≡ range_with_len 1 outbox.last

-- ---- the cleaner

pub record MayClean (lock : TableId) (notices : Notices) (cleaner : Cleaner) : Type 0 where
  pub of_lock : cleaner.seat.lock ≡ lock
  pub at_rest : cleaner.seat.has_turn ≡ false
  pub sends : IsOutbox notices cleaner.outbox

-- The cleaner knows whether one of its turns lost a page; over a medium that tells its contents none is lost.
pub record HasCleaned (tells : Type 0) (notices : Notices) (cleaner after : Cleaner) : Type 0 where
  pub served : HasServed cleaner.seat after.seat
  pub sends : IsOutbox notices after.outbox
  pub goes_on : cleaner.outbox.last ≤ after.outbox.last
  pub knows : KnowsLosses cleaner.lost after.lost (losses_by cleaner.seat.number cleaner.seat.seen)
      (losses_by cleaner.seat.number after.seat.seen)
  pub none_lost : tells → after.lost ≡ cleaner.lost

-- ---- the handler

pub record MayHandle (lock : TableId) (notices : Notices) (handler : Handler) : Type 0 where
  pub of_lock : handler.seat.lock ≡ lock
  pub at_rest : handler.seat.has_turn ≡ false
  pub takes : IsTaker notices handler.pass

pub record HasHandled (tells : Type 0) (notices : Notices) (handler after : Handler) : Type 0 where
  pub served : HasServed handler.seat after.seat
  pub takes : IsTaker notices after.pass
  pub knows : KnowsLosses handler.lost after.lost (losses_by handler.seat.number handler.seat.seen)
      (losses_by handler.seat.number after.seat.seen)
  pub none_lost : tells → after.lost ≡ handler.lost
