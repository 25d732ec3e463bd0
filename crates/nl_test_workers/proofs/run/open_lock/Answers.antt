use Rattle.std.proofs.Common.{ap, arith}
use Rattle.nl_turns.specs.Seat.{SeatState}
use Rattle.nl_test_workers.proofs.run.open_lock.Goals as goal

pub returns-clause-first : goal.returns-clause-first
returns-clause-first c =
    let s = c.in-Ok.ensures.seat in
    record {
      at_rest = ap (λ (z : SeatState). z.has_turn) s;
      number = ap (λ (z : SeatState). z.number) s;
      none_seen = ap (λ (z : SeatState). z.seen) s;
      none_given = ap (λ (z : SeatState). z.next) s;
      places = (let p = ap (λ (z : SeatState). z.places) s in omega arith);
      lines_are = ap (λ (z : SeatState). z.opening.lines) s;
    }
