use Rattle.std.proofs.Common.{ap, ◌∙◌, ◌≡◌, subst}
use Rattle.std.specs.Prelude.{IfSome}
use Rattle.nl_turns.specs.Seat.{SeatState}
use Rattle.nl_test_workers.specs.Work.{LineIsOfSeat}
use Rattle.nl_test_workers.proofs.RoundSums.{script_lines}
use Rattle.nl_test_workers.proofs.turns.a_line_is_staged_and_then_answered.Goals as goal

pub run_line-own-requires-clause-line : goal.run_line-own-requires-clause-line
run_line-own-requires-clause-line g c =
    let own = c.in-Some.own.opening in
    let has : own.lines ≡ c.in_ok-lines.lines = ap (λ (z : SeatState). z.opening.lines) c.in-Some.ensures.given ∙ ap (λ (z : SeatState). z.opening.lines) c.in-Ok.ensures.seat in
    let each = script_lines own c.in_ok-lines.lines 1 has c.in_ok-lines.ensures 0 in
    subst (λ o. IfSome o (LineIsOfSeat own)) c.get.ensures.line each
