use Rattle.std.proofs.Common.{rules, ◌≡◌, ◌+◌, ◌^◌, ◌<◌, subst, vec_len, ap, ◌∙◌, arith}
use Rattle.nl_field.specs.CrashStates.{saturated}
use Rattle.nl_turns.specs.History.{effects}
use Rattle.nl_turns.specs.Seat.{SeatState, entries}
use Rattle.nl_test_workers.specs.Work.{SeatsHaveRun}
use Rattle.nl_test_workers.proofs.RoundSums.{script_lines, run_counts, count_fits}
use Rattle.nl_test_workers.proofs.counting.count_effects.Goals as goal

pub round-seat-requires-clause-lines : goal.round-seat-requires-clause-lines
round-seat-requires-clause-lines g c κs within =
    let count : vec_len c.in_ok-outs.outs ≡ c.args.workers = search rules in
    let script = c.requires.lines in
    let many = script.count_is in
    (omega arith, script_lines c.in-Ok.seat.opening c.args.lines.now c.args.workers (ap (λ (z : SeatState). z.opening.lines) c.in-Ok.ensures.seat) script)

pub returns : goal.returns
returns g c =
    let s = c.in-Ok.ensures.seat in
    let after = c.round-seat.result in
    let count : vec_len c.in_ok-outs.outs ≡ c.args.workers = search rules in
    let ran = subst (λ n. SeatsHaveRun c.in-Ok.seat c.args.lines.now n c.args.times after) count c.round-seat.ensures in
    let sum = run_counts c.in-Ok.seat after c.args.lines.now c.args.workers c.args.times c.requires.lines ran (ap (λ (z : SeatState). z.next) s) (ap (λ (z : SeatState). z.seen) s) in
    let from_zero : after.opening.count ≡ 0 = ap (λ (z : SeatState). z.opening.count) ran.same ∙ (ap (λ (z : SeatState). z.opening.count) s ∙ c.new.ensures.calls) in
    let small : c.args.times < 2 ^ 32 = omega arith in
    c.close.ensures.count ∙ (ap (λ n. saturated (n + effects (entries after.seen))) from_zero ∙ count_fits (effects (entries after.seen)) c.args.workers c.args.times sum c.requires.few small)
