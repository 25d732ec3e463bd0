use Rattle.std.proofs.Common.{◌≡◌, ℕ, ◌++◌, ◌∷◌, [], ap, ◌∙◌, sym, subst, List}
use mathlib.Core.List.{IsPrefix}
use Rattle.nl_turns.specs.Seat.{Passed, SeatState, entries, passed_by}
use Rattle.nl_test_workers.specs.Work.{entries_of}
use Rattle.nl_test_workers.proofs.Turned.{entries_more, own_more, prefix_push}
use Rattle.nl_test_workers.proofs.line.effect_turn.Goals as goal

pub returns-clause-seat : goal.returns-clause-seat
returns-clause-seat g c =
    let passed = ap (λ (z : SeatState). z.seen) c.pass.ensures.seat in
    c.pass.ensures.seat ∙ (λ i. record (c.take-turn.ensures.seat i) { seen = sym passed i; has_turn = sym c.requires.idle i })

pub returns-clause-grows : goal.returns-clause-grows
returns-clause-grows g c =
    let passed = ap (λ (z : SeatState). z.seen) c.pass.ensures.seat in
    subst (λ (xs : List Passed). IsPrefix c.args.seat.now.seen xs) (sym passed) (prefix_push c.args.seat.now.seen c.take-turn.new.seat.seen _ c.take-turn.ensures.grows)

pub returns-clause-own : goal.returns-clause-own
returns-clause-own g c =
    let n = c.args.seat.now.number in
    let mid = c.take-turn.new.seat.seen in
    let passed = ap (λ (z : SeatState). z.seen) c.pass.ensures.seat in
    let number = ap (λ (z : SeatState). z.number) c.take-turn.ensures.seat in
    ap (λ (xs : List Passed). entries_of n xs) (passed ∙ (λ i. mid ++ passed_by (number i) (c.of_effect.ensures i) ∷ [])) ∙ own_more n c.args.seat.now.seen mid _ c.take-turn.ensures.own

pub returns-clause-answer : goal.returns-clause-answer
returns-clause-answer g c tells =
    let before = entries c.take-turn.new.seat.seen in (
      before,
      ap (λ (k : SeatState). entries k.seen) c.pass.ensures.seat ∙ (entries_more _ c.take-turn.new.seat.seen _ ∙ ap (λ e. before ++ e ∷ []) c.of_effect.ensures),
      c.effect-answered.ensures.answer tells c.args.turns.now.origin c.args.seat.now.opening before c.take-turn.ensures.stands c.requires.line,
    )
