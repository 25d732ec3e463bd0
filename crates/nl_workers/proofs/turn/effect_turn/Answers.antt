use Rattle.std.proofs.Common.{sym, subst}
use Rattle.nl_turns.specs.Seat.{entries}
use Rattle.nl_workers.specs.Placed.{IsDueAt}
use Rattle.nl_workers.proofs.Turned.{passes}
use Rattle.nl_workers.proofs.turn.effect_turn.Goals as goal

pub returns : goal.returns
returns g c =
    let t = c.take-turn.ensures in
    let p = c.pass.ensures in
    let s = c.args.seat.now in
    let done = passes s c.take-turn.new.seat _ _ _ c.of_effect.ensures t.seat t.grows t.own t.joined p.seat p.joined p.numbers c.requires.idle in (
      done.0,
      subst (λ mid. IsDueAt g.V.Served.tells s.opening c.args.line.now c.effect-answered.result c.effect-answered.new.out (entries mid)) (sym done.1) (record {
        place = c.effect-answered.ensures.place _ s.opening _ t.stands c.requires.line;
        ordinal = c.effect-answered.ensures.ordinal _ s.opening _ t.stands c.requires.line;
        answer = λ tells. c.effect-answered.ensures.answer tells _ s.opening _ t.stands c.requires.line;
      }),
    )
