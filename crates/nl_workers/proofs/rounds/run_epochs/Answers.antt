use Rattle.std.proofs.Common.{◌≡◌, length, arith, subst}
use Rattle.nl_workers.specs.Going.{IsUnderWay}
use Rattle.nl_workers.specs.Heard.{HeardSoFar}
use Rattle.nl_workers.proofs.Going.{may_start, lock_is, goes_on}
use Rattle.nl_workers.proofs.Hearing.{heard_goes_on}
use Rattle.nl_workers.proofs.rounds.run_epochs.Goals as goal

pub run_beside-crew-requires-clause-cleaner : goal.run_beside-crew-requires-clause-cleaner
run_beside-crew-requires-clause-cleaner g c κs within = c.loop-from.invariant.0.cleaner

pub run_beside-crew-requires-clause-handler : goal.run_beside-crew-requires-clause-handler
run_beside-crew-requires-clause-handler g c κs within = c.loop-from.invariant.0.handler

pub run_beside-crew-requires-clause-lock : goal.run_beside-crew-requires-clause-lock
run_beside-crew-requires-clause-lock g c κs within =
    lock_is g.V.Served.tells c.args.turns.now.name c.args.notices.now c.args.lines.now c.args.crew.seat c.loop-from.from c.loop-from.crew c.requires.may c.loop-from.invariant.0

pub run_beside-crew-requires-clause-may : goal.run_beside-crew-requires-clause-may
run_beside-crew-requires-clause-may g c κs within =
    may_start g.V.Served.tells c.args.turns.now.name c.args.notices.now c.args.lines.now c.args.crew.seat c.loop-from.from c.loop-from.crew c.requires.may c.loop-from.invariant.0
    c.end_of_epoch-to.result c.end_of_epoch-to.ensures.rises c.end_of_epoch-to.ensures.epoch

pub loop-from-preserved : goal.loop-from-preserved
loop-from-preserved g c = (
  goes_on g.V.Served.tells c.args.turns.now.name c.args.notices.now c.args.lines.now c.args.crew.seat c.loop-from.from c.loop-from.crew c.requires.may c.loop-from.invariant.0
      c.end_of_epoch-to.result c.end_of_epoch-to.ensures.rises c.end_of_epoch-to.ensures.epoch c.run_beside-crew.result c.run_beside-crew.ensures.cleaned c.run_beside-crew.ensures.handled c.run_beside-crew.ensures.ran,
  heard_goes_on g.V.Served.tells c.args.turns.now.name c.args.notices.now (g.G.Gate.heard c.args.gate.now) c.args.lines.now c.args.crew.seat c.loop-from.from c.end_of_epoch-to.result c.loop-from.crew c.run_beside-crew.result
      c.requires.may c.loop-from.invariant.0 c.run_beside-crew.ensures.cleaned c.run_beside-crew.ensures.handled c.run_beside-crew.ensures.ran c.loop-from.invariant.1 c.run_beside-crew.ensures.heard,
)

pub returns-clause-going : goal.returns-clause-going
returns-clause-going g c =
    let i = c.loop-from.invariant.0 in
    let below = i.below in
    let past = c.loop-from-test.false in
    let count = c.len.ensures.count in
    let end : c.loop-from.from ≡ length c.args.lines.now = omega arith in
    subst (λ n. IsUnderWay g.V.Served.tells c.args.turns.now.name c.args.notices.now c.args.lines.now c.args.crew.seat n c.loop-from.crew) end i

pub returns-clause-heard : goal.returns-clause-heard
returns-clause-heard g c =
    let below = c.loop-from.invariant.0.below in
    let past = c.loop-from-test.false in
    let count = c.len.ensures.count in
    let end : c.loop-from.from ≡ length c.args.lines.now = omega arith in
    subst (λ n. HeardSoFar (g.G.Gate.heard c.args.gate.now) c.args.lines.now n c.loop-from.crew) end c.loop-from.invariant.1
