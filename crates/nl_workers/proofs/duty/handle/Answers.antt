use Rattle.std.proofs.Common.{rules}
use Rattle.nl_workers.proofs.Serving.{handles}
use Rattle.nl_workers.proofs.duty.handle.Goals as goal

pub loop-preserved-in-Some-take : goal.loop-preserved-in-Some-take
loop-preserved-in-Some-take g c =
    handles g.V.Served.tells c.args.notices.now c.args.handler c.loop.handler _ c.handle_turn-answer.result c.loop.invariant c.handle_turn-answer.ensures.passed (search rules) (search rules) c.handle_turn-answer.ensures.lost
