use Rattle.nl_workers.proofs.Serving.{cleans}
use Rattle.nl_workers.proofs.duty.clean.Goals as goal

pub loop-preserved : goal.loop-preserved
loop-preserved g c =
    cleans g.V.Served.tells c.args.notices.now c.args.cleaner c.loop.cleaner _ c.clean_turn-cleaned.result.answer c.loop.invariant c.clean_turn-cleaned.ensures.passed c.send_up_to.ensures.outbox c.send_up_to.ensures.range.0 c.is_lost_now.ensures c.clean_turn-cleaned.ensures.lost
