use Rattle.std.proofs.Common.{rules}
use Rattle.nl_workers.proofs.Sending.{sending_more}
use Rattle.nl_workers.proofs.outbox.Outbox.send_up_to.Goals as goal

pub loop-number-preserved : goal.loop-number-preserved
loop-number-preserved g c =
    sending_more c.args.notices.now c.args.posted c.loop-number.number c.args.self.now c.loop-number.self _ c.loop-number.invariant (search rules) (search rules) (search rules) (search rules)
