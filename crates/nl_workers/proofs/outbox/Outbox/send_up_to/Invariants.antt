use Rattle.nl_workers.specs.Sending.{IsSending}
use Rattle.nl_workers.proofs.outbox.Outbox.send_up_to.Given as goal

abbrev pub invariant-loop-number : goal.invariant-loop-number
invariant-loop-number g l = IsSending l.notices l.posted l.number l.initial.self l.self
