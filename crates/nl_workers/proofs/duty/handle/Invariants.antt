use Rattle.nl_workers.specs.Duties.{HasHandled}
use Rattle.nl_workers.proofs.duty.handle.Given as goal

abbrev pub invariant-loop : goal.invariant-loop
invariant-loop g l = HasHandled g.V.Served.tells l.notices l.initial.handler l.handler
