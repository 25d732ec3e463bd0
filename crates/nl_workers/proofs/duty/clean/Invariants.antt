use Rattle.nl_workers.specs.Duties.{HasCleaned}
use Rattle.nl_workers.proofs.duty.clean.Given as goal

abbrev pub invariant-loop : goal.invariant-loop
invariant-loop g l = HasCleaned g.V.Served.tells l.notices l.initial.cleaner l.cleaner
