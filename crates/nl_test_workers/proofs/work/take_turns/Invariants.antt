use Rattle.nl_test_workers.specs.Work.{HasTakenTurns}
use Rattle.nl_test_workers.proofs.work.take_turns.Given as goal

abbrev pub invariant-loop : goal.invariant-loop
invariant-loop g l = HasTakenTurns l.initial.seat l.line.line l.counter l.seat
