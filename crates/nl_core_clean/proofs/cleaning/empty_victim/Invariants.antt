use Rattle.nl_core_clean.proofs.Chosen.{Choosing}
use Rattle.nl_core_clean.proofs.Emptying.{Emptying, pages_left}
use Rattle.nl_core_clean.proofs.cleaning.empty_victim.Given as goal

abbrev pub invariant-loop-answer : goal.invariant-loop-answer
invariant-loop-answer g l = Emptying g.D.Counts l.initial.device l.device × Choosing g.D.MovingPages l.initial.device l.device

abbrev pub decreases-loop-answer : goal.decreases-loop-answer
decreases-loop-answer g l = pages_left (g.D.Counts.names l.device).space
