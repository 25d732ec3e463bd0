use Rattle.nl_files.proofs.GivingBack.{GivesUpTo}
use Rattle.nl_files.proofs.cutting.give_back.Given as goal

abbrev pub invariant-loop-range : goal.invariant-loop-range
invariant-loop-range l = GivesUpTo l.range l.was l.is l.initial.nodes l.nodes
