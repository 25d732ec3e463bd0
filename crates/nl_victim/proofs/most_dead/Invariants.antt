use Rattle.std.proofs.Common.{◌+◌}
use Rattle.nl_victim.specs.Search.{MostDeadBelow}
use Rattle.nl_victim.proofs.most_dead.Given as goal

abbrev pub invariant-loop-i : goal.invariant-loop-i
invariant-loop-i l = MostDeadBelow l.blocks (l.blocks.first + l.i) l.best
