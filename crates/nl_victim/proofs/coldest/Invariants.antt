use Rattle.std.proofs.Common.{◌+◌, ◌<◌}
use Rattle.nl_victim.specs.Search.{ColdestBelow, WornBelow}
use Rattle.nl_victim.proofs.coldest.Given as goal

abbrev pub invariant-loop-i : goal.invariant-loop-i
invariant-loop-i l = ColdestBelow l.blocks (l.blocks.first + l.i) l.best × (0 < l.i → WornBelow l.blocks (l.blocks.first + l.i) l.most)
