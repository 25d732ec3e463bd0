use Rattle.std.proofs.Common.{[]}
use Rattle.nl_files.proofs.GivingBack.{GivesUpTo}
use Rattle.nl_calls_names.proofs.dropping.give_all.Given as goal

abbrev pub invariant-loop-slot : goal.invariant-loop-slot
invariant-loop-slot l = GivesUpTo l.slot l.addresses [] l.initial.nodes l.nodes
