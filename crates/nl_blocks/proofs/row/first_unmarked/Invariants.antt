use Rattle.nl_blocks.specs.Table.{AreMarkedBefore}
use Rattle.nl_blocks.proofs.row.first_unmarked.Given as goal

abbrev pub invariant-loop-at : goal.invariant-loop-at
invariant-loop-at l = AreMarkedBefore l.pages l.at
