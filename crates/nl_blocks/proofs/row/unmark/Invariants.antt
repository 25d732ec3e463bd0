use Rattle.std.proofs.Common.{◌≡◌, ◌++◌, map, take, drop}
use Rattle.nl_blocks.specs.Table.{unmarked}
use Rattle.nl_blocks.proofs.row.unmark.Given as goal

abbrev pub invariant-loop-at : goal.invariant-loop-at
invariant-loop-at l = l.pages.items ≡ map unmarked (take l.at l.initial.pages.items) ++ drop l.at l.initial.pages.items
