use Rattle.std.proofs.Common.{◌+◌}
use Rattle.nl_field.specs.Page.{erased}
use Rattle.nl_nand.specs.CutCells.{CellsAreCut}
use Rattle.nl_nand.proofs.restart.give_each.Given as goal

abbrev pub invariant-loop-at : goal.invariant-loop-at
invariant-loop-at l = CellsAreCut l.low (l.low + l.at) erased l.cut l.initial.cells.items l.cells.items
