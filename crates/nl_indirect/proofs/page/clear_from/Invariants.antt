use Rattle.nl_indirect.proofs.Cut.{CutsUpTo}
use Rattle.nl_indirect.proofs.page.clear_from.Given as goal

abbrev pub invariant-loop-i : goal.invariant-loop-i
invariant-loop-i l = CutsUpTo l.slot l.i l.initial.page.main l.page.main
