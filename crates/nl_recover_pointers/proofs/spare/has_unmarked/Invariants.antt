use Rattle.std.proofs.Common.{◌≡◌, drop}
use Rattle.std.specs.List.{list_all}
use Rattle.nl_recover_pointers.proofs.spare.has_unmarked.Given as goal

abbrev pub invariant-loop-mark : goal.invariant-loop-mark
invariant-loop-mark l = list_all (λ mark. mark) (drop l.mark-index l.marks.items) ≡ list_all (λ mark. mark) l.marks.items
