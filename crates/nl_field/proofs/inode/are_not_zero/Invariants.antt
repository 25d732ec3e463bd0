use Rattle.std.proofs.Common.{◌≡◌, true, take, not, ◌==◌}
use Rattle.std.specs.List.{list_all}
use Rattle.nl_field.proofs.inode.are_not_zero.Given as goal

abbrev pub invariant-loop-number : goal.invariant-loop-number
invariant-loop-number l = list_all (λ number. not (number == 0)) (take l.number-index l.numbers) ≡ true
