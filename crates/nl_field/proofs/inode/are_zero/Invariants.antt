use Rattle.std.proofs.Common.{◌≡◌, true, take, ◌==◌}
use Rattle.std.specs.List.{list_all}
use Rattle.nl_field.proofs.inode.are_zero.Given as goal

abbrev pub invariant-loop-number : goal.invariant-loop-number
invariant-loop-number l = list_all (λ b. b == 0) (take l.number-index l.numbers) ≡ true
