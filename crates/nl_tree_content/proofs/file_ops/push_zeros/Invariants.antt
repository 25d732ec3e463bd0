use Rattle.std.proofs.Common.{◌≡◌, ◌++◌, replicate}
use Rattle.nl_tree_content.proofs.file_ops.push_zeros.Given as goal

abbrev pub invariant-zeros : goal.invariant-zeros
invariant-zeros l = l.out ≡ l.initial.out ++ replicate l.at 0
