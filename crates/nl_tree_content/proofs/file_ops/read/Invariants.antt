use Rattle.std.proofs.Common.{◌≡◌, ◌≤◌, ◌-◌, ◌++◌, map}
use Rattle.std.specs.List.{range_with_len}
use Rattle.nl_field.specs.FileContent.{byte_of}
use Rattle.nl_tree_content.proofs.file_ops.read.Given as goal

abbrev pub invariant-parts : goal.invariant-parts
invariant-parts l = (l.out ≡ l.initial.out ++ map (byte_of l.file) (range_with_len l.from l.done)) × (l.done ≤ l.count)

abbrev pub decreases-parts : goal.decreases-parts
decreases-parts l = l.count - l.done
