use Rattle.std.proofs.Common.{◌≡◌, length}
use Rattle.nl_tree.specs.Tree.{with_all}
use Rattle.nl_tree_entries.proofs.merge.put_all.Given as goal

abbrev pub invariant-runs : goal.invariant-runs
invariant-runs l = with_all l.tree.items l.rest ≡ with_all l.initial.tree.items l.entries

abbrev pub decreases-runs : goal.decreases-runs
decreases-runs l = length l.rest
