use Rattle.std.proofs.Common.{◌≡◌, ◌++◌, drop}
use Rattle.nl_tree.specs.Tree.{with_all}
use Rattle.nl_tree_entries.proofs.merge.merged.Given as goal

abbrev pub invariant-entries : goal.invariant-entries
invariant-entries l = l.put.items ++ with_all l.rest (drop l.entry-index l.entries) ≡ with_all l.tree l.entries
