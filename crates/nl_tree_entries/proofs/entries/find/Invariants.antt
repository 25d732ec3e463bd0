use Rattle.std.proofs.Common.{◌≡◌, drop}
use Rattle.std.specs.FinMap.Entries.{find as value_at}
use Rattle.nl_tree.specs.Tree.{path_cmp}
use Rattle.nl_tree_entries.proofs.entries.find.Given as goal

abbrev pub invariant-entries : goal.invariant-entries
invariant-entries l = value_at path_cmp l.path (drop l.entry-index l.tree) ≡ value_at path_cmp l.path l.tree
