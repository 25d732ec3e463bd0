use Rattle.std.proofs.Common.{◌≡◌, ◌+◌, ◌≤◌, length, drop}
use Rattle.nl_tree.specs.Tree.{path_cmp}
use Rattle.std.specs.FinMap.Entries.{where_key}
use Rattle.nl_tree.specs.KeptSums.{is_entry_of}
use Rattle.nl_tree_entries.proofs.entries.count_entries.Given as goal

abbrev pub invariant-entries : goal.invariant-entries
invariant-entries l =
    (l.count + length (where_key path_cmp (is_entry_of l.path) (drop l.entry-index l.tree)) ≡ length (where_key path_cmp (is_entry_of l.path) l.tree)) × (l.count ≤ l.entry-index)
