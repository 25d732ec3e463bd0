use Rattle.std.proofs.Common.{◌≡◌, ◌++◌, drop}
use Rattle.std.specs.FinMap.Entries.{where_key}
use Rattle.nl_tree.specs.Tree.{path_cmp}
use Rattle.nl_tree.specs.Step.{listing}
use Rattle.nl_tree.specs.KeptSums.{is_entry_of}
use Rattle.nl_tree_entries.proofs.listing.push_names.Given as goal

abbrev pub invariant-entries : goal.invariant-entries
invariant-entries l = l.out ++ listing (where_key path_cmp (is_entry_of l.path) (drop l.entry-index l.tree)) ≡ l.initial.out ++ listing (where_key path_cmp (is_entry_of l.path) l.tree)
