use Rattle.std.proofs.Common.{◌≡◌, ◌++◌, map, drop, length}
use Rattle.std.specs.FinMap.Entries.{where_key}
use Rattle.nl_tree.specs.Tree.{path_cmp, is_at_or_under}
use Rattle.nl_tree_entries.proofs.rename.all_moved.Given as goal

abbrev pub invariant-entries : goal.invariant-entries
invariant-entries l =
    l.moved.items ++ map (λ e. (l.to ++ drop (length l.from) e.0, e.1)) (where_key path_cmp (is_at_or_under l.from) (drop l.entry-index l.tree))
    ≡ map (λ e. (l.to ++ drop (length l.from) e.0, e.1)) (where_key path_cmp (is_at_or_under l.from) l.tree)
