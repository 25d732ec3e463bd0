use Rattle.std.proofs.Common.{◌≡◌, ◌++◌, ◌&&◌, not, drop}
use Rattle.std.specs.FinMap.Entries.{where_key}
use Rattle.nl_tree.specs.Tree.{path_cmp, paths_eq, is_at_or_under}
use Rattle.nl_tree_entries.proofs.entries.staying.Given as goal

abbrev pub invariant-entries : goal.invariant-entries
invariant-entries l =
    l.kept.items ++ where_key path_cmp (λ p. not (is_at_or_under l.from p) && not (paths_eq l.to p)) (drop l.entry-index l.tree)
    ≡ where_key path_cmp (λ p. not (is_at_or_under l.from p) && not (paths_eq l.to p)) l.tree
