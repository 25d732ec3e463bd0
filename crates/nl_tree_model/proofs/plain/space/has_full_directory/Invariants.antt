use Rattle.std.proofs.Common.{◌≡◌, drop, length, nat_lt}
use Rattle.std.specs.List.{list_any}
use Rattle.nl_field.specs.Numbers.{max_entries}
use Rattle.nl_tree.specs.Tree.{entries_of}
use Rattle.nl_tree_model.proofs.plain.space.has_full_directory.Given as goal

abbrev pub invariant-entries : goal.invariant-entries
invariant-entries l =
    list_any (λ e. nat_lt max_entries (length (entries_of l.tree e.0))) (drop l.at l.tree) ≡ list_any (λ e. nat_lt max_entries (length (entries_of l.tree e.0))) l.tree
