use Rattle.std.proofs.Common.{◌≡◌, ◌++◌, take}
use Rattle.nl_tree_entries.proofs.entries.push_all.Given as goal

abbrev pub invariant-entries : goal.invariant-entries
invariant-entries l = l.kept.items ≡ l.initial.kept.items ++ take l.entry-index l.entries
