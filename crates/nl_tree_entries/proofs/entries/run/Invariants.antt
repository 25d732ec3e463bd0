use Rattle.std.proofs.Common.{◌≡◌, ◌+◌, ◌≤◌, drop}
use Rattle.nl_tree_entries.specs.Entries.{run_of}
use Rattle.nl_tree_entries.proofs.entries.run.Given as goal

abbrev pub invariant-entries : goal.invariant-entries
invariant-entries l = (l.count + run_of l.path (drop l.entry-index l.rest) ≡ run_of l.path l.rest) × (l.count ≤ l.entry-index)
