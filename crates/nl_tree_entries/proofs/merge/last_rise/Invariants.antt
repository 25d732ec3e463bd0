use Rattle.std.proofs.Common.{◌<◌, length, drop}
use Rattle.nl_tree.specs.TreeLaws.{IsInOrder}
use Rattle.nl_tree_entries.proofs.merge.last_rise.Given as goal

abbrev pub invariant-entries : goal.invariant-entries
invariant-entries l = (l.start < length l.entries) × IsInOrder (drop l.start l.entries)

abbrev pub decreases-entries : goal.decreases-entries
decreases-entries l = l.start
