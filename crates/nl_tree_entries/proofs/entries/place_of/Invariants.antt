use Rattle.std.proofs.Common.{◌≡◌, ◌+◌, ◌-◌, ◌≤◌, drop, length}
use Rattle.nl_tree.specs.Tree.{path_cmp}
use Rattle.nl_tree_content.specs.Places.{place_in}
use Rattle.nl_tree_entries.proofs.entries.place_of.Given as goal

abbrev pub invariant-entries : goal.invariant-entries
invariant-entries l = (l.at + place_in path_cmp l.path (drop l.at l.tree) ≡ place_in path_cmp l.path l.tree) × (l.at ≤ length l.tree)

abbrev pub decreases-entries : goal.decreases-entries
decreases-entries l = length l.tree - l.at
