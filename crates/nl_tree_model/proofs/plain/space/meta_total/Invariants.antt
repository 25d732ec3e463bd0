use Rattle.std.proofs.Common.{◌≡◌, ◌+◌, ◌≤◌, drop, sum_by}
use Rattle.nl_tree.specs.Charges.{meta_charge}
use Rattle.nl_tree.specs.KeptSums.{meta_of_entry}
use Rattle.nl_tree_model.proofs.plain.space.meta_total.Given as goal

abbrev pub invariant-entries : goal.invariant-entries
invariant-entries l = (l.total + sum_by (meta_of_entry l.tree) (drop l.at l.tree) ≡ meta_charge l.tree) × (l.total ≤ l.limit)
