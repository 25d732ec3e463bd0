use Rattle.std.proofs.Common.{◌≡◌, ◌+◌, ◌≤◌, drop, sum_by}
use Rattle.nl_tree.specs.Charges.{data_charge}
use Rattle.nl_tree.specs.KeptSums.{data_of_entry}
use Rattle.nl_tree_model.proofs.plain.space.data_total.Given as goal

abbrev pub invariant-entries : goal.invariant-entries
invariant-entries l = (l.total + sum_by data_of_entry (drop l.entry-index l.tree) ≡ data_charge l.tree) × (l.total ≤ l.limit)
