use Rattle.std.proofs.Common.{◌≡◌, ◌+◌, ◌≤◌, drop, sum_by, length, nat_lt}
use Rattle.std.specs.List.{list_any}
use Rattle.nl_field.specs.Numbers.{max_name, max_path}
use Rattle.nl_tree.proofs.lengths.is_long.Given as goal

abbrev pub invariant-names : goal.invariant-names
invariant-names l =
    (l.total + sum_by (λ name. 1 + length name) (drop l.name-index l.path) ≡ sum_by (λ name. 1 + length name) l.path) × (l.total ≤ max_path)
    × (list_any (λ name. nat_lt max_name (length name)) (drop l.name-index l.path) ≡ list_any (λ name. nat_lt max_name (length name)) l.path)
