use Rattle.std.proofs.Common.{◌≡◌, ◌||◌, ℕ, drop}
use Rattle.std.specs.Prelude.{◌==◌}
use Rattle.std.specs.BTreeSet.{contains}
use Rattle.std.specs.List.{list_any}
use Rattle.std.specs.Ordering.{nat_cmp}
use Rattle.nl_map.proofs.live.stamps.Given as goal

abbrev pub invariant-kept : goal.invariant-kept
invariant-kept l = (stamp : ℕ) → (contains nat_cmp l.stamps stamp || list_any (λ p. p.stamp == stamp) (drop l.at l.kept.items)) ≡ list_any (λ p. p.stamp == stamp) l.kept.items
