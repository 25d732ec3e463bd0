use Rattle.std.proofs.Common.{◌≡◌, ◌||◌, ℕ, drop}
use Rattle.std.specs.Prelude.{◌==◌}
use Rattle.std.specs.BTreeSet.{contains}
use Rattle.std.specs.List.{list_any}
use Rattle.std.specs.Ordering.{nat_cmp}
use Rattle.nl_device.specs.contracts.counts.DeviceCounts.TheImpl.{ghosts}
use Rattle.nl_field.specs.Live.{resolve}
use Rattle.nl_map.proofs.live.places.Given as goal

abbrev pub invariant-kept : goal.invariant-kept
invariant-kept g l =
    (page : ℕ) → (contains nat_cmp l.places page || list_any (λ p. resolve ((ghosts g.row.M g.M.Nand g.M.Nand-dict).names l.device).pairs p.name == page) (drop l.at l.kept.items))
    ≡ list_any (λ p. resolve ((ghosts g.row.M g.M.Nand g.M.Nand-dict).names l.device).pairs p.name == page) l.kept.items
