use Rattle.std.proofs.Common.{◌≡◌, ℕ, drop}
use Rattle.std.specs.Prelude.{fold}
use Rattle.std.specs.BTreeMap.{get}
use Rattle.nl_recover_pointers.specs.Places.{pair_cmp, place_key}
use Rattle.nl_recover_pointers.specs.Spare.{spread_among, spread_at, with_copy}
use Rattle.nl_recover_pointers.proofs.spare.spreads.Given as goal

abbrev pub invariant-pages : goal.invariant-pages
invariant-pages l = (address stamp : ℕ) → fold (with_copy address stamp) (spread_at (get pair_cmp l.spreads (place_key address stamp))) (drop l.at l.pages.items) ≡ spread_among l.pages.items address stamp
