use Rattle.std.proofs.Common.{List, ap}
use Rattle.std.specs.Prelude.{fold}
use Rattle.std.specs.Map.{lookup}
use Rattle.std.specs.Ordering.{is_eq}
use Rattle.nl_recover_pointers.specs.Places.{PlaceKey, pair_cmp, place_key}
use Rattle.nl_recover_pointers.specs.Spare.{spread_among, spread_at, with_copy}
use Rattle.nl_recover_pointers.specs.declared.spare.Spread.{Spread}
use Rattle.nl_recover_pointers.proofs.spare.spreads.Goals as goal

pub pages-init : goal.pages-init
unfolding spread_among
pages-init c address stamp =
    ap (λ (es : List (PlaceKey × Spread)). fold (with_copy address stamp) (spread_at (lookup (λ k. is_eq (pair_cmp (place_key address stamp) k)) es)) c.args.pages.now.items) c.new-spreads.ensures.empty
