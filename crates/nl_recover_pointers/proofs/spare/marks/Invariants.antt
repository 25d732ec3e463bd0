use Rattle.std.proofs.Common.{◌≡◌, ◌<◌, ◌+◌, ◌||◌, ℕ, false, drop, get_or, length}
use Rattle.std.specs.List.{list_any}
use Rattle.std.specs.BTreeMap.{get}
use Rattle.nl_recover_pointers.specs.Places.{pair_cmp, place_key}
use Rattle.nl_recover_pointers.specs.Spare.{is_alone_in, spread_at}
use Rattle.nl_recover_pointers.specs.declared.spare.PageCopy.{PageCopy}
use Rattle.nl_recover_pointers.proofs.spare.marks.Given as goal

abbrev pub invariant-pages : goal.invariant-pages
invariant-pages l = record {
  count_is : length l.marks.items ≡ l.fn.count;
  each : (i : ℕ) → i < l.fn.count
      → (get_or l.marks.items i false
      || list_any (λ (r : PageCopy). is_alone_in (l.fn.first + i) (spread_at (get pair_cmp l.fn.spreads (place_key r.address r.stamp))) r) (drop l.at l.pages.items))
      ≡ list_any (λ (r : PageCopy). is_alone_in (l.fn.first + i) (spread_at (get pair_cmp l.fn.spreads (place_key r.address r.stamp))) r) l.pages.items;
}
