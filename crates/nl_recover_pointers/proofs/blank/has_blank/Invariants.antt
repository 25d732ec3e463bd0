use Rattle.std.proofs.Common.{◌≡◌, ◌<◌, ◌+◌, ◌||◌, ℕ, false, drop, get_or, length}
use Rattle.std.specs.List.{list_any}
use Rattle.nl_recover_pointers.specs.Blank.{is_within}
use Rattle.nl_recover_pointers.proofs.blank.has_blank.Given as goal

abbrev pub invariant-seen : goal.invariant-seen
invariant-seen l = record {
  count_is : length l.marks.items ≡ l.fn.count;
  each : (i : ℕ) → i < l.fn.count
      → (get_or l.marks.items i false || list_any (is_within l.fn.size (l.fn.first + i)) (drop l.at l.fn.scan.seen)) ≡ list_any (is_within l.fn.size (l.fn.first + i)) l.fn.scan.seen;
}
