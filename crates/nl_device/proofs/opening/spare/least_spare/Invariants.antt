use Rattle.std.proofs.Common.{◌≡◌, ℕ, ◌+◌, ◌<◌, false, length, take}
use Rattle.std.specs.Prelude.{slice_index_or}
use Rattle.std.specs.List.{list_any}
use Rattle.nl_device.specs.Spread.{is_alone_in}
use Rattle.nl_device.proofs.opening.spare.least_spare.Given as goal

abbrev pub invariant-loop-at : goal.invariant-loop-at
invariant-loop-at l = record {
  count : length l.held.items ≡ l.fn.count;
  each : (i : ℕ) → i < l.fn.count → slice_index_or l.held.items i false ≡ list_any (is_alone_in (l.fn.first + i)) (take l.at l.fn.spreads.items);
}
