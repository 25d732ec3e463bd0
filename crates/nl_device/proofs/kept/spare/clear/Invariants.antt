use Rattle.std.proofs.Common.{◌≡◌, ℕ, ◌<◌, false, length}
use Rattle.std.specs.Prelude.{slice_index_or}
use Rattle.nl_device.proofs.kept.spare.clear.Given as goal

abbrev pub invariant-loop-at : goal.invariant-loop-at
invariant-loop-at l = record {
  count : length l.alone.items ≡ length l.initial.alone.items;
  none : (i : ℕ) → i < l.at → slice_index_or l.alone.items i false ≡ false;
}
