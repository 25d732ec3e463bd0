use Rattle.std.proofs.Common.{◌≡◌, ◌+◌, length}
use Rattle.nl_callbacks.specs.Pending.{ArePendingEntries, beside_stamp}
use Rattle.nl_device.specs.Callbacks.{CallbackNamesDiffer}
use Rattle.nl_device.proofs.callbacks.cancel_gone.Given as goal

abbrev pub invariant-each : goal.invariant-each
invariant-each l = record {
  numbers : ArePendingEntries l.pending.callbacks l.pending.posted;
  names : CallbackNamesDiffer l.pending.callbacks;
  posted : l.pending.posted ≡ l.initial.pending.posted;
  beside : beside_stamp l.pending.callbacks l.stamp ≡ beside_stamp l.initial.pending.callbacks l.stamp;
  room : length l.pending.callbacks + l.pending.room ≡ length l.initial.pending.callbacks + l.initial.pending.room;
}

abbrev pub decreases-each : goal.decreases-each
decreases-each l = length l.pending.callbacks
