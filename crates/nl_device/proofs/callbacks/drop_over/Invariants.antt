use Rattle.std.proofs.Common.{◌≡◌, length}
use Rattle.nl_callbacks.specs.Pending.{unacknowledged}
use Rattle.nl_device.specs.Callbacks.{DropsNames}
use Rattle.nl_device.proofs.callbacks.drop_over.Given as goal

abbrev pub invariant-over : goal.invariant-over
invariant-over l = record {
  dropped : DropsNames l.initial.pseg l.pseg l.pending;
  over : unacknowledged l.upto l.pending.callbacks ≡ unacknowledged l.upto l.initial.pending.callbacks;
  posted : l.pending.posted ≡ l.initial.pending.posted;
}

abbrev pub decreases-over : goal.decreases-over
decreases-over l = length l.pending.callbacks
