use Rattle.std.proofs.Common.{◌≡◌, take}
use Rattle.nl_device.specs.Opening.{owns_of}
use Rattle.nl_device.proofs.opening.own.owns.Given as goal

abbrev pub invariant-loop-at : goal.invariant-loop-at
invariant-loop-at l = l.owns.items ≡ owns_of l.fn.shape (take l.at l.fn.tables.seen)
