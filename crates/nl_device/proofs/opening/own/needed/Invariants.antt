use Rattle.std.proofs.Common.{◌≡◌, take}
use Rattle.std.specs.Prelude.{filter}
use Rattle.nl_device.specs.Opening.{is_newest}
use Rattle.nl_device.proofs.opening.own.needed.Given as goal

abbrev pub invariant-loop-own : goal.invariant-loop-own
invariant-loop-own l = l.needed.items ≡ filter (is_newest l.fn.greatest.items) (take l.own-index l.fn.owns.items)
