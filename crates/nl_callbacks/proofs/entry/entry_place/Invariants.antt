use Rattle.std.proofs.Common.{◌-◌}
use Rattle.nl_callbacks.specs.Pending.{no_entry, number_of}
use Rattle.nl_callbacks.proofs.ListsProofs.{Halving}
use Rattle.nl_callbacks.proofs.entry.entry_place.Given as goal

abbrev pub invariant-loop-low : goal.invariant-loop-low
invariant-loop-low l = Halving number_of no_entry l.entries.items l.number l.low l.high

abbrev pub decreases-loop-low : goal.decreases-loop-low
decreases-loop-low l = l.high - l.low
