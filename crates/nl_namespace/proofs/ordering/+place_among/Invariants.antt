use Rattle.std.proofs.Common.{◌-◌}
use Rattle.nl_namespace.proofs.ordering.+place_among.Given as goal

abbrev pub decreases-place_among : goal.decreases-place_among
decreases-place_among l = l.high - l.low
