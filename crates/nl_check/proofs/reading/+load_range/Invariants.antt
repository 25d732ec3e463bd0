use Rattle.std.proofs.Common.{◌-◌}
use Rattle.nl_check.proofs.reading.+load_range.Given as goal

abbrev pub decreases-load_range : goal.decreases-load_range
decreases-load_range g l = l.to - l.from
