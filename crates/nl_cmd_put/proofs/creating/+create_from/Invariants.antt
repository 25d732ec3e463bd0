use Rattle.std.proofs.Common.{◌-◌}
use Rattle.nl_cmd_put.proofs.creating.+create_from.Given as goal

abbrev pub decreases-create_from : goal.decreases-create_from
decreases-create_from g l = 1026 - l.at
