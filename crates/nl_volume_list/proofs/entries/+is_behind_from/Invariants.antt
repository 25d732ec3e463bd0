use Rattle.std.proofs.Common.{◌-◌, length}
use Rattle.nl_volume_list.proofs.entries.+is_behind_from.Given as goal

abbrev pub decreases-is_behind_from : goal.decreases-is_behind_from
decreases-is_behind_from l = length l.after.now - l.at
