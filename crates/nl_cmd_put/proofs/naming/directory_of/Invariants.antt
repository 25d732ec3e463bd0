use Rattle.std.proofs.Common.{◌≡◌, take}
use Rattle.nl_cmd_put.proofs.naming.directory_of.Given as goal

abbrev pub invariant-loop-at : goal.invariant-loop-at
invariant-loop-at l = l.above ≡ take l.at l.path
