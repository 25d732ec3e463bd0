use Rattle.std.proofs.Common.{◌≡◌, ◌≤◌, ◌-◌, length, take}
use Rattle.std.specs.List.{AllByRecursion}
use Rattle.nl_field.specs.Numbers.{max_bytes}
use Rattle.nl_cmd_put.specs.Phases.{joined}
use Rattle.nl_cmd_put.proofs.cutting.cut.Given as goal

abbrev pub invariant-cut : goal.invariant-cut
invariant-cut l = record {
  so_far : joined l.pieces.items ≡ take l.from l.bytes;
  each : AllByRecursion (λ piece. length piece ≤ max_bytes) l.pieces.items;
  few : length l.pieces.items ≤ l.from;
  within : l.from ≤ length l.bytes;
}

abbrev pub decreases-cut : goal.decreases-cut
decreases-cut l = length l.bytes - l.from
