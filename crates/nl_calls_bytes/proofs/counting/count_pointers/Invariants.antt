use Rattle.std.proofs.Common.{◌≡◌, ◌≤◌, ◌-◌}
use Rattle.std.specs.List.{range_with_len}
use Rattle.nl_meta.specs.Committed.{VirtualMap}
use Rattle.nl_meta.specs.Running.{running_over}
use Rattle.nl_calls_bytes.proofs.counting.count_pointers.Given as goal
use Rattle.nl_calls_files.specs.LineNeeds.{new_pointers}

abbrev pub invariant-indexes : goal.invariant-indexes
invariant-indexes l = record {
  from : l.first ≤ l.index;
  few : l.none ≤ l.index - l.first;
  counted : (device : VirtualMap) → l.none ≡ new_pointers (running_over device l.meta) l.rec (range_with_len l.first (l.index - l.first));
}
