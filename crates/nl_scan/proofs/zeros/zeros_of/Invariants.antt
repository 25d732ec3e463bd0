use Rattle.std.proofs.Common.{◌≡◌, ◌≤◌, take, length}
use Rattle.nl_field.specs.Scan.{zeros_from}
use Rattle.nl_scan.proofs.zeros.zeros_of.Given as goal

-- the bytes from there on are zero
abbrev pub invariant-loop-end : goal.invariant-loop-end
invariant-loop-end l =
    record {
      within : l.end ≤ length l.bytes;
      same : zeros_from (take l.end l.bytes) ≡ zeros_from l.bytes;
    }

abbrev pub decreases-loop-end : goal.decreases-loop-end
decreases-loop-end l = l.end
