use Rattle.std.proofs.Common.{◌≡◌, find, take, None}
use Rattle.nl_recover.specs.Phases.{is_physical_apart}
use Rattle.nl_recover.proofs.stamps.first_in_files.Given as goal

abbrev pub invariant-loop-at : goal.invariant-loop-at
invariant-loop-at l = find (is_physical_apart l.shape) (take l.at l.scan.seen) ≡ None
