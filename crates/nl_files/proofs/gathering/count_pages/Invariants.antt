use Rattle.std.proofs.Common.{◌≡◌, ◌≤◌, ◌*◌, ◌-◌, length}
use Rattle.nl_files.specs.Spans.{pointers_of_span}
use Rattle.nl_files.specs.Standing.{LoadsOwn, running_map}
use Rattle.nl_files.proofs.Progress.{HasRead}
use Rattle.nl_files.proofs.gathering.count_pages.Given as goal

abbrev pub invariant-loop-range : goal.invariant-loop-range
invariant-loop-range g l =
    HasRead g.D.Counts l.initial.device l.device l.initial.meta l.meta
    × (l.count ≡ length (pointers_of_span (running_map g.D.Counts l.initial.device l.initial.meta) l.rec 0 (256 * l.range - 248)))
    × (l.count ≤ 256 * l.range)
    × LoadsOwn l.rec l.initial.meta l.meta
