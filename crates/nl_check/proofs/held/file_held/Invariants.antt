use Rattle.std.proofs.Common.{◌≡◌, ◌+◌, ◌*◌, ◌≤◌, ◌++◌, length}
use Rattle.nl_meta.specs.Pages.{page_of}
use Rattle.nl_recover.specs.Held.{held_from}
use Rattle.nl_check.proofs.held.file_held.Given as goal

abbrev pub invariant-loop-range : goal.invariant-loop-range
invariant-loop-range l = record {
  held : l.held ≡ l.fn.held ++ held_from (page_of l.meta) l.ino l.rec 0 (8 + 256 * l.range);
  longer : length l.held ≤ length l.fn.held + (8 + 256 * l.range);
}
