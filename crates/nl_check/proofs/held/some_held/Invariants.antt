use Rattle.std.proofs.Common.{◌≡◌, ◌+◌, ◌≤◌, ◌++◌, length}
use Rattle.nl_meta.specs.Pages.{page_of}
use Rattle.nl_recover.specs.Held.{held_from}
use Rattle.nl_check.proofs.held.some_held.Given as goal

abbrev pub invariant-loop-i : goal.invariant-loop-i
invariant-loop-i l = record {
  held : l.held ≡ l.initial.held ++ held_from (page_of l.meta) l.ino l.rec l.from l.i;
  longer : length l.held ≤ length l.initial.held + l.i;
}
