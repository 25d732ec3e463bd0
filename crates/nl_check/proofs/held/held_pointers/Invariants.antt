use Rattle.std.proofs.Common.{◌≡◌, ◌*◌, ◌≤◌, length}
use Rattle.nl_meta.specs.Pages.{page_of}
use Rattle.nl_recover.specs.Held.{pointers_at_node}
use Rattle.nl_recover.proofs.Scans.{upto}
use Rattle.nl_check.proofs.held.held_pointers.Given as goal

abbrev pub invariant-loop-ino : goal.invariant-loop-ino
invariant-loop-ino l = record {
  held : l.held ≡ upto (pointers_at_node (page_of l.meta)) l.ino;
  longer : length l.held ≤ 4104 * l.ino;
}
