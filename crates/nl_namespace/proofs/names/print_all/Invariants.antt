use Rattle.std.proofs.Common.{◌≡◌, ◌*◌, ◌≤◌, length, take}
use Rattle.nl_meta.specs.Nodes.{entries_of_inode}
use Rattle.nl_namespace.specs.Listing.{text_of}
use Rattle.nl_namespace.specs.Sorting.{entries_at}
use Rattle.nl_meta_running.specs.Running.{PreservesRunning, running_on}
use Rattle.nl_namespace.proofs.Graphs.{graph}
use Rattle.nl_namespace.proofs.names.print_all.Given as goal

abbrev pub invariant-loop-i : goal.invariant-loop-i
invariant-loop-i g l = record {
  formed : g.D.Counts.formed l.device;
  kept : PreservesRunning g.D.Counts l.initial.device l.initial.meta l.device l.meta;
  faults : g.D.Counts.read_faults l.device ≡ g.D.Counts.read_faults l.initial.device;
  short : length l.out ≤ 57 * l.i;
  printed : l.out ≡ text_of (graph g.D.Counts l.initial.device l.initial.meta) (entries_at (entries_of_inode (running_on g.D.Counts l.initial.device l.initial.meta) l.rec) (take l.i l.order.items));
}
