use Rattle.std.proofs.Common.{◌≡◌, drop, take, Some}
use Rattle.nl_tree.specs.Represents.{node_reached}
use Rattle.nl_namespace.specs.Paths.{walk_refusal}
use Rattle.nl_meta_running.specs.Running.{IsUsedNode, PreservesRunning}
use Rattle.nl_namespace.proofs.Graphs.{graph}
use Rattle.nl_namespace.proofs.place.walk_to_parent.Given as goal

abbrev pub invariant-loop-i : goal.invariant-loop-i
invariant-loop-i g l = record {
  formed : g.D.Counts.formed l.device;
  kept : PreservesRunning g.D.Counts l.initial.device l.initial.meta l.device l.meta;
  faults : g.D.Counts.read_faults l.device ≡ g.D.Counts.read_faults l.initial.device;
  used : IsUsedNode g.D.Counts l.initial.device l.initial.meta l.at;
  led : node_reached (graph g.D.Counts l.initial.device l.initial.meta) 0 (take l.i l.path) ≡ Some l.at;
  refused : walk_refusal (graph g.D.Counts l.initial.device l.initial.meta) 0 l.path ≡ walk_refusal (graph g.D.Counts l.initial.device l.initial.meta) l.at (drop l.i l.path);
}
