use Rattle.std.proofs.Common.{◌≡◌, ◌≤◌, length, take}
use Rattle.nl_meta.specs.Nodes.{graph_of}
use Rattle.nl_meta_running.specs.Running.{PreservesRunning, running_on}
use Rattle.nl_volume_list.specs.Onward.{NoneUnder}
use Rattle.nl_volume_list.proofs.places.place_beside.Given as goal

abbrev pub decreases-loop-kept : goal.decreases-loop-kept
decreases-loop-kept g l = l.kept

abbrev pub invariant-loop-kept : goal.invariant-loop-kept
invariant-loop-kept g l = record {
  formed : g.D.Counts.formed l.device;
  kept : PreservesRunning g.D.Counts l.initial.device l.initial.meta l.device l.meta;
  faults : g.D.Counts.read_faults l.device ≡ g.D.Counts.read_faults l.initial.device;
  few : l.kept ≤ length l.walk.path;
  under : NoneUnder (graph_of (g.D.Counts.shape l.initial.device) (running_on g.D.Counts l.initial.device l.initial.meta)) l.walk.path (take l.kept l.walk.path);
}
