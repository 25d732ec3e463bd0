-- What stays where a call leaves a volume as it was.
use Rattle.std.specs.Prelude.{◌≡◌, ℕ}
use Rattle.nl_field.specs.declared.inode.InodeRec.{InodeRec}
use Rattle.nl_iface.specs.Device.{IsVolumeShape}
use Rattle.nl_iface.specs.declared.counts.Counts.{Ghosts}
use Rattle.nl_meta.specs.Nodes.{graph_of}
use Rattle.nl_meta.specs.Pages.{Pages}
use Rattle.nl_meta_running.specs.Running.{IsNodeOf, RunningIsRight, PreservesRunning, running_on}

pub record StaysRightRunning {D : Type 0} (g : Ghosts D) (s : D) (p : Pages) (t : D) (q : Pages) : Type 0 where
  pub runs : RunningIsRight g s p → RunningIsRight g t q
  pub nodes : (n : ℕ) (rec : InodeRec) → IsNodeOf g s p n rec → IsNodeOf g t q n rec
  -- the nodes stand for the tree that they stood for
  pub graph : graph_of (g.shape t) (running_on g t q) ≡ graph_of (g.shape s) (running_on g s p)
  -- one call after the other leaves the volume as it was
  pub after : (u : D) (r : Pages) → PreservesRunning g t q u r → PreservesRunning g s p u r

abbrev pub RunningStaysRight : {D : Type 0} → Ghosts D → Type 0
RunningStaysRight {D} g = (s : D) (p : Pages) (t : D) (q : Pages) → IsVolumeShape (g.shape s) → PreservesRunning g s p t q → StaysRightRunning g s p t q
