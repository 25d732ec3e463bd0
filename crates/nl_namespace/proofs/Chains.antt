-- One reading call after the other.
use Rattle.std.proofs.Common.{◌≡◌, ℕ, sym, ap, subst, ◌∙◌, Option, Some, None}
use Rattle.std.specs.Prelude.{⊤}
use Rattle.nl_iface.specs.Counting.{FailuresCounted}
use Rattle.nl_iface.specs.Device.{IsVolumeShape}
use Rattle.nl_iface.specs.declared.counts.Counts.{Ghosts}
use Rattle.nl_field.specs.declared.inode.InodeRec.{InodeRec}
use Rattle.nl_field.specs.declared.shape.Shape.{Shape}
use Rattle.nl_meta.specs.Nodes.{graph_of}
use Rattle.nl_meta.specs.Pages.{Pages}
use Rattle.nl_meta_running.specs.Reading.{ReadsExplainStop}
use Rattle.nl_meta_running.specs.Running.{IsNodeOf, IsUsedNode, RunningIsRight, PreservesRunning, running_on}
use Rattle.nl_meta_running.specs.declared.answer.Stop.{Stop}
use Rattle.nl_meta_running.specs.declared.answer.Stop.TheVariants as stop
use Rattle.nl_meta_running.proofs.GraphStays.{graph-same}
use Rattle.nl_meta_running.proofs.Holds.{bounds-of}
use Rattle.nl_meta_running.proofs.Kept.{kept-then, runs-then, used-back, used-on}

module _ {D : Type 0} (g : Ghosts D) (s : D) (p : Pages) (t : D) (q : Pages) (shape : IsVolumeShape (g.shape s)) (on : PreservesRunning g s p t q) where
  pub then-runs : RunningIsRight g s p → RunningIsRight g t q
  then-runs runs = runs-then g s p t q (bounds-of (g.shape s) shape) on runs

  pub then-on : (u : D) (r : Pages) → PreservesRunning g t q u r → PreservesRunning g s p u r
  then-on u r next = kept-then g s p t q (bounds-of (g.shape s) shape) on u r next

  pub then-node : (n : ℕ) (rec : InodeRec) → IsNodeOf g s p n rec → IsNodeOf g t q n rec
  then-node n rec is = used-on g s p t q (bounds-of (g.shape s) shape) on n rec is

  pub then-used : (n : ℕ) → IsUsedNode g s p n → IsUsedNode g t q n
  then-used n u = (u.0, then-node n u.0 u.1)

  pub then-graph : graph_of (g.shape t) (running_on g t q) ≡ graph_of (g.shape s) (running_on g s p)
  then-graph =
      ap (λ (n : Shape). graph_of n (running_on g t q)) on.reads.medium.virtual.same_shape
      ∙ graph-same (g.shape s) (bounds-of (g.shape s) shape) (running_on g s p) (running_on g t q) on.needed

  pub node-before : (n : ℕ) (rec : InodeRec) → IsNodeOf g t q n rec → IsNodeOf g s p n rec
  node-before n rec is = used-back g s p t q (bounds-of (g.shape s) shape) on n rec is

  pub then-reads : (u : D) (o : Option Stop) → g.read_faults t ≡ g.read_faults s → ReadsExplainStop g t u o → ReadsExplainStop g s u o
  then-reads u None same r = r ∙ same
  then-reads u (Some stop.Fault) same r = subst (λ (n : ℕ). FailuresCounted ⊤ n (g.read_faults u) ⊤) same r
  then-reads u (Some (stop.Lost w f)) same r = (r.0 ∙ same, (r.1.0, sym (on.reads.medium.virtual.same_stamps r.1.0) ∙ r.1.1), r.2, r.3)
