-- The file of the page that is staged is that to which the path of the call leads.
use Rattle.std.proofs.Common.{◌≡◌, ℕ, List, Some, sym, ap, ◌∙◌}
use Rattle.nl_field.specs.Graph.{Graph, GraphNode}
use Rattle.nl_field.specs.declared.inode.InodeRec.{InodeRec}
use Rattle.nl_field.specs.declared.pointer.Tag.{Tag}
use Rattle.nl_tree.specs.Represents.{node_reached}
use Rattle.nl_iface.specs.Device.{IsVolumeShape}
use Rattle.nl_iface.specs.declared.counts.Counts.{Ghosts}
use Rattle.nl_meta_running.specs.Running.{IsNodeOf}
use Rattle.nl_spec_image.proofs.GraphOfPages.{node_is}
use Rattle.nl_core.specs.Core.{running_of}
use Rattle.nl_core.specs.Goes.{PreservesVolume}
use Rattle.nl_core.specs.declared.state.Core.{Core}
use Rattle.nl_calls_steps.specs.Finding.{nodes_of}
use Rattle.nl_calls_steps.specs.Steps.{ReadsOn}
use Rattle.nl_calls_steps.proofs.Going.{reached_stays}
use Rattle.nl_calls_steps.proofs.OnlyReads.{same-nodes}
use Rattle.nl_volume_stage.specs.StagedPages.{IsTagOfNode, IsTagOfPath}
use Rattle.nl_volume_stage.specs.Staging.{IfPage}
use Rattle.nl_volume_stage.specs.declared.next.Next.{Next}
use Rattle.nl_volume_stage.specs.declared.next.Next.TheVariants as next

-- the record of a node has its generation
pub generation_of : {D : Type 0} (g : Ghosts D) (v : Core D) (n : ℕ) (rec : InodeRec) → IsNodeOf g v.device v.meta n rec → rec.generation ≡ (nodes_of g v n).generation
generation_of g v n rec is = sym (ap (λ (x : GraphNode). x.generation) (node_is (g.shape v.device) (running_of g v) n rec is))

-- a page of the node to which a path led before it was read
pub own_page : {D : Type 0} (g : Ghosts D) (u v : Core D) (path : List (List ℕ)) → IsVolumeShape (g.shape u.device) → ReadsOn g u v → (n : ℕ) → node_reached (nodes_of g u) 0 path ≡ Some n → (answer : Next) → IfPage answer (IsTagOfNode g v n) → IfPage answer (IsTagOfPath g u path)
own_page g u v path volume on n leads (next.Page tag) is =
    (n, leads, record { ino = is.ino; generation = is.generation ∙ ap (λ (x : Graph). (x n).generation) (same-nodes g u v volume on) })
own_page g u v path volume on n leads next.Whole is = is
own_page g u v path volume on n leads (next.Lost w f) is = is
own_page g u v path volume on n leads next.Fault is = is

-- the path led there before the core went on, too
pub own_before : {D : Type 0} (g : Ghosts D) (m : ℕ) (u v : Core D) → PreservesVolume g m u v → (path : List (List ℕ)) (tag : Tag) → IsTagOfPath g v path tag → IsTagOfPath g u path tag
own_before g m u v goes path tag own = (
  own.0,
  sym (reached_stays (nodes_of g u) (nodes_of g v) goes.nodes path 0) ∙ own.1,
  record { ino = own.2.ino; generation = own.2.generation ∙ goes.nodes.generation own.0 },
)
