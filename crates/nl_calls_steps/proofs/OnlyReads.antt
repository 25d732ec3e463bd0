-- Parts of a call that only read, one after the other.
use Rattle.std.proofs.Common.{◌≡◌, ℕ, List, sym, ap, ◌∙◌}
use Rattle.nl_field.specs.Graph.{Graph}
use Rattle.nl_field.specs.declared.inode.InodeRec.{InodeRec}
use Rattle.nl_field.specs.declared.shape.Shape.{Shape}
use Rattle.nl_tree.specs.Represents.{node_reached}
use Rattle.nl_iface.specs.Device.{IsVolumeShape}
use Rattle.nl_iface.specs.declared.counts.Counts.{Ghosts}
use Rattle.nl_meta.specs.Nodes.{graph_of}
use Rattle.nl_meta.proofs.Lists.{some_in}
use Rattle.nl_meta_running.specs.Running.{IsUsedNode}
use Rattle.nl_meta_running.proofs.GraphStays.{graph-same}
use Rattle.nl_meta_running.proofs.Holds.{bounds-of}
use Rattle.nl_core.specs.Core.{running_of}
use Rattle.nl_core.specs.declared.state.Core.{Core}
use Rattle.nl_calls_files.specs.Fits.{IsFileOf}
use Rattle.nl_calls_steps.specs.Reading.{HasRecordThroughout}
use Rattle.nl_calls_steps.specs.Steps.{ReadsOn}
use Rattle.nl_calls_steps.specs.Finding.{IsSomeFile, nodes_of}
use Rattle.nl_calls_steps.specs.Paging.{ArePageBytes}
use Rattle.nl_calls_steps.proofs.ReadCores.{node-back, node-on, runs-then, same-shape}

-- the record of a node that is a file, as it was opened
pub opened-file : {D : Type 0} (g : Ghosts D) (u v : Core D) (n : ℕ) (rec : InodeRec) → IsSomeFile g u n → HasRecordThroughout g u v n rec → IsFileOf g v.device v.meta n rec
opened-file g u v n rec file opened = record {
  is_node = opened.after;
  is_file = ap (λ (z : InodeRec). z.kind) (some_in rec file.0 (sym opened.before.spelled ∙ file.1.is_node.spelled)) ∙ file.1.is_file;
}

module _ {D : Type 0} (g : Ghosts D) (u v : Core D) (volume : IsVolumeShape (g.shape u.device)) (a : ReadsOn g u v) where
  -- a node that is used still is
  pub still-used : (n : ℕ) → IsUsedNode g u.device u.meta n → IsUsedNode g v.device v.meta n
  still-used n used = (used.0, node-on g u v volume a n used.0 used.1)

  pub file-on : (n : ℕ) (rec : InodeRec) → IsFileOf g u.device u.meta n rec → IsFileOf g v.device v.meta n rec
  file-on n rec is = record { is_node = node-on g u v volume a n rec is.is_node; is_file = is.is_file }

  pub file-back : (n : ℕ) (rec : InodeRec) → IsFileOf g v.device v.meta n rec → IsFileOf g u.device u.meta n rec
  file-back n rec is = record { is_node = node-back g u v volume a n rec is.is_node; is_file = is.is_file }

  pub some-back : (n : ℕ) → IsSomeFile g v n → IsSomeFile g u n
  some-back n is = (is.0, file-back n is.0 is.1)

  pub same-nodes : nodes_of g v ≡ nodes_of g u
  same-nodes = ap (λ (h : Shape). graph_of h (running_of g v)) (same-shape g u v a) ∙ graph-same (g.shape u.device) (bounds-of (g.shape u.device) volume) (running_of g u) (running_of g v) a.runs.needed

  pub page-back : (n index : ℕ) (bytes : List ℕ) → ArePageBytes g v n index bytes → ArePageBytes g u n index bytes
  page-back n index bytes has = λ tells page_of_stamp tree path at reached.
      has tells page_of_stamp tree path (runs-then g u v a tells page_of_stamp tree at) (ap (λ (graph : Graph). node_reached graph 0 path) same-nodes ∙ reached)
