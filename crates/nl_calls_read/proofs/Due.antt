-- What a core answers of which pages were read.
use Rattle.std.proofs.Common.{◌≡◌, ℕ, ◌+◌, ◌-◌, false, min, List, [], length, Option, sym, ap, subst, ◌∙◌, arith}
use Rattle.std.proofs.lemmas.List.{length-map}
use Rattle.nl_field.specs.declared.inode.InodeRec.{InodeRec}
use Rattle.nl_field.specs.declared.inode.Kind.TheVariants.{Dir, File}
use Rattle.nl_field.specs.declared.pointer.Pointer.{Pointer}
use Rattle.nl_field.specs.declared.shape.Shape.{Shape}
use Rattle.nl_flight.specs.Flight.{carried}
use Rattle.nl_iface.specs.Device.{IsVolumeShape}
use Rattle.nl_iface.specs.declared.counts.Counts.{Ghosts}
use Rattle.nl_meta.specs.Committed.{VirtualMap}
use Rattle.nl_meta.specs.Consistent.{PageOfStamp}
use Rattle.nl_meta.specs.Nodes.{entries_of_inode, graph_of, pointers_of_inode}
use Rattle.nl_spec_image.specs.Stands.{bytes_for}
use Rattle.nl_tree.specs.Replay.{Answers}
use Rattle.nl_tree.specs.Step.{step, is_too_long}
use Rattle.nl_tree.specs.Tree.{Tree}
use Rattle.nl_tree.specs.declared.call.Call.TheVariants.{List as ListCall, Read, Stat}
use Rattle.nl_tree.specs.declared.reply.Reply.TheVariants.{File as FileReply}
use Rattle.nl_namespace.specs.Listing.{IsListing, ListsNames}
use Rattle.nl_namespace.specs.PathLaws.{LooksInTree}
use Rattle.nl_namespace.specs.Paths.{Looks}
use Rattle.nl_namespace.specs.declared.answer.Look.TheVariants as look
use Rattle.nl_files.specs.Reading.{AreBytesFrom, byte_at, file_page}
use Rattle.nl_core.specs.Core.{IsCore, running_of}
use Rattle.nl_core.specs.Trees.{CoreRepresentsTree}
use Rattle.nl_core.specs.declared.state.Core.{Core}
use Rattle.nl_calls_files.specs.FileTrees.{held_content}
use Rattle.nl_calls_files.specs.Fits.{IsFileOf}
use Rattle.nl_calls_steps.specs.Steps.{ReadsOn}
use Rattle.nl_calls_files.proofs.Fits.{files_lead, stands}
use Rattle.nl_calls_read.specs.Looking.{IfContent, IfFile, IfNames, IfReplied}
use Rattle.nl_calls_read.specs.Spots.{HasNode, IsOfNode, IsSpot}
use Rattle.nl_calls_read.specs.declared.answer.Looked.{Looked}
use Rattle.nl_calls_read.specs.declared.answer.Spot.{Spot}
use Rattle.nl_calls_read.specs.declared.answer.Spot.TheVariants as spot
use Rattle.nl_calls_read.proofs.Answers.{list-directory, read-file, stat-file}
use Rattle.nl_calls_read.proofs.Bytes.{byte-same}
use Rattle.nl_calls_steps.proofs.ReadCores.{node-back, same-page, same-running, same-shape}
use Rattle.nl_calls_read.proofs.Replies.{from-content, from-file, from-names}
use Rattle.nl_calls_read.proofs.Spotting.{directory-there, file-there}

module _ {D : Type 0} (g : Ghosts D) (u v : Core D) (volume : IsVolumeShape (g.shape u.device)) (on : ReadsOn g u v) where
  pub has-back : (at : Spot) → HasNode g v.device v.meta at → HasNode g u.device u.meta at
  has-back (spot.File n rec) h = (node-back g u v volume on n rec h.0, h.1)
  has-back (spot.Dir n rec) h = (node-back g u v volume on n rec h.0, h.1)
  has-back (spot.No r) h = tt
  has-back (spot.Lost w f) h = tt
  has-back spot.Fault h = tt

-- the spot of the node at the end of a path
pub at-node : {D : Type 0} (g : Ghosts D) (u : Core D) (law : LooksInTree) (page_of_stamp : ℕ → Option PageOfStamp) (tree : Tree) → CoreRepresentsTree g u page_of_stamp tree → (path : List (List ℕ)) → is_too_long path ≡ false
    → (n : ℕ) (at : Spot) → Looks (graph_of (g.shape u.device) (running_of g u)) path (look.At n) → IsOfNode n at → HasNode g u.device u.meta at → IsSpot (g.shape u.device) (running_of g u) page_of_stamp tree path at
at-node g u law page_of_stamp tree runs path short n (spot.File m rec) looks of has =
    file-there (g.shape u.device) (running_of g u) page_of_stamp tree runs.runs path law short m rec (subst (λ (k : ℕ). Looks (graph_of (g.shape u.device) (running_of g u)) path (look.At k)) (sym of) looks) has.0 has.1
at-node g u law page_of_stamp tree runs path short n (spot.Dir m rec) looks of has =
    directory-there (g.shape u.device) (running_of g u) page_of_stamp tree runs.runs path law short m rec (subst (λ (k : ℕ). Looks (graph_of (g.shape u.device) (running_of g u)) path (look.At k)) (sym of) looks) has.0 has.1
at-node g u law page_of_stamp tree runs path short n (spot.No r) looks of has = absurd of
at-node g u law page_of_stamp tree runs path short n (spot.Lost w f) looks of has = tt
at-node g u law page_of_stamp tree runs path short n spot.Fault looks of has = tt

module _ {D : Type 0} (g : Ghosts D) (u v : Core D) (volume : IsVolumeShape (g.shape u.device)) (on : ReadsOn g u v) (tells : g.tells) (page_of_stamp : ℕ → Option PageOfStamp) (tree : Tree)
    (runs : CoreRepresentsTree g u page_of_stamp tree) (path : List (List ℕ)) (n : ℕ) (rec : InodeRec) (answer : Looked) where
  pub stat-due : IsSpot (g.shape u.device) (running_of g u) page_of_stamp tree path (spot.File n rec) → IfFile answer (λ size count. (size ≡ rec.size) × (count ≡ length (pointers_of_inode (running_of g v) rec)))
      → IfReplied answer (λ reply. Answers (step (g.shape u.device) tree (Stat path)) reply [])
  stat-due at file = from-file answer (λ reply. Answers (step (g.shape u.device) tree (Stat path)) reply []) (λ size count. (size ≡ rec.size) × (count ≡ length (pointers_of_inode (running_of g v) rec))) file
      (λ size count q. subst (λ (k : ℕ). Answers (step (g.shape u.device) tree (Stat path)) (FileReply k count) []) (sym q.0)
      (stat-file (g.shape u.device) (running_of g u) page_of_stamp tree runs.runs path (held_content page_of_stamp (running_of g u) rec) count at.0 at.1
      (q.1 ∙ ap (λ (p : VirtualMap). length (pointers_of_inode p rec)) (same-running g u v on tells)
      ∙ sym (length-map (pointers_of_inode (running_of g u) rec) (λ (p : ℕ × Pointer). (p.0, bytes_for page_of_stamp p.1.stamp))))))

  pub list-due : IsSpot (g.shape u.device) (running_of g u) page_of_stamp tree path (spot.Dir n rec) → (text : List ℕ) → IfNames answer (λ count. ListsNames g v.device v.meta n count text)
      → IfReplied answer (λ reply. Answers (step (g.shape u.device) tree (ListCall path)) reply text)
  list-due at text names = from-names answer (λ reply. Answers (step (g.shape u.device) tree (ListCall path)) reply text) (λ count. ListsNames g v.device v.meta n count text) names
      (λ count l. list-directory (g.shape u.device) (running_of g u) page_of_stamp tree runs.runs path n l.rec count text at.0 at.1 at.2 (node-back g u v volume on n l.rec l.is_node) l.is_dir
      (subst (λ (p : VirtualMap). IsListing (graph_of (g.shape u.device) p) (entries_of_inode p l.rec) count text) (same-running g u v on tells)
      (subst (λ (k : Shape). IsListing (graph_of k (running_of g v)) (entries_of_inode (running_of g v) l.rec) count text) (same-shape g u v on) l.lists)))

  pub read-due : IsCore g u → IsFileOf g u.device u.meta n rec → IsSpot (g.shape u.device) (running_of g u) page_of_stamp tree path (spot.File n rec) → (from len : ℕ) (text : List ℕ)
      → IfContent answer (length text ≡ min len (rec.size - from)) → IfContent answer (AreBytesFrom (file_page g v.device (running_of g v) rec) from text)
      → IfReplied answer (λ reply. Answers (step (g.shape u.device) tree (Read path from len)) reply text)
  read-due core is at from len text whole bytes = from-content answer (λ reply. Answers (step (g.shape u.device) tree (Read path from len)) reply text) (length text ≡ min len (rec.size - from))
      (AreBytesFrom (file_page g v.device (running_of g v) rec) from text) whole bytes
      (λ count are. read-file (g.shape u.device) (running_of g u) page_of_stamp tree runs.runs path from len (held_content page_of_stamp (running_of g u) rec) text at.0 at.1 count
      (λ k below. are k (omega (arith, below, count)) ∙ ap (λ (page : ℕ → List ℕ). byte_at page (from + k)) (same-page g u v on tells rec)
      ∙ byte-same g u.device page_of_stamp (running_of g u) n rec (stands g u.device u.meta n rec core.journaled.runs is).file
      (files_lead g u.device u.journal u.meta (carried u.flight) u.freeing.items n rec _ core.journaled.runs core.held is) runs.shows (from + k) (omega (arith, below))))
