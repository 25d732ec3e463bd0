-- What is known of a core and its files after a part of a call: paths lead where they led, a file is one of its generation, files have as
-- many pages.
use Rattle.std.proofs.Common.{◌≡◌, ◌⊎◌, inl, inr, ℕ, Bool, true, false, List, [], ◌∷◌, length, option_and_then, Option, Some, None, refl, sym, ap, subst, ◌∙◌}
use Rattle.std.proofs.lemmas.Bool.{false≢true}
use Rattle.nl_field.specs.Graph.{Graph, GraphNode, NodeBody, directory_node, file_node, unused}
use Rattle.nl_field.specs.declared.inode.InodeRec.{InodeRec}
use Rattle.nl_field.specs.declared.inode.Kind.{Kind}
use Rattle.nl_field.specs.declared.inode.Kind.TheVariants.{Dir, File, Unused}
use Rattle.nl_field.specs.declared.shape.Shape.{Shape}
use Rattle.nl_tree.specs.Represents.{entries_in, node_named, node_reached}
use Rattle.nl_core_callbacks.specs.Handled.{SameButNames, nameless_body, nameless_line}
use Rattle.nl_flight.specs.Flight.{InFlight, of_worker}
use Rattle.nl_iface.specs.declared.counts.Counts.{Ghosts}
use Rattle.nl_meta.specs.Committed.{VirtualMap}
use Rattle.nl_meta.specs.Consistent.{IsNode}
use Rattle.nl_meta.specs.Nodes.{body_of, graph_of}
use Rattle.nl_meta.specs.PointerLists.{tagged_in}
use Rattle.nl_spec_image.proofs.GraphOfPages.{NodeOf, node_is, node_or_none}
use Rattle.nl_core.specs.Core.{running_of}
use Rattle.nl_core.specs.Goes.{PreservesVolume}
use Rattle.nl_core.specs.declared.state.Core.{Core}
use Rattle.nl_core.proofs.Renamed.{as_many}
use Rattle.nl_calls_steps.specs.Calls.{HasPagesOfFiles, OtherLinesStay}
use Rattle.nl_calls_steps.specs.Finding.{IsOfGeneration, IsSomeFile, nodes_of}

-- ---- paths

entries_seen : (body : NodeBody) → entries_in (nameless_body body) ≡ entries_in body
entries_seen unused = refl
entries_seen (directory_node entries) = refl
entries_seen (file_node size pointers) = refl

module _ (old new : Graph) (same : SameButNames old new) where
  entries_stay : (k : ℕ) → entries_in (new k).body ≡ entries_in (old k).body
  entries_stay k = sym (entries_seen (new k).body) ∙ ap entries_in (same.body k) ∙ entries_seen (old k).body

  pub reached_stays : (path : List (List ℕ)) (n : ℕ) → node_reached new n path ≡ node_reached old n path
  unfolding node_reached
  reached_stays [] n = refl
  reached_stays (name ∷ path) n = ap (λ (es : List (List ℕ × ℕ)). option_and_then (λ m. node_reached new m path) (node_named name es)) (entries_stay n) ∙ by (node_named name (entries_in (old n).body)) (reached_stays path)
    where
      by : (o : Option ℕ) → ((m : ℕ) → node_reached new m path ≡ node_reached old m path) → option_and_then (λ m. node_reached new m path) o ≡ option_and_then (λ m. node_reached old m path) o
      by None rest = refl
      by (Some m) rest = rest m

-- ---- files

abbrev is_file_body : NodeBody → Bool
is_file_body unused = false
is_file_body (directory_node entries) = false
is_file_body (file_node size pointers) = true

body_seen : (body : NodeBody) → is_file_body (nameless_body body) ≡ is_file_body body
body_seen unused = refl
body_seen (directory_node entries) = refl
body_seen (file_node size pointers) = refl

-- a file is one under other names of its pages, of the same generation
module _ (s t : Shape) (old new : VirtualMap) (same : SameButNames (graph_of s old) (graph_of t new)) (n : ℕ) (rec : InodeRec) (is : IsNode s old n rec) (is_file : rec.kind ≡ File) where
  is_still : is_file_body (graph_of t new n).body ≡ true
  is_still =
      sym (body_seen (graph_of t new n).body) ∙ ap is_file_body (same.body n) ∙ body_seen (graph_of s old n).body
      ∙ ap (λ (x : GraphNode). is_file_body x.body) (node_is s old n rec is) ∙ ap (λ (k : Kind). is_file_body (body_of old rec k)) is_file

  pub file_stays : (now : InodeRec) × IsNode t new n now × (now.kind ≡ File) × (now.generation ≡ rec.generation)
  file_stays = by (node_or_none t new n)
    where
      kinds : (now : InodeRec) → IsNode t new n now → (k : Kind) → now.kind ≡ k → now.kind ≡ File
      kinds now at Unused e = absurd (at.used e)
      kinds now at File e = e
      kinds now at Dir e =
          absurd (let off : false ≡ true = sym (ap (λ (k : Kind). is_file_body (body_of new now k)) e) ∙ sym (ap (λ (x : GraphNode). is_file_body x.body) (node_is t new n now at)) ∙ is_still in false≢true off)

      by : NodeOf t new n ⊎ ((graph_of t new n).body ≡ unused) → (now : InodeRec) × IsNode t new n now × (now.kind ≡ File) × (now.generation ≡ rec.generation)
      by (inl h) = (
        h.rec,
        h.is,
        kinds h.rec h.is h.rec.kind refl,
        sym (ap (λ (x : GraphNode). x.generation) (node_is t new n h.rec h.is)) ∙ same.generation n ∙ ap (λ (x : GraphNode). x.generation) (node_is s old n rec is),
      )
      by (inr none) = absurd (false≢true (sym (ap is_file_body none) ∙ is_still))

-- ---- a core that goes on

module _ {D : Type 0} (g : Ghosts D) (m : ℕ) (u v : Core D) (a : PreservesVolume g m u v) where
  pub leads_on : (path : List (List ℕ)) (n : ℕ) → node_reached (nodes_of g u) 0 path ≡ Some n → node_reached (nodes_of g v) 0 path ≡ Some n
  leads_on path n e = reached_stays (nodes_of g u) (nodes_of g v) a.nodes path 0 ∙ e

  pub generation_on : (n generation : ℕ) → IsOfGeneration g u n generation → IsOfGeneration g v n generation
  generation_on n generation f =
      let k = file_stays (g.shape u.device) (g.shape v.device) (running_of g u) (running_of g v) a.nodes n f.0 f.1.is_node f.1.is_file in
      (k.0, record { is_node = k.1; is_file = k.2 }, k.3 ∙ f.2)

  pub file_on : (n : ℕ) → IsSomeFile g u n → IsSomeFile g v n
  file_on n f = let k = generation_on n f.0.generation (f.0, f.1, refl) in (k.0, k.1)

  pub files_on : (files : ℕ) → HasPagesOfFiles g u files → HasPagesOfFiles g v files
  files_on files e =
      e ∙ sym (as_many (g.shape u.device) (running_of g u) (running_of g v) (subst (λ (h : Shape). SameButNames (nodes_of g u) (graph_of h (running_of g v))) a.same_shape a.nodes))
      ∙ ap (λ (h : Shape). length (tagged_in h (running_of g v))) (sym a.same_shape)

-- ---- lines of others

pub others_none : (worker : ℕ) (a : List InFlight) → OtherLinesStay worker a a
others_none worker a = λ w far. refl

pub others_same : (worker : ℕ) (a b : List InFlight) → b ≡ a → OtherLinesStay worker a b
others_same worker a b e = λ w far. ap (λ (xs : List InFlight). nameless_line (of_worker xs w)) e

pub others_then : (worker : ℕ) (a b c : List InFlight) → OtherLinesStay worker a b → OtherLinesStay worker b c → OtherLinesStay worker a c
others_then worker a b c f h = λ w far. h w far ∙ f w far
