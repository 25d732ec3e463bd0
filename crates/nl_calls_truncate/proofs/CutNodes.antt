-- A file under other names of its pages has its size, its generation, and pages where it had some.
use Rattle.std.proofs.Common.{◌≡◌, ◌⊎◌, inl, inr, ℕ, Bool, true, false, cond, List, [], ◌∷◌, map, is_none, refl, sym, ap, ◌∙◌, Option, Some, None}
use Rattle.std.specs.FinMap.{find}
use Rattle.std.specs.Ordering.{nat_cmp}
use Rattle.nl_field.specs.Graph.{GraphNode, NodeBody, file_node, unused}
use Rattle.nl_field.specs.Pointers.{is_none_pointer}
use Rattle.nl_field.specs.declared.inode.InodeRec.{InodeRec}
use Rattle.nl_field.specs.declared.inode.Kind.{Kind}
use Rattle.nl_field.specs.declared.inode.Kind.TheVariants.{Dir, File, Unused}
use Rattle.nl_field.specs.declared.pointer.Pointer.{Pointer}
use Rattle.nl_field.specs.declared.shape.Shape.{Shape}
use Rattle.nl_tree.specs.Represents.{node_reached}
use Rattle.nl_core_callbacks.specs.Handled.{SameButNames, nameless, nameless_body}
use Rattle.nl_iface.specs.declared.counts.Counts.{Ghosts}
use Rattle.nl_indirect.specs.Ranges.{IsFileRecord}
use Rattle.nl_meta.specs.Committed.{VirtualMap}
use Rattle.nl_meta.specs.Consistent.{IsNode}
use Rattle.nl_meta.specs.Nodes.{body_of, graph_of, pointer_at, pointers_in, pointers_of_inode, size_of}
use Rattle.nl_files.proofs.ContentFacts.{pages_by_pointers}
use Rattle.nl_spec_image.proofs.GraphOfPages.{NodeOf, node_is, node_or_none}
use Rattle.nl_core.specs.Core.{IsCore, running_of}
use Rattle.nl_core.specs.Goes.{PreservesVolume}
use Rattle.nl_core.specs.declared.state.Core.{Core}
use Rattle.nl_calls_files.specs.Fits.{IsFileOf}
use Rattle.nl_calls_files.proofs.Fits.{stands}
use Rattle.nl_calls_steps.specs.Finding.{nodes_of}
use Rattle.nl_calls_steps.proofs.Going.{reached_stays}

-- ---- one file

abbrev bare : ℕ × Pointer → ℕ × Pointer
bare p = (p.0, nameless p.1)

abbrev nothing : ℕ → List ℕ
nothing stamp = []

abbrev shown : ℕ × Pointer → ℕ × List ℕ
shown p = (p.0, nothing p.1.stamp)

shown_bare : (ps : List (ℕ × Pointer)) → map shown (map bare ps) ≡ map shown ps
shown_bare [] = refl
shown_bare (p ∷ ps) = ap (λ (qs : List (ℕ × List ℕ)). shown p ∷ qs) (shown_bare ps)

-- whether an index has a page, by the pointers without their names
by_bare : (pages : VirtualMap) (rec : InodeRec) → IsFileRecord rec → (i : ℕ) → is_none (find nat_cmp i (map shown (map bare (pointers_of_inode pages rec)))) ≡ is_none_pointer (pointer_at pages rec i)
by_bare pages rec good i =
    ap (λ (ps : List (ℕ × List ℕ)). is_none (find nat_cmp i ps)) (shown_bare (pointers_of_inode pages rec))
    ∙ ap (λ (o : Option (List ℕ)). is_none o) (pages_by_pointers nothing pages rec good i) ∙ test (is_none_pointer (pointer_at pages rec i))
  where
    test : (b : Bool) → is_none (cond {A = Option (List ℕ)} b None (Some [])) ≡ b
    test true = refl
    test false = refl

-- the file on the other side
record IsSame (shape : Shape) (old new : VirtualMap) (n : ℕ) (was : InodeRec) : Type 0 where
  rec : InodeRec
  is_node : IsNode shape new n rec
  is_file : rec.kind ≡ File
  generation : rec.generation ≡ was.generation
  size : rec.size ≡ was.size
  seen : map bare (pointers_of_inode new rec) ≡ map bare (pointers_of_inode old was)

module _ (shape shape_ : Shape) (old new : VirtualMap) (same : SameButNames (graph_of shape old) (graph_of shape_ new)) (n : ℕ) (was : InodeRec) (is : IsNode shape old n was) (is_file : was.kind ≡ File) where
  node_was : graph_of shape old n ≡ record { generation = was.generation; body = file_node was.size (pointers_of_inode old was) }
  node_was = node_is shape old n was is ∙ ap (λ (k : Kind). record { generation = was.generation; body = body_of old was k }) is_file

  seen_was : nameless_body (graph_of shape_ new n).body ≡ file_node was.size (map bare (pointers_of_inode old was))
  seen_was = same.body n ∙ ap (λ (x : GraphNode). nameless_body x.body) node_was

  no_file : (b : NodeBody) → (graph_of shape_ new n).body ≡ b → nameless_body b ≡ file_node was.size (map bare (pointers_of_inode old was))
  no_file b e = sym (ap nameless_body e) ∙ seen_was

  of_kind : (rec : InodeRec) → IsNode shape_ new n rec → (k : Kind) → rec.kind ≡ k → IsSame shape_ old new n was
  of_kind rec node Unused e = absurd (node.used e)
  of_kind rec node Dir e =
      let body = ap (λ (x : GraphNode). x.body) (node_is shape_ new n rec node) ∙ ap (body_of new rec) e in
      absurd (cc (no_file _ body))
  of_kind rec node File e =
      let here = node_is shape_ new n rec node ∙ ap (λ (k : Kind). record { generation = rec.generation; body = body_of new rec k }) e in
      let seen = no_file _ (ap (λ (x : GraphNode). x.body) here) in
      record {
        rec = rec;
        is_node = node;
        is_file = e;
        generation = sym (ap (λ (x : GraphNode). x.generation) here) ∙ same.generation n ∙ ap (λ (x : GraphNode). x.generation) node_was;
        size = ap size_of seen;
        seen = ap pointers_in seen;
      }

  is_same : IsSame shape_ old new n was
  is_same = by (node_or_none shape_ new n)
    where
      by : NodeOf shape_ new n ⊎ ((graph_of shape_ new n).body ≡ unused) → IsSame shape_ old new n was
      by (inl h) = of_kind h.rec h.is h.rec.kind refl
      by (inr none) = absurd (cc (no_file unused none))

-- ---- of cores

-- The node is a file then too, of the same generation and size, and has pages at the same indexes.
pub record FileGoes {D : Type 0} (g : Ghosts D) (u v : Core D) (n : ℕ) (was : InodeRec) : Type 0 where
  pub rec : InodeRec
  pub file : IsFileOf g v.device v.meta n rec
  pub generation : rec.generation ≡ was.generation
  pub size : rec.size ≡ was.size
  pub holes : (i : ℕ) → is_none_pointer (pointer_at (running_of g v) rec i) ≡ is_none_pointer (pointer_at (running_of g u) was i)

module _ {D : Type 0} (g : Ghosts D) (m : ℕ) (u v : Core D) (a : PreservesVolume g m u v) where
  pub leads_back : (path : List (List ℕ)) (n : ℕ) → node_reached (nodes_of g v) 0 path ≡ Some n → node_reached (nodes_of g u) 0 path ≡ Some n
  leads_back path n e = sym (reached_stays (nodes_of g u) (nodes_of g v) a.nodes path 0) ∙ e

  module _ (core : IsCore g u) (core_v : IsCore g v) where
    pub file_goes : (n : ℕ) (was : InodeRec) → IsFileOf g u.device u.meta n was → FileGoes g u v n was
    file_goes n was is =
        let s = is_same (g.shape u.device) (g.shape v.device) (running_of g u) (running_of g v) a.nodes n was is.is_node is.is_file in
        let file : IsFileOf g v.device v.meta n s.rec = record { is_node = s.is_node; is_file = s.is_file } in
        record {
          rec = s.rec;
          file = file;
          generation = s.generation;
          size = s.size;
          holes = λ i.
              sym (by_bare (running_of g v) s.rec (stands g v.device v.meta n s.rec core_v.journaled.runs file).file i)
              ∙ ap (λ (ps : List (ℕ × Pointer)). is_none (find nat_cmp i (map shown ps))) s.seen
              ∙ by_bare (running_of g u) was (stands g u.device u.meta n was core.journaled.runs is).file i;
        }
