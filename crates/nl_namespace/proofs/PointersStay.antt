-- The pointers of all files stay as names change.
use Rattle.std.proofs.Common.{◌≡◌, ℕ, zero, suc, ◌+◌, ◌<◌, List, [], ◌∷◌, ◌++◌, map, flat_map, Option, Some, None, nat_lt, refl, sym, ap, ◌∙◌}
use Rattle.std.proofs.lemmas.Bool.{cond-true, lt-ltb}
use Rattle.std.specs.List.{range_with_len}
use Rattle.nl_field.specs.Graph.{GraphNode, NodeBody, directory_node, file_node, unused}
use Rattle.nl_field.specs.declared.inode.InodeRec.{InodeRec}
use Rattle.nl_field.specs.declared.inode.Kind.{Kind}
use Rattle.nl_field.specs.declared.inode.Kind.TheVariants.{Dir, File, Unused}
use Rattle.nl_field.specs.declared.pointer.Pointer.{Pointer}
use Rattle.nl_field.specs.declared.shape.Shape.{Shape}
use Rattle.nl_iface.specs.Device.{IsVolumeShape}
use Rattle.nl_iface.specs.declared.counts.Counts.{Ghosts}
use Rattle.nl_meta.specs.Committed.{VirtualMap}
use Rattle.nl_meta.specs.Consistent.{IsNode}
use Rattle.nl_meta.specs.Nodes.{Held, body_of, graph_of, held_by, inode_at, node_from, pointers_in, pointers_of, size_of}
use Rattle.nl_meta.specs.Pages.{Pages}
use Rattle.nl_meta.specs.PointerLists.{tagged_in, with_tag}
use Rattle.nl_tree.specs.Represents.{node_of}
use Rattle.nl_tree.specs.Tree.{Node, directory, file}
use Rattle.nl_meta_running.specs.Running.{PreservesRunning, running_on}
use Rattle.nl_namespace.specs.Making.{empty_node}
use Rattle.nl_namespace.proofs.Chains.{then-graph}

-- ---- one node

none-mapped : {X Y : Type 0} (f : X → Y) (xs : List X) → map f xs ≡ [] → xs ≡ []
none-mapped f [] e = refl
none-mapped f (x ∷ xs) e = absurd (no e)
  where
    no : f x ∷ map f xs ≡ [] → ⊥
    no e = cc

-- the pages of a node of the tree
abbrev pub pages-of : Option Node → List (ℕ × List ℕ)
pages-of None = []
pages-of (Some directory) = []
pages-of (Some (file content)) = content.pages

pub no-page : (kind : Kind) → pages-of (Some (empty_node kind)) ≡ []
no-page Dir = refl
no-page File = refl
no-page Unused = refl

abbrev no-bytes : ℕ → List ℕ
no-bytes v = []

bare : (b : NodeBody) → pages-of (node_of no-bytes b) ≡ [] → pointers_in b ≡ []
bare unused e = refl
bare (directory_node entries) e = refl
bare (file_node size ps) e = none-mapped (λ (p : ℕ × Pointer). (p.0, no-bytes p.1.stamp)) ps e

held-none : (k : ℕ) (node : GraphNode) → pointers_in node.body ≡ [] → held_by k node ≡ []
held-none k node e = ap (λ (ps : List (ℕ × Pointer)). map (λ p. record { size = size_of node.body; tag = record { ino = k; generation = node.generation; index = p.0 }; pointer = p.1 }) ps) e

-- a node without pages has no pointers
pub held-bare : (k : ℕ) (node : GraphNode) → pages-of (node_of no-bytes node.body) ≡ [] → held_by k node ≡ []
held-bare k node e = held-none k node (bare node.body e)

-- a directory before and after
pub held-dir : (k : ℕ) (old new : GraphNode) → node_of no-bytes old.body ≡ Some directory → node_of no-bytes new.body ≡ node_of no-bytes old.body → held_by k new ≡ held_by k old
held-dir k old new was same = held-bare k new (ap pages-of (same ∙ was)) ∙ sym (held-bare k old (ap pages-of was))

-- a node that is not used
pub held-unused : (shape : Shape) (pages : VirtualMap) (m : ℕ) → m < shape.nodes → ((rec : InodeRec) → IsNode shape pages m rec → ⊥) → held_by m (graph_of shape pages m) ≡ []
unfolding graph_of
held-unused shape pages m below none =
    held-none m (graph_of shape pages m) (ap (λ (o : Option InodeRec). pointers_in (node_from pages o).body) (cond-true (nat_lt m shape.nodes) _ _ (lt-ltb m shape.nodes below)) ∙ by (inode_at pages m) refl)
  where
    by : (o : Option InodeRec) → inode_at pages m ≡ o → pointers_in (node_from pages o).body ≡ []
    by None e = refl
    by (Some rec) e = of rec.kind refl
      where
        used : File ≡ Unused → ⊥
        used e = cc

        of : (k : Kind) → rec.kind ≡ k → pointers_in (body_of pages rec rec.kind) ≡ []
        of Unused f = ap (λ (k : Kind). pointers_in (body_of pages rec k)) f
        of Dir f = ap (λ (k : Kind). pointers_in (body_of pages rec k)) f
        of File f = absurd (none rec (record { below = below; spelled = e; used = λ u. used (sym f ∙ u) }))

-- ---- all nodes

flat-same : (f g : ℕ → List Held) → ((k : ℕ) → g k ≡ f k) → (a m : ℕ) → flat_map g (range_with_len a m) ≡ flat_map f (range_with_len a m)
flat-same f g same a zero = refl
flat-same f g same a (suc m) = let rest = flat-same f g same (a + 1) m in λ i. same a i ++ rest i

pub tagged-same : (shape : Shape) (old new : VirtualMap) → ((k : ℕ) → held_by k (graph_of shape new k) ≡ held_by k (graph_of shape old k)) → tagged_in shape new ≡ tagged_in shape old
unfolding pointers_of
tagged-same shape old new same = ap (map with_tag) (flat-same (λ k. held_by k (graph_of shape old k)) (λ k. held_by k (graph_of shape new k)) same 0 shape.nodes)

-- pages were read
pub tagged-read : {D : Type 0} (g : Ghosts D) (s : D) (p : Pages) (t : D) (q : Pages) → IsVolumeShape (g.shape s) → PreservesRunning g s p t q → tagged_in (g.shape t) (running_on g t q) ≡ tagged_in (g.shape s) (running_on g s p)
tagged-read g s p t q volume on = λ i. map with_tag (pointers_of (on.reads.medium.virtual.same_shape i) (then-graph g s p t q volume on i))
