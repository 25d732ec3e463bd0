-- No path of a volume has as many names as it has nodes.
use Rattle.std.proofs.Common.{◌≡◌, ◌≢◌, ℕ, suc, ◌<◌, List, [], ◌∷◌, ◌++◌, length, refl, sym, ap, ◌∙◌, Option, Some, None, option_and_then, ◌⊎◌, inl, inr, arith}
use Rattle.std.proofs.lemmas.List.{append_assoc, append-nil, length-append}
use Rattle.nl_field.specs.Graph.{Graph}
use Rattle.nl_field.specs.Members.{Has}
use Rattle.nl_field.specs.declared.shape.Shape.{Shape}
use Rattle.nl_meta.specs.Committed.{VirtualMap}
use Rattle.nl_meta.specs.Consistent.{EntriesRight, NodesRight}
use Rattle.nl_meta.specs.Nodes.{graph_of}
use Rattle.nl_meta.proofs.Facts.{EachTwo}
use Rattle.nl_meta.proofs.Lists.{none_some}
use Rattle.nl_meta.proofs.Pairs.{not_many}
use Rattle.nl_spec_image.proofs.GraphOfPages.{named_once, reached_is_node}
use Rattle.nl_tree.specs.GraphLaws.{NamedOnce, entry_at}
use Rattle.nl_tree.specs.Represents.{node_reached}
use Rattle.nl_tree.proofs.ChangeProofs.{at_end, root_reached}
use Rattle.nl_tree.proofs.GraphProofs.{one_path_to}
use Rattle.nl_volume_list.proofs.Climbing.{Path}

-- the nodes on a way, each with the path that leads to it
record OnPath (graph : Graph) (done : Path) (rest : Path) : Type 0 where
  nodes : List ℕ
  many : length nodes ≡ suc (length rest)
  each : (m : ℕ) → Has nodes m → (r : Path) × (node_reached graph 0 (done ++ r) ≡ Some m)
  differ : EachTwo (λ a b. a ≢ b) nodes

step : (graph : Graph) (k n : ℕ) (x : List ℕ) (rest : Path) → node_reached graph k (x ∷ rest) ≡ Some n → (m : ℕ) × (entry_at graph k x ≡ Some m) × (node_reached graph m rest ≡ Some n)
unfolding node_reached
step graph k n x rest to = cases (entry_at graph k x) refl to
  where
    cases : (o : Option ℕ) → entry_at graph k x ≡ o → option_and_then (λ m. node_reached graph m rest) (entry_at graph k x) ≡ Some n → (m : ℕ) × (entry_at graph k x ≡ Some m) × (node_reached graph m rest ≡ Some n)
    cases None h e = absurd (none_some n (sym (ap (option_and_then (λ m. node_reached graph m rest)) h) ∙ e))
    cases (Some m) h e = (m, h, sym (ap (option_and_then (λ m. node_reached graph m rest)) h) ∙ e)

here : (graph : Graph) (k m : ℕ) (done : Path) → node_reached graph 0 done ≡ Some k → k ≡ m → node_reached graph 0 (done ++ []) ≡ Some m
here graph k m done at e = ap (node_reached graph 0) (append-nil done) ∙ at ∙ ap (λ (i : ℕ). Some i) e

module _ (graph : Graph) (once : NamedOnce graph) where
  longer : (k : ℕ) (done : Path) (x : List ℕ) (rest : Path) → node_reached graph 0 done ≡ Some k → OnPath graph (done ++ x ∷ []) rest → OnPath graph done (x ∷ rest)
  longer k done x rest at o = record {
    nodes = k ∷ o.nodes;
    many = let n = o.many in omega (arith, n);
    each = each;
    differ = (apart, o.differ);
  }
    where
      behind : (m : ℕ) → Has o.nodes m → (r : Path) × (node_reached graph 0 (done ++ x ∷ r) ≡ Some m)
      behind m h = let r = o.each m h in (r.0, sym (ap (node_reached graph 0) (append_assoc done (x ∷ []) r.0)) ∙ r.1)

      each : (m : ℕ) → (k ≡ m) ⊎ Has o.nodes m → (r : Path) × (node_reached graph 0 (done ++ r) ≡ Some m)
      each m (inl e) = ([], here graph k m done at e)
      each m (inr h) = let r = behind m h in (x ∷ r.0, r.1)

      apart : (m : ℕ) → Has o.nodes m → k ≢ m
      apart m h same =
          let r = behind m h in
          let e = ap (λ (p : Path). length p) (one_path_to graph once m done (done ++ x ∷ r.0) (at ∙ ap (λ (i : ℕ). Some i) same) r.1) in
          let f = length-append done (x ∷ r.0) in
          omega (arith, e, f)

  on-path : (k n : ℕ) (done rest : Path) → node_reached graph 0 done ≡ Some k → node_reached graph k rest ≡ Some n → OnPath graph done rest
  on-path k n done [] at to = record { nodes = k ∷ []; many = refl; each = each; differ = ((λ y h. absurd h), tt) }
    where
      each : (m : ℕ) → (k ≡ m) ⊎ ⊥ → (r : Path) × (node_reached graph 0 (done ++ r) ≡ Some m)
      each m (inl e) = ([], here graph k m done at e)
      each m (inr h) = absurd h
  on-path k n done (x ∷ rest) at to =
      let s = step graph k n x rest to in
      longer k done x rest at (on-path s.0 n (done ++ x ∷ []) rest (at_end graph done x k at ∙ s.1) s.2)

pub depth : (shape : Shape) (pages : VirtualMap) → EntriesRight shape pages → NodesRight shape pages → 0 < shape.nodes → (q : Path) (n : ℕ) → node_reached (graph_of shape pages) 0 q ≡ Some n → length q < shape.nodes
depth shape pages right nodes some q n e =
    let o = on-path (graph_of shape pages) (named_once shape pages right nodes) 0 n [] q (root_reached (graph_of shape pages)) e in
    let most = not_many shape.nodes o.nodes o.differ (λ m h. let r = o.each m h in (reached_is_node shape pages right nodes r.0 m some r.1).is.below) in
    let many = o.many in
    omega (arith, most, many)
