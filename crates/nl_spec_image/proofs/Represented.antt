-- The tree that nodes stand for depends only on the bytes of the stamps that their pointers have.
use Rattle.std.proofs.Common.{◌≡◌, ℕ, ◌<◌, Bool, true, false, List, [], ◌∷◌, map, refl, sym, ap, ◌∙◌, Option, Some, None, inl, inr, arith, nat_lt, option_and_then}
use Rattle.std.proofs.lemmas.Bool.{ltb-true, cond-false}
use Rattle.std.specs.List.{range_with_len}
use Rattle.nl_field.specs.Graph.{NodeBody, unused, directory_node, file_node, Graph}
use Rattle.nl_field.specs.declared.pointer.Pointer.{Pointer}
use Rattle.nl_field.specs.declared.shape.Shape.{Shape}
use Rattle.nl_meta.specs.Committed.{VirtualMap}
use Rattle.nl_field.specs.Members.{Has}
use Rattle.nl_meta.specs.Nodes.{inode_at, node_from, graph_of, Held, held_by, size_of, pointers_in, pointers_of}
use Rattle.nl_meta.proofs.Lists.{range-member, map-member, flat-member}
use Rattle.nl_tree.specs.Represents.{node_of, node_reached, Represents}
use Rattle.nl_tree.specs.Tree.{file, Tree}

map_same : {X Y : Type 0} (f g : X → Y) (xs : List X) → ((x : X) → Has xs x → f x ≡ g x) → map f xs ≡ map g xs
map_same f g [] same = refl
map_same f g (x ∷ xs) same = λ i. same x (inl refl) i ∷ map_same f g xs (λ y m. same y (inr m)) i

module _ (b c : ℕ → List ℕ) where
  body_same : (body : NodeBody) → ((p : ℕ × Pointer) → Has (pointers_in body) p → b p.1.stamp ≡ c p.1.stamp) → node_of b body ≡ node_of c body
  body_same unused same = refl
  body_same (directory_node entries) same = refl
  body_same (file_node size pointers) same = λ i. Some (file (record { size = size; pages = map_same (λ (p : ℕ × Pointer). (p.0, b p.1.stamp)) (λ p. (p.0, c p.1.stamp)) pointers (λ p m j. (p.0, same p m j)) i }))

  module _ (shape : Shape) (pages : VirtualMap) (same : (h : Held) → Has (pointers_of shape (graph_of shape pages)) h → b h.pointer.stamp ≡ c h.pointer.stamp) where
    abbrev g : Graph
    g = graph_of shape pages

    inside : (n : ℕ) → n < shape.nodes → (p : ℕ × Pointer) → Has (pointers_in (g n).body) p → b p.1.stamp ≡ c p.1.stamp
    unfolding pointers_of
    inside n below p m =
        same (record { size = size_of (g n).body; tag = record { ino = n; generation = (g n).generation; index = p.0 }; pointer = p.1 })
        (flat-member (λ (k : ℕ). held_by k (g k)) (range_with_len 0 shape.nodes) n _ (range-member n 0 shape.nodes (omega arith) (omega (arith, below)))
        (map-member (λ (q : ℕ × Pointer). record { size = size_of (g n).body; tag = record { ino = n; generation = (g n).generation; index = q.0 }; pointer = q.1 }) (pointers_in (g n).body) p m))

    outside : (n : ℕ) → nat_lt n shape.nodes ≡ false → (g n).body ≡ unused
    unfolding graph_of
    outside n e = ap (λ o. (node_from pages o).body) (cond-false (nat_lt n shape.nodes) (inode_at pages n) None e)

    node_same : (n : ℕ) → node_of b (g n).body ≡ node_of c (g n).body
    node_same n = by (nat_lt n shape.nodes) refl
      where
        by : (t : Bool) → nat_lt n shape.nodes ≡ t → node_of b (g n).body ≡ node_of c (g n).body
        by true e = body_same (g n).body (inside n (ltb-true _ _ e))
        by false e = ap (node_of b) (outside n e) ∙ sym (ap (node_of c) (outside n e))

    pub represents_same : (tree : Tree) → Represents b g tree → Represents c g tree
    represents_same tree h path = h path ∙ at (node_reached g 0 path)
      where
        at : (o : Option ℕ) → option_and_then (λ n. node_of b (g n).body) o ≡ option_and_then (λ n. node_of c (g n).body) o
        at None = refl
        at (Some n) = node_same n
