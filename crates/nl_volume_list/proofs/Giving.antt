-- What a walk gives of the tree as which a core runs.
use Rattle.std.proofs.Common.{◌≡◌, ◌≢◌, ℕ, ◌<◌, true, T, List, [], ◌∷◌, length, refl, sym, ap, subst, ◌∙◌, Option, Some, None, option_map, option_and_then, arith}
use Rattle.std.specs.FinMap.Entries.{find, is_sorted}
use Rattle.nl_dir.proofs.LawProofs.{entries_in_order, right_is_directory}
use Rattle.nl_field.specs.Graph.{Graph, GraphNode, NodeBody, directory_node, file_node}
use Rattle.nl_field.specs.Numbers.{ShapeBounds}
use Rattle.nl_field.specs.declared.entry.EntryRec.{EntryRec}
use Rattle.nl_field.specs.declared.inode.InodeRec.{InodeRec}
use Rattle.nl_field.specs.declared.inode.Kind.{Kind}
use Rattle.nl_field.specs.declared.inode.Kind.TheVariants.{Dir, File, Unused}
use Rattle.nl_field.specs.declared.pointer.Pointer.{Pointer}
use Rattle.nl_field.specs.declared.shape.Shape.{Shape}
use Rattle.nl_field.proofs.Bounds.{bounds}
use Rattle.nl_spec_commits.specs.Trees.{RepresentsTree}
use Rattle.nl_calls_files.proofs.Directories.{at-node, directory-count}
use Rattle.nl_meta.specs.Committed.{VirtualMap}
use Rattle.nl_meta.specs.Consistent.{IsNode, PageOfStamp}
use Rattle.nl_meta.specs.Nodes.{body_of, entries_of_inode, graph_of}
use Rattle.nl_meta.proofs.Lists.{none_some}
use Rattle.nl_spec_image.specs.Stands.{bytes_for}
use Rattle.nl_spec_image.proofs.GraphOfPages.{node_is, reached_is_node}
use Rattle.nl_spec_image.proofs.Sums.{length_mapped}
use Rattle.nl_tree.specs.Represents.{entries_in, node_of, node_reached}
use Rattle.nl_tree.specs.Tree.{Tree, entries_of, path_cmp}
use Rattle.nl_tree.proofs.ChangeProofs.{root_reached}
use Rattle.nl_volume_list.specs.Items.{PathItem, item_of, items_behind, items_of}
use Rattle.nl_volume_list.specs.Next.{GaveAt}
use Rattle.nl_volume_list.specs.Onward.{IsLast, IsNextPath}
use Rattle.nl_volume_list.specs.Walks.{GivesItem, IsItemOfNode, WalkState, is_path, left_behind, still_to_give}
use Rattle.nl_volume_list.specs.declared.item.TreeItem.{TreeItem}
use Rattle.nl_volume_list.specs.declared.item.TreeItem.TheVariants as item
use Rattle.nl_volume_list.proofs.Climbing.{Path}
use Rattle.nl_volume_list.proofs.Sorted.{item-at, items-sorted, next-left, none-left, root-left}

pub body-is : (shape : Shape) (pages : VirtualMap) (n : ℕ) (rec : InodeRec) → IsNode shape pages n rec → (k : Kind) → rec.kind ≡ k → (graph_of shape pages n).body ≡ body_of pages rec k
body-is shape pages n rec is k kind = ap (λ (x : GraphNode). x.body) (node_is shape pages n rec is) ∙ ap (body_of pages rec) kind

left-some : (tree : Tree) (path : Path) (ns : List ℕ) → ns ≢ [] → left_behind tree path ns ≡ items_behind path (items_of tree)
left-some tree path [] far = absurd (far refl)
left-some tree path (n ∷ ns) far = refl

module _ (shape : Shape) (pages : VirtualMap) (page_of_stamp : ℕ → Option PageOfStamp) (tree : Tree) (runs : RepresentsTree shape pages page_of_stamp tree) where
  abbrev g : Graph
  g = graph_of shape pages

  some-nodes : 0 < shape.nodes
  some-nodes = let b = (subst ShapeBounds (sym runs.right.numbers) (bounds shape.blocks shape.pages runs.right.legal)).some_nodes in omega (arith, b)

  -- a directory of the tree has the entries of its node
  dir-count : (q : Path) (n : ℕ) → node_reached g 0 q ≡ Some n → (es : List (List ℕ × ℕ)) → (g n).body ≡ directory_node es → length (entries_of tree q) ≡ length es
  dir-count q n e es body =
      let h = reached_is_node shape pages runs.right.tree.entries runs.right.tree.nodes q n some-nodes e in
      by h.rec h.is h.rec.kind refl
    where
      by : (rec : InodeRec) → IsNode shape pages n rec → (k : Kind) → rec.kind ≡ k → length (entries_of tree q) ≡ length es
      by rec is Unused k = absurd (is.used k)
      by rec is File k = absurd (other (sym (body-is shape pages n rec is File k) ∙ body))
        where
          other : {size : ℕ} {ps : List (ℕ × Pointer)} → file_node size ps ≡ directory_node es → ⊥
          other e = cc
      by rec is Dir k =
          directory-count shape pages page_of_stamp tree runs q n e rec is k
          ∙ sym (entries_in_order pages rec (right_is_directory shape pages n rec runs.right.tree.addresses runs.right.tree.entries is k)).count
          ∙ sym (length_mapped {Y = List ℕ × ℕ} (λ (x : EntryRec). (x.name, x.ino)) (entries_of_inode pages rec))
          ∙ ap (λ (b : NodeBody). length (entries_in b)) (sym (body-is shape pages n rec is Dir k) ∙ body)

  -- what is told of the node is told of its path
  item-told : (q : Path) (n : ℕ) (answer : TreeItem) → node_reached g 0 q ≡ Some n → IsItemOfNode (g n).body answer → is_path answer ≡ true → find path_cmp q (items_of tree) ≡ Some answer
  item-told q n (item.Dir k) e told p =
      item-at tree q ∙ ap (option_map (item_of (length (entries_of tree q)))) (at-node shape pages page_of_stamp tree runs q n e ∙ ap (node_of (bytes_for page_of_stamp)) told.1)
      ∙ ap (λ (c : ℕ). Some (item.Dir c)) (dir-count q n e told.0 told.1 ∙ sym told.2)
  item-told q n (item.File size k) e told p =
      item-at tree q ∙ ap (option_map (item_of (length (entries_of tree q)))) (at-node shape pages page_of_stamp tree runs q n e ∙ ap (node_of (bytes_for page_of_stamp)) told.1)
      ∙ ap (λ (c : ℕ). Some (item.File size c)) (length_mapped (λ (x : ℕ × Pointer). (x.0, bytes_for page_of_stamp x.1.stamp)) told.0 ∙ sym told.2)
  item-told q n item.End e told p = absurd told
  item-told q n item.Fault e told p = cc
  item-told q n (item.Lost w f) e told p = cc

  -- what the tree has is reached
  reached-if : (r : Path) (y : TreeItem) → find path_cmp r (items_of tree) ≡ Some y → (m : ℕ) × (node_reached g 0 r ≡ Some m)
  reached-if r y e = by (node_reached g 0 r) refl
    where
      by : (o : Option ℕ) → node_reached g 0 r ≡ o → (m : ℕ) × (node_reached g 0 r ≡ Some m)
      by (Some m) h = (m, h)
      by None h =
          absurd (none_some y (sym (item-at tree r ∙ ap (option_map (item_of (length (entries_of tree r))))
          (runs.represents.depicts r ∙ ap (option_and_then (λ k. node_of (bytes_for page_of_stamp) (g k).body)) h)) ∙ e))

  sorted : T (is_sorted path_cmp (items_of tree))
  sorted = items-sorted tree runs.represents.is_tree.in_order

  module _ (old new : WalkState) where
    -- the walk holds the path of the first that was left
    holds : (there : Path) (x : TreeItem) → GaveAt g old new there → (there, x) ∷ items_behind there (items_of tree) ≡ (new.path, x) ∷ still_to_give tree new
    holds there x gave =
        (λ i. (sym gave.path i, x) ∷ items_behind (sym gave.path i) (items_of tree)) ∙ ap (λ (rest : List PathItem). (new.path, x) ∷ rest) (sym (left-some tree new.path new.nodes gave.begun))

    next-of : (there : Path) (x : TreeItem) → old.nodes ≢ [] → IsNextPath g old.path there → find path_cmp there (items_of tree) ≡ Some x → GaveAt g old new there → still_to_give tree old ≡ (new.path, x) ∷ still_to_give tree new
    next-of there x begun next at gave =
        left-some tree old.path old.nodes begun
        ∙ next-left (items_of tree) sorted old.path there x at next.behind (λ r y e a c. let m = reached-if r y e in next.between r m.0 m.1 a c)
        ∙ holds there x gave

    pub gives-next : (there : Path) (n : ℕ) (answer : TreeItem) → old.nodes ≢ [] → IsNextPath g old.path there → node_reached g 0 there ≡ Some n → IsItemOfNode (g n).body answer → (is_path answer ≡ true → GaveAt g old new there) → GivesItem tree old new answer
    gives-next there n (item.Dir k) begun next e told gave = next-of there (item.Dir k) begun next (item-told there n (item.Dir k) e told refl) (gave refl)
    gives-next there n (item.File size k) begun next e told gave = next-of there (item.File size k) begun next (item-told there n (item.File size k) e told refl) (gave refl)
    gives-next there n item.End begun next e told gave = absurd told
    gives-next there n item.Fault begun next e told gave = tt
    gives-next there n (item.Lost w f) begun next e told gave = tt

    root-of : (x : TreeItem) → old.nodes ≡ [] → find path_cmp [] (items_of tree) ≡ Some x → GaveAt g old new [] → still_to_give tree old ≡ (new.path, x) ∷ still_to_give tree new
    root-of x before at gave = ap (left_behind tree old.path) before ∙ root-left (items_of tree) sorted x at ∙ holds [] x gave

    pub gives-root : (answer : TreeItem) → old.nodes ≡ [] → IsItemOfNode (g 0).body answer → (is_path answer ≡ true → GaveAt g old new []) → GivesItem tree old new answer
    gives-root (item.Dir k) before told gave = root-of (item.Dir k) before (item-told [] 0 (item.Dir k) (root_reached g) told refl) (gave refl)
    gives-root (item.File size k) before told gave = root-of (item.File size k) before (item-told [] 0 (item.File size k) (root_reached g) told refl) (gave refl)
    gives-root item.End before told gave = absurd told
    gives-root item.Fault before told gave = tt
    gives-root (item.Lost w f) before told gave = tt

    pub gives-last : old.nodes ≢ [] → IsLast g old.path → still_to_give tree old ≡ []
    gives-last begun last = left-some tree old.path old.nodes begun ∙ none-left (items_of tree) sorted old.path (λ r y e a. let m = reached-if r y e in last r m.0 m.1 a)
