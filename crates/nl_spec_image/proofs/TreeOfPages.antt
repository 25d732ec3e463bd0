-- The tree for which metadata that is right stands.
use Rattle.std.proofs.Common.{◌≡◌, ℕ, ◌<◌, true, ◌&&◌, List, [], ◌∷◌, ◌++◌, map, refl, sym, ap, subst, ◌∙◌, Option, Some, None, ◌⊎◌, inl, inr, arith, ◌≢◌, ◌-◌, ◌*◌, nat_lt, ◌==◌, length, IsTrue, IsSome, option_and_then}
use Rattle.std.proofs.lemmas.Bool.{and_from, eq-eqb, lt-ltb}
use Rattle.std.specs.FinMap.{is_sorted}
use Rattle.std.specs.Int.{div_ceil}
use Rattle.std.specs.List.{range_with_len}
use Rattle.std.specs.Ordering.{nat_cmp}
use Rattle.std.specs.Prelude.{drop, option_map, unwrap_or}
use Rattle.nl_field.specs.Bytes.{all_zero}
use Rattle.nl_field.specs.FileContent.{FileContent, is_content}
use Rattle.nl_field.specs.Graph.{GraphNode, NodeBody, unused, Graph, directory_node, file_node}
use Rattle.nl_field.specs.declared.inode.InodeRec.{InodeRec}
use Rattle.nl_field.specs.declared.inode.Kind.{Kind}
use Rattle.nl_field.specs.declared.inode.Kind.TheVariants.{Unused, File, Dir}
use Rattle.nl_field.specs.declared.pointer.Pointer.{Pointer}
use Rattle.nl_field.specs.declared.shape.Shape.{Shape}
use Rattle.nl_tree.specs.GraphLaws.{entry_at, NamedOnce}
use Rattle.nl_tree.specs.NodeCharges.{ReachedNodes}
use Rattle.nl_tree.specs.Represents.{node_reached, node_of, Represents}
use Rattle.nl_tree.specs.Tree.{Node, directory, file, Tree, IsTree, node_at}
use Rattle.nl_tree.specs.TreeLaws.{IsInOrder}
use Rattle.nl_tree.specs.TreeOfNodes.{tree_of}
use Rattle.nl_tree.proofs.ChangeProofs.{Path, reached_step, root_reached}
use Rattle.nl_tree.proofs.TreeOfProofs.{tree_of_nodes}
use Rattle.nl_tree.proofs.TreeProofs.{sorted_all, from_T}
use Rattle.nl_meta.specs.Committed.{VirtualMap}
use Rattle.nl_field.specs.Members.{Has}
use Rattle.nl_meta.specs.Consistent.{IsNode, NodesRight, EntriesRight, PageOfStamp, RightFor}
use Rattle.nl_meta.specs.Nodes.{inode_at, Held, held_in, held_by, pointers_of_inode, body_of, pointers_of}
use Rattle.nl_meta.specs.Walk.{used_nodes}
use Rattle.nl_meta.proofs.Lists.{none_some, each-all, range-member, member-map, map-member, flat-member}
use Rattle.nl_meta.proofs.NodeProofs.{used_is, is_used, used_rise}
use Rattle.nl_meta.proofs.WalkProofs.{nodes_some}
use Rattle.nl_spec_image.specs.Stands.{bytes_for}
use Rattle.nl_spec_image.proofs.GraphOfPages.{graph, node_is, NodeOf, node_or_none, entry_is, named_once, path_of_reached, reached_is_node}
use Rattle.nl_spec_image.proofs.PagesOfFiles.{sorted_in}
use Rattle.nl_spec_image.proofs.Sums.{all_by, differ_rising}

module _ (shape : Shape) (pages : VirtualMap) (page_of_stamp : ℕ → Option PageOfStamp) (has : RightFor shape pages page_of_stamp) where
  abbrev nodes : NodesRight shape pages
  nodes = has.tree.nodes

  abbrev right : EntriesRight shape pages
  right = has.tree.entries

  abbrev pub g : Graph
  g = graph shape pages

  abbrev pub b : ℕ → List ℕ
  b = bytes_for page_of_stamp

  pub once : NamedOnce g
  once = named_once shape pages right nodes

  some_nodes : 0 < shape.nodes
  some_nodes = subst (λ (s : Shape). 0 < s.nodes) (sym has.numbers) (nodes_some shape.blocks shape.pages has.legal)

  used_body : (n : ℕ) (rec : InodeRec) → IsNode shape pages n rec → (g n).body ≢ unused
  used_body n rec is u = kinds rec.kind is.used (sym (ap (λ (x : GraphNode). x.body) (node_is shape pages n rec is)) ∙ u)
    where
      kinds : (k : Kind) → k ≢ Unused → body_of pages rec k ≡ unused → ⊥
      kinds Unused f e = f refl
      kinds File f e = cc
      kinds Dir f e = cc

  pub located : (n : ℕ) → (p : Path) × ((rec : InodeRec) → IsNode shape pages n rec → node_reached g 0 p ≡ Some n)
  located n = by (node_or_none shape pages n)
    where
      by : NodeOf shape pages n ⊎ ((g n).body ≡ unused) → (p : Path) × ((rec : InodeRec) → IsNode shape pages n rec → node_reached g 0 p ≡ Some n)
      by (inl h) = let r = path_of_reached shape pages right nodes n (right.reached n h.rec h.is) in (r.0, λ rec is. r.1)
      by (inr u) = ([], λ rec is. absurd (used_body n rec is u))

  pub node_here : (n : ℕ) → (x : Node) × ((rec : InodeRec) → IsNode shape pages n rec → node_of b (g n).body ≡ Some x)
  node_here n = by (g n).body refl
    where
      by : (body : NodeBody) → (g n).body ≡ body → (x : Node) × ((rec : InodeRec) → IsNode shape pages n rec → node_of b (g n).body ≡ Some x)
      by unused e = (directory, λ rec is. absurd (used_body n rec is e))
      by (directory_node es) e = (directory, λ rec is. ap (node_of b) e)
      by (file_node size ps) e = (file (record { size = size; pages = map (λ p. (p.0, b p.1.stamp)) ps }), λ rec is. ap (node_of b) e)

  unfoldable pub numbers_used : List ℕ
  numbers_used = map (λ x. x.0) (used_nodes shape pages)

  pub the_tree : Tree
  the_tree = tree_of numbers_used (λ n. (located n).0) (λ n. (node_here n).0)

  pub tree_represents : Represents b g the_tree
  unfolding the_tree numbers_used
  tree_represents =
      tree_of_nodes b g numbers_used (λ n. (located n).0) (λ n. (node_here n).0) once
      (all_by _ numbers_used (λ n m. each n (member-map (λ (x : ℕ × InodeRec). x.0) (used_nodes shape pages) n m)))
      (λ q n e. let h = reached_is_node shape pages right nodes q n some_nodes e in map-member (λ (x : ℕ × InodeRec). x.0) (used_nodes shape pages) (n, h.rec) (is_used shape pages n h.rec h.is))
    where
      each : (n : ℕ) → (x : ℕ × InodeRec) × Has (used_nodes shape pages) x × (x.0 ≡ n) → (node_reached g 0 (located n).0 ≡ Some n) × (node_of b (g n).body ≡ Some (node_here n).0)
      each n r =
          let is = subst (λ (k : ℕ). IsNode shape pages k r.0.1) r.2 (used_is shape pages r.0 r.1) in
          ((located n).1 r.0.1 is, (node_here n).1 r.0.1 is)

  pub reached_nodes : ReachedNodes b g numbers_used (λ n. (located n).0) (λ n. (node_here n).0)
  unfolding numbers_used
  reached_nodes = record {
    each = all_by _ numbers_used (λ n m. each n (member-map (λ (x : ℕ × InodeRec). x.0) (used_nodes shape pages) n m));
    all = λ q n e. let h = reached_is_node shape pages right nodes q n some_nodes e in map-member (λ (x : ℕ × InodeRec). x.0) (used_nodes shape pages) (n, h.rec) (is_used shape pages n h.rec h.is);
    differ = differ_rising (used_nodes shape pages) (used_rise shape pages);
  }
    where
      each : (n : ℕ) → (x : ℕ × InodeRec) × Has (used_nodes shape pages) x × (x.0 ≡ n) → (node_reached g 0 (located n).0 ≡ Some n) × (node_of b (g n).body ≡ Some (node_here n).0)
      each n r =
          let is = subst (λ (k : ℕ). IsNode shape pages k r.0.1) r.2 (used_is shape pages r.0 r.1) in
          ((located n).1 r.0.1 is, (node_here n).1 r.0.1 is)

  pub tree_in_order : IsInOrder the_tree
  unfolding the_tree tree_of
  tree_in_order = from_T _ (sorted_all [] (map (λ n. ((located n).0, (node_here n).0)) numbers_used) tt)

  dir_node : (n : ℕ) (rec : InodeRec) → IsNode shape pages n rec → rec.kind ≡ Dir → node_of b (g n).body ≡ Some directory
  dir_node n rec is dir = ap (λ (x : GraphNode). node_of b x.body) (node_is shape pages n rec is) ∙ ap (λ (k : Kind). node_of b (body_of pages rec k)) dir

  held_member : (n : ℕ) (rec : InodeRec) → IsNode shape pages n rec → rec.kind ≡ File → (p : ℕ × Pointer) → Has (pointers_of_inode pages rec) p
      → Has (held_in shape pages) (record { size = rec.size; tag = record { ino = n; generation = rec.generation; index = p.0 }; pointer = p.1 })
  unfolding pointers_of
  held_member n rec is is_file p m =
      flat-member (λ n. held_by n (g n)) (range_with_len 0 shape.nodes) n _ (range-member n 0 shape.nodes (omega arith) (omega (arith, is.below)))
      (subst (λ (x : GraphNode). Has (held_by n x) (record { size = rec.size; tag = record { ino = n; generation = rec.generation; index = p.0 }; pointer = p.1 }))
      (sym (node_is shape pages n rec is ∙ ap (λ (k : Kind). record { generation = rec.generation; body = body_of pages rec k }) is_file))
      (map-member (λ (p : ℕ × Pointer). record { size = rec.size; tag = record { ino = n; generation = rec.generation; index = p.0 }; pointer = p.1 }) (pointers_of_inode pages rec) p m))

  file_right : (n : ℕ) (rec : InodeRec) → IsNode shape pages n rec → rec.kind ≡ File
      → is_content (record { size = rec.size; pages = map (λ p. (p.0, b p.1.stamp)) (pointers_of_inode pages rec) }) ≡ true
  unfolding is_content
  file_right n rec is is_file = and_from _ _ sorted (each-all _ _ (λ page m. by page (member-map (λ (p : ℕ × Pointer). (p.0, b p.1.stamp)) (pointers_of_inode pages rec) page m)))
    where
      sorted : is_sorted nat_cmp (map (λ p. (p.0, b p.1.stamp)) (pointers_of_inode pages rec)) ≡ true
      sorted = sorted_in b pages rec

      by : (page : ℕ × List ℕ) → (p : ℕ × Pointer) × Has (pointers_of_inode pages rec) p × ((p.0, b p.1.stamp) ≡ page)
          → (nat_lt page.0 (div_ceil rec.size 4096) && length page.1 == 4096 && all_zero (drop (rec.size - 4096 * page.0) page.1)) ≡ true
      by page r =
          let h : Held = record { size = rec.size; tag = record { ino = n; generation = rec.generation; index = r.0.0 }; pointer = r.0.1 } in
          let m = held_member n rec is is_file r.0 r.1 in
          let there = has.tree.pointers.there h m in
          let here = ap (λ (o : Option PageOfStamp). unwrap_or (option_map (λ page. page.bytes) o) []) there.holds in
          subst (λ (page : ℕ × List ℕ). (nat_lt page.0 (div_ceil rec.size 4096) && length page.1 == 4096 && all_zero (drop (rec.size - 4096 * page.0) page.1)) ≡ true) r.2
          (and_from _ _ (and_from _ _ (lt-ltb _ _ (has.tree.pointers.below h m)) (eq-eqb _ _ (ap (λ (l : List ℕ). length l) here ∙ there.whole)))
          (ap (λ (l : List ℕ). all_zero (drop (rec.size - 4096 * r.0.0) l)) here ∙ there.behind))

  no_child : IsSome {T = Node} None → ⊥
  no_child h = cc

  same_file : (x y : FileContent) → Some (file x) ≡ Some (file y) → x ≡ y
  same_file x y e = cc

  no_file : (x : FileContent) → Some directory ≡ Some (file x) → ⊥
  no_file x e = cc

  abbrev there : Option ℕ → Option Node
  there o = option_and_then (λ n. node_of b (g n).body) o

  pub is_tree : IsTree the_tree
  is_tree = record {
    in_order = tree_in_order;
    root = let r = nodes.spelled 0 some_nodes in tree_represents [] ∙ ap there (root_reached g) ∙ root_dir r.0 r.1;
    parents = λ path name h. child path name (node_reached g 0 path) refl (subst IsSome (tree_represents (path ++ name ∷ []) ∙ ap there (reached_step g path name)) h);
    contents = λ path content e. held path content (node_reached g 0 path) (sym (tree_represents path) ∙ e);
  }
    where
      root_dir : (rec : InodeRec) → inode_at pages 0 ≡ Some rec → node_of b (g 0).body ≡ Some directory
      root_dir rec at = dir_node 0 rec (record { below = some_nodes; spelled = at; used = λ u. dir_used (sym (nodes.root rec at) ∙ u) }) (nodes.root rec at)
        where
          dir_used : Dir ≡ Unused → ⊥
          dir_used e = cc

      child : (path : Path) (name : List ℕ) (o : Option ℕ) → node_reached g 0 path ≡ o → IsSome (there (option_and_then (λ k. entry_at g k name) o)) → node_at the_tree path ≡ Some directory
      child path name None e h = absurd (no_child h)
      child path name (Some k) e h = of_entry (entry_at g k name) refl h
        where
          of_entry : (o : Option ℕ) → entry_at g k name ≡ o → IsSome (there o) → node_at the_tree path ≡ Some directory
          of_entry None a h = absurd (no_child h)
          of_entry (Some m) a h =
              let r = entry_is shape pages k name m a in
              tree_represents path ∙ ap there e ∙ dir_node k r.at.rec r.at.is_node r.at.is_dir

      held : (path : Path) (content : FileContent) (o : Option ℕ) → there o ≡ Some (file content) → IsTrue (is_content content)
      held path content None e = absurd (none_some (file content) e)
      held path content (Some n) e = by (node_or_none shape pages n)
        where
          kinds : (rec : InodeRec) → IsNode shape pages n rec → (k : Kind) → rec.kind ≡ k → node_of b (body_of pages rec k) ≡ Some (file content) → IsTrue (is_content content)
          kinds rec is Unused s e = absurd (none_some (file content) e)
          kinds rec is Dir s e = absurd (no_file content e)
          kinds rec is File s e = subst (λ (c : FileContent). IsTrue (is_content c)) (same_file _ content e) (file_right n rec is s)

          by : NodeOf shape pages n ⊎ ((g n).body ≡ unused) → IsTrue (is_content content)
          by (inl h) = kinds h.rec h.is h.rec.kind refl (sym (ap (λ (x : GraphNode). node_of b x.body) (node_is shape pages n h.rec h.is)) ∙ e)
          by (inr u) = absurd (none_some (file content) (sym (ap (node_of b) u) ∙ e))
