-- Directories of the tree for which metadata that is right stands, and that there is room for it.
use Rattle.std.proofs.Common.{◌≡◌, ◌≢◌, ℕ, ◌≤◌, ◌<◌, true, false, cond, nat_lt, List, [], ◌∷◌, ◌++◌, length, unwrap_or, refl, sym, ap, subst, ◌∙◌, Option, Some, None, option_and_then, ◌⊎◌, inl, inr, arith}
use Rattle.std.proofs.lemmas.Bool.{both_ways}
use Rattle.std.specs.List.{range_with_len}
use Rattle.std.specs.FinMap.Entries.{find}
use Rattle.nl_field.specs.EntryRecord.{entry_of}
use Rattle.nl_field.specs.FileContent.{empty_file}
use Rattle.nl_field.specs.Graph.{Graph, GraphNode, NodeBody}
use Rattle.nl_field.specs.Members.{Has}
use Rattle.nl_field.specs.Numbers.{ShapeBounds, max_entries}
use Rattle.nl_field.specs.declared.entry.EntryRec.{EntryRec}
use Rattle.nl_field.specs.declared.inode.InodeRec.{InodeRec}
use Rattle.nl_field.specs.declared.inode.Kind.{Kind}
use Rattle.nl_field.specs.declared.inode.Kind.TheVariants.{Dir, File, Unused}
use Rattle.nl_field.specs.declared.shape.Shape.{Shape}
use Rattle.nl_field.proofs.Bounds.{bounds}
use Rattle.nl_meta.specs.Committed.{VirtualMap}
use Rattle.nl_meta.specs.Consistent.{EntryAt, IsNode, PageOfStamp}
use Rattle.nl_meta.specs.Nodes.{body_of, bytes_of_place, entries_of_inode}
use Rattle.nl_meta.proofs.Facts.{EachTwo}
use Rattle.nl_meta.proofs.Lists.{member-range, none-any, none_some}
use Rattle.nl_meta.proofs.NodeProofs.{same_rec}
use Rattle.nl_meta.proofs.Pairs.{itself, range_rises, somes_two, two_within}
use Rattle.nl_dir.proofs.EntryLists.{has-listed, listed-has}
use Rattle.nl_dir.proofs.LawProofs.{entries_in_order, right-directory}
use Rattle.nl_tree.specs.GraphLaws.{entry_at}
use Rattle.nl_tree.specs.Represents.{entries_in, node_named, node_of, node_reached}
use Rattle.nl_tree.specs.Step.{space_refusal}
use Rattle.nl_tree.specs.Tree.{Node, Tree, entries_of, file, node_at, path_cmp, paths_eq}
use Rattle.nl_tree.specs.TreeLaws.{IsInOrder}
use Rattle.nl_tree.proofs.ChangeProofs.{at_end}
use Rattle.nl_tree.proofs.KeptProofs.{within}
use Rattle.nl_tree.proofs.SpaceProofs.{lacks_nothing}
use Rattle.nl_tree.proofs.TreeProofs.{path_eq}
use Rattle.nl_spec_image.specs.RightFor.{ChargesOfPages}
use Rattle.nl_spec_image.specs.Stands.{bytes_for}
use Rattle.nl_spec_image.proofs.GraphOfPages.{entry_found, entry_is, good_entry, graph, node_is, reached_is_node}
use Rattle.nl_spec_image.proofs.SoundProofs.{right_charges}
use Rattle.nl_spec_image.proofs.Sums.{length_mapped}
use Rattle.nl_spec_image.proofs.TreeOfPages.{node_here}
use Rattle.nl_spec_commits.specs.Trees.{RepresentsTree}
use Rattle.nl_calls_files.proofs.Entries.{IsUnder, Path, entries-count, node-for}

-- a used node that is no file is a directory
pub dir-kind : (k : Kind) → (k ≡ File → ⊥) → (k ≡ Unused → ⊥) → k ≡ Dir
dir-kind Unused a b = absurd (b refl)
dir-kind File a b = absurd (a refl)
dir-kind Dir a b = refl

some-for : (o : Option Node) (d x : Node) → o ≡ Some x → o ≡ Some (unwrap_or o d)
some-for None d x e = absurd (none_some x e)
some-for (Some y) d x e = refl

module _ (shape : Shape) (pages : VirtualMap) (page_of_stamp : ℕ → Option PageOfStamp) (tree : Tree) (runs : RepresentsTree shape pages page_of_stamp tree) where
  abbrev g : Graph
  g = graph shape pages

  abbrev b : ℕ → List ℕ
  b = bytes_for page_of_stamp

  charges : ChargesOfPages shape pages tree
  charges = right_charges shape pages page_of_stamp tree runs.right runs.represents

  bounds-here : ShapeBounds shape
  bounds-here = subst ShapeBounds (sym runs.right.numbers) (bounds shape.blocks shape.pages runs.right.legal)

  pub order : IsInOrder tree
  order = runs.represents.is_tree.in_order

  pub body-is : (n : ℕ) (rec : InodeRec) → IsNode shape pages n rec → (k : Kind) → rec.kind ≡ k → (g n).body ≡ body_of pages rec k
  body-is n rec is k kind = ap (λ (x : GraphNode). x.body) (node_is shape pages n rec is) ∙ ap (body_of pages rec) kind

  pub at-node : (path : Path) (n : ℕ) → node_reached g 0 path ≡ Some n → node_at tree path ≡ node_of b (g n).body
  at-node path n e = runs.represents.depicts path ∙ ap (option_and_then (λ k. node_of b (g k).body)) e

  under-name : (path : Path) (n : ℕ) (name : List ℕ) → node_reached g 0 path ≡ Some n → node_at tree (path ++ name ∷ []) ≡ option_and_then (λ m. node_of b (g m).body) (entry_at g n name)
  under-name path n name e = runs.represents.depicts (path ++ name ∷ []) ∙ ap (option_and_then (λ k. node_of b (g k).body)) (at_end g path name n e)

  module _ (path : Path) (n : ℕ) (reached : node_reached g 0 path ≡ Some n) (rec : InodeRec) (is : IsNode shape pages n rec) where
    -- ---- a directory

    module _ (dir : rec.kind ≡ Dir) where
      place-of : (e : EntryRec) → Has (entries_of_inode pages rec) e → (i : ℕ) × EntryAt shape pages n i e
      unfolding entries_of_inode
      place-of e has =
          let p = has-listed (λ i. entry_of (bytes_of_place pages rec i)) rec.size e has in
          (p.0, record { rec = rec; is_node = is; is_dir = dir; below = p.1; spelled = p.2 })

      listed : (i : ℕ) (e : EntryRec) → EntryAt shape pages n i e → Has (entries_of_inode pages rec) e
      unfolding entries_of_inode
      listed i e a =
          let same = same_rec shape pages n a.rec rec a.is_node is in
          listed-has (λ i. entry_of (bytes_of_place pages rec i)) rec.size i e (subst (λ (r : InodeRec). i < r.size) same a.below)
          (subst (λ (r : InodeRec). entry_of (bytes_of_place pages r i) ≡ Some e) same a.spelled)

      used-there : (e : EntryRec) → Has (entries_of_inode pages rec) e → node_of b (g e.ino).body ≡ Some (node-for b g path e.ino)
      used-there e has =
          let p = place-of e has in
          let good = good_entry shape pages runs.right.tree.entries runs.right.tree.nodes n p.0 e p.1 in
          let x = node_here shape pages page_of_stamp runs.right e.ino in
          some-for (node_of b (g e.ino).body) (file empty_file) x.0 (x.1 good.target good.is_node)

      pub under-directory : IsUnder b g path tree (entries_of_inode pages rec)
      under-directory = record {
        there = λ e has.
            let p = place-of e has in
            under-name path n e.name reached ∙ ap (option_and_then (λ m. node_of b (g m).body)) (entry_found shape pages runs.right.tree.entries runs.right.tree.nodes n p.0 e p.1) ∙ used-there e has;
        all = λ name node at. by name node (entry_at g n name) refl (sym (under-name path n name reached) ∙ at);
      }
        where
          by : (name : List ℕ) (node : Node) (o : Option ℕ) → entry_at g n name ≡ o → option_and_then (λ m. node_of b (g m).body) (entry_at g n name) ≡ Some node
              → (e : EntryRec) × Has (entries_of_inode pages rec) e × (e.name ≡ name)
          by name node None e h = absurd (none_some node (sym (ap (option_and_then (λ m. node_of b (g m).body)) e) ∙ h))
          by name node (Some m) e h = let r = entry_is shape pages n name m e in (r.entry, listed r.place r.entry r.at, r.name)

      names-two : EachTwo (λ e k. e.name ≢ k.name) (entries_of_inode pages rec)
      unfolding entries_of_inode
      names-two =
          somes_two (λ (e k : EntryRec). e.name ≢ k.name) (λ i. entry_of (bytes_of_place pages rec i)) (range_with_len 0 rec.size)
          (two_within (λ i j. i < j) (λ i j. (x y : EntryRec) → entry_of (bytes_of_place pages rec i) ≡ Some x → entry_of (bytes_of_place pages rec j) ≡ Some y → x.name ≢ y.name)
          (range_with_len 0 rec.size) (range_rises 0 rec.size)
          (λ i j m k h x y a c same. itself i j (runs.right.tree.entries.names_differ n i j x y (at i m x a) (at j k y c) same) h))
        where
          at : (i : ℕ) → Has (range_with_len 0 rec.size) i → (x : EntryRec) → entry_of (bytes_of_place pages rec i) ≡ Some x → EntryAt shape pages n i x
          at i m x a = record { rec = rec; is_node = is; is_dir = dir; below = omega (arith, (member-range i 0 rec.size m).1); spelled = a }

      counted-entries : length (entries_of tree path) ≡ length (entries_of_inode pages rec)
      counted-entries = entries-count b g path tree (entries_of_inode pages rec) under-directory order names-two

      -- the directory has as many entries as its record tells
      pub directory-count : length (entries_of tree path) ≡ rec.size
      directory-count = counted-entries ∙ (entries_in_order pages rec (right-directory shape pages n rec runs.right.tree.addresses runs.right.tree.entries is dir)).count

      directory-few : length (entries_of tree path) ≤ max_entries
      directory-few =
          let few = charges.few_entries n in
          let body = ap (λ (x : NodeBody). length (entries_in x)) (body-is n rec is Dir dir) in
          let same = length_mapped {Y = List ℕ × ℕ} (λ (e : EntryRec). (e.name, e.ino)) (entries_of_inode pages rec) in
          let count = counted-entries in
          omega (arith, few, body, same, count)

    -- ---- a file

    module _ (is_file : rec.kind ≡ File) where
      under-file : IsUnder b g path tree []
      under-file = record { there = λ e has. absurd has; all = λ name node at. absurd (none_some node (sym (bare name) ∙ at)) }
        where
          bare : (name : List ℕ) → node_at tree (path ++ name ∷ []) ≡ None
          bare name = under-name path n name reached ∙ ap (λ (x : NodeBody). option_and_then (λ m. node_of b (g m).body) (node_named name (entries_in x))) (body-is n rec is File is_file)

      file-few : length (entries_of tree path) ≤ max_entries
      file-few = let count = entries-count b g path tree [] under-file order tt in omega (arith, count)

    few-entries : length (entries_of tree path) ≤ max_entries
    few-entries = kinds rec.kind refl
      where
        kinds : (k : Kind) → rec.kind ≡ k → length (entries_of tree path) ≤ max_entries
        kinds Unused e = absurd (is.used e)
        kinds File e = file-few e
        kinds Dir e = directory-few e

  -- ---- there is room for it

  at-path : (t : Tree) (e : List (List ℕ) × Node) → Has t e → find path_cmp e.0 t ≡ None → ⊥
  at-path [] e has h = has
  at-path (x ∷ t) e has h =
      elim (paths_eq e.0 x.0) as (λ b. paths_eq e.0 x.0 ≡ b → cond b (Some x.1) (find path_cmp e.0 t) ≡ None → ⊥)
      [ true ↦ λ b h. none_some x.1 (sym h) | false ↦ λ b h. by (at-path t e) b h has ] refl h
    where
      by : (Has t e → find path_cmp e.0 t ≡ None → ⊥) → paths_eq e.0 x.0 ≡ false → find path_cmp e.0 t ≡ None → (x ≡ e) ⊎ Has t e → ⊥
      by rest b h (inl s) = both_ways _ b (path_eq e.0 x.0 (ap (λ (y : List (List ℕ) × Node). y.0) (sym s)))
      by rest b h (inr m) = rest m h

  few-at : (e : List (List ℕ) × Node) → Has tree e → length (entries_of tree e.0) ≤ max_entries
  unfolding node_at
  few-at e has = by (node_reached g 0 e.0) refl
    where
      some-nodes : 0 < shape.nodes
      some-nodes = let s = bounds-here.some_nodes in omega (arith, s)

      by : (o : Option ℕ) → node_reached g 0 e.0 ≡ o → length (entries_of tree e.0) ≤ max_entries
      by None r = absurd (at-path tree e has (runs.represents.depicts e.0 ∙ ap (option_and_then (λ k. node_of b (g k).body)) r))
      by (Some n) r =
          let node = reached_is_node shape pages runs.right.tree.entries runs.right.tree.nodes e.0 n some-nodes r in
          few-entries e.0 n r node.rec node.is

  pub room : None ≡ space_refusal shape tree
  room = lacks_nothing shape tree (sym (none-any (λ e. nat_lt max_entries (length (entries_of tree e.0))) tree (λ e has. sym (within max_entries _ _ refl (few-at e has)))))
      (within shape.nodes _ _ refl (let a = charges.used in let c = charges.few_nodes in omega (arith, a, c)))
      (within shape.meta _ _ refl (let a = charges.meta_pages in let c = charges.few_meta in omega (arith, a, c)))
      (within shape.cap _ _ refl runs.data_fits)
