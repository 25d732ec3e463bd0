-- What is free, and the charges of the tree for which the pages stand.
use Rattle.std.proofs.Common.{◌≡◌, ◌≢◌, ℕ, ◌+◌, ◌-◌, ◌≤◌, ◌<◌, Bool, true, false, nat_le, List, ◌∷◌, map, length, refl, sym, ap, subst, ◌∙◌, Option, Some, None, option_and_then, ◌⊎◌, inl, inr, arith}
use Rattle.std.proofs.lemmas.Bool.{and_parts, leb-true}
use Rattle.std.proofs.lemmas.List.FromFn.{length-range_with_len}
use Rattle.std.specs.List.{flat_map, range_with_len}
use Rattle.nl_field.specs.Graph.{Graph}
use Rattle.nl_field.specs.Members.{Has}
use Rattle.nl_field.specs.Numbers.{ShapeBounds}
use Rattle.nl_field.specs.declared.inode.InodeRec.{InodeRec}
use Rattle.nl_field.specs.declared.shape.Shape.{Shape}
use Rattle.nl_field.proofs.Bounds.{bounds}
use Rattle.nl_tree.specs.Charges.{meta_charge, node_charge}
use Rattle.nl_tree.specs.KeptSums.{overfull}
use Rattle.nl_tree.specs.Represents.{entries_in, node_of, node_reached}
use Rattle.nl_tree.specs.Tree.{Tree, entries_of, node_at}
use Rattle.nl_tree.proofs.TreeProofs.{path_eq}
use Rattle.nl_inode.specs.Free.{IsLeastFreeNumber, NoneFree, is_free}
use Rattle.nl_inode.specs.FreeLaws.{UsesAddress}
use Rattle.nl_inode.specs.Nodes.{Spaces}
use Rattle.nl_inode.proofs.MarkTree.{set-below}
use Rattle.nl_meta.specs.Committed.{VirtualMap}
use Rattle.nl_meta.specs.Consistent.{IsNode, PageOfStamp}
use Rattle.nl_meta.specs.Walk.{addresses_of, used_nodes}
use Rattle.nl_meta.proofs.AddressProofs.{addresses_listed}
use Rattle.nl_meta.proofs.Facts.{EachTwo}
use Rattle.nl_meta.proofs.Lists.{map-member, member-map, member-range, range-member}
use Rattle.nl_meta.proofs.NodeProofs.{is_used, used_is, used_rise}
use Rattle.nl_meta.proofs.Pairs.{mapped_two, range_rises, two_map}
use Rattle.nl_spec_image.specs.RightFor.{ChargesOfPages}
use Rattle.nl_spec_image.specs.Stands.{bytes_for}
use Rattle.nl_spec_image.proofs.Counts.{no_longer}
use Rattle.nl_spec_image.proofs.GraphOfPages.{graph}
use Rattle.nl_spec_image.proofs.SoundProofs.{right_charges}
use Rattle.nl_spec_image.proofs.Sums.{length_mapped}
use Rattle.nl_namespace.specs.Entering.{HasFreeAddress}
use Rattle.nl_namespace.specs.Standing.{HoldsTree}
use Rattle.nl_namespace.proofs.Crowded.{all, crowded, listed, used}
use Rattle.nl_namespace.proofs.EntryCounts.{entries-count}
use Rattle.nl_namespace.proofs.TreeRooms.{Fits, fits-few}
use Rattle.nl_namespace.proofs.TreeSums.{E, Path, false-true, member-not, no-sum}

differ-rise : (a b : ℕ) → a < b → a ≢ b
differ-rise a b h e = omega (arith, h, e)

true-false : true ≡ false → ⊥
true-false e = cc

module _ (shape : Shape) (pages : VirtualMap) (page_of_stamp : ℕ → Option PageOfStamp) (free : Spaces) (tree : Tree) (holds : HoldsTree shape pages page_of_stamp free tree) where
  abbrev g : Graph
  g = graph shape pages

  charges : ChargesOfPages shape pages tree
  charges = right_charges shape pages page_of_stamp tree holds.right holds.represents

  pub bounds-here : ShapeBounds shape
  bounds-here = subst ShapeBounds (sym holds.right.numbers) (bounds shape.blocks shape.pages holds.right.legal)

  -- ---- nodes

  abbrev used-numbers : List ℕ
  used-numbers = map (λ (x : ℕ × InodeRec). x.0) (used_nodes shape pages)

  is-used : (n : ℕ) (rec : InodeRec) → IsNode shape pages n rec → Has used-numbers n
  is-used n rec is = map-member (λ (x : ℕ × InodeRec). x.0) (used_nodes shape pages) (n, rec) (is_used shape pages n rec is)

  pub all-nodes : NoneFree free.nodes → node_charge tree ≡ shape.nodes
  all-nodes none =
      let all = (crowded shape pages free holds.right.tree.nodes holds.nodes holds.pool).nodes none in
      let n = no_longer (range_with_len 0 shape.nodes) used-numbers (two_map (λ a b. a < b) (λ a b. a ≢ b) differ-rise (range_with_len 0 shape.nodes) (range_rises 0 shape.nodes))
      (λ k m. let r = all k (let h = (member-range k 0 shape.nodes m).1 in omega (arith, h)) in is-used k r.0 r.1) in
      let a = length-range_with_len 0 shape.nodes in
      let b = length_mapped (λ (x : ℕ × InodeRec). x.0) (used_nodes shape pages) in
      let c = charges.used in
      let f = charges.few_nodes in
      omega (arith, n, a, b, c, f)

  pub some-nodes : (m : ℕ) → IsLeastFreeNumber m free.nodes → node_charge tree < shape.nodes
  some-nodes m least =
      let below : m < shape.nodes = let s = set-below free.nodes m least.free_itself in let c = holds.count_nodes in omega (arith, s, c) in
      let n = no_longer (m ∷ used-numbers) (range_with_len 0 shape.nodes)
      ((λ k h e. not-used (member-map (λ (x : ℕ × InodeRec). x.0) (used_nodes shape pages) k h) e), mapped_two (λ a b. a ≢ b) (λ (x : ℕ × InodeRec). x.0) (used_nodes shape pages) (two_map (λ x y. x.0 < y.0) (λ x y. x.0 ≢ y.0) (λ x y h. differ-rise x.0 y.0 h) (used_nodes shape pages) (used_rise shape pages)))
      (λ k h. in-range below k h) in
      let a = length-range_with_len 0 shape.nodes in
      let b = length_mapped (λ (x : ℕ × InodeRec). x.0) (used_nodes shape pages) in
      let c = charges.used in
      omega (arith, n, a, b, c)
    where
      below-all : m < shape.nodes
      below-all = let s = set-below free.nodes m least.free_itself in let c = holds.count_nodes in omega (arith, s, c)

      not-used : {k : ℕ} → (x : ℕ × InodeRec) × Has (used_nodes shape pages) x × (x.0 ≡ k) → m ≡ k → ⊥
      not-used r e = (holds.nodes.each m below-all).0 least.free_itself r.0.1 (subst (λ (i : ℕ). IsNode shape pages i r.0.1) (r.2 ∙ sym e) (used_is shape pages r.0 r.1))

      in-range : m < shape.nodes → (k : ℕ) → (m ≡ k) ⊎ Has used-numbers k → Has (range_with_len 0 shape.nodes) k
      in-range below k (inl e) = range-member k 0 shape.nodes (omega arith) (omega (arith, below, e))
      in-range below k (inr h) =
          let r = member-map (λ (x : ℕ × InodeRec). x.0) (used_nodes shape pages) k h in
          let i = (used_is shape pages r.0 r.1).below in
          let e = r.2 in
          range-member k 0 shape.nodes (omega arith) (omega (arith, i, e))

  -- ---- addresses of the pool

  abbrev flat : List (Bool × ℕ)
  flat = flat_map addresses_of (used_nodes shape pages)

  length-all : length (all shape pages free) ≡ meta_charge tree
  unfolding all
  length-all = length_mapped (λ (x : Bool × ℕ). x.1) flat ∙ sym charges.meta_pages

  pub all-meta : NoneFree free.pool → meta_charge tree ≡ shape.meta
  all-meta none =
      let full = (crowded shape pages free holds.right.tree.nodes holds.nodes holds.pool).pool none in
      let n = no_longer (range_with_len (67 + shape.inode_pages) shape.meta) (all shape pages free) (two_map (λ a b. a < b) (λ a b. a ≢ b) differ-rise (range_with_len (67 + shape.inode_pages) shape.meta) (range_rises (67 + shape.inode_pages) shape.meta))
      (λ a m. let r = member-range a (67 + shape.inode_pages) shape.meta m in let low = r.0 in let high = r.1 in let v = bounds-here.addresses in listed shape pages free a (full a low (omega (arith, high, v)))) in
      let a = length-range_with_len (67 + shape.inode_pages) shape.meta in
      let b = length-all in
      let c = charges.meta_pages in
      let f = charges.few_meta in
      omega (arith, n, a, b, c, f)

  pub some-meta : HasFreeAddress free → meta_charge tree < shape.meta
  unfolding all
  some-meta h =
      let n = no_longer (h.0 ∷ all shape pages free) (range_with_len (67 + shape.inode_pages) shape.meta) ((λ k m e. unused (used shape pages free k m) e), differ-all) in-range in
      let a = length-range_with_len (67 + shape.inode_pages) shape.meta in
      let b = length-all in
      omega (arith, n, a, b)
    where
      parts : (nat_le free.first h.0 ≡ true) × (is_free free.pool (h.0 - free.first) ≡ true)
      parts = and_parts _ _ h.1

      low : free.first ≤ h.0
      low = leb-true free.first h.0 parts.0

      high : h.0 < shape.vaddrs
      high =
          let s = set-below free.pool (h.0 - free.first) parts.1 in
          let c = holds.count_pool in
          let f = holds.pool.first in
          let v = bounds-here.addresses in
          let l = low in
          omega (arith, s, c, f, v, l)

      unused : {k : ℕ} → UsesAddress shape pages k → h.0 ≡ k → ⊥
      unused u e = (holds.pool.each h.0 low high).0 h.1 (subst (UsesAddress shape pages) (sym e) u)

      differ-all : EachTwo (λ a b. a ≢ b) (all shape pages free)
      differ-all = mapped_two (λ a b. a ≢ b) (λ (x : Bool × ℕ). x.1) flat (addresses_listed shape pages holds.right.tree.addresses).differ

      in-range : (a : ℕ) → (h.0 ≡ a) ⊎ Has (all shape pages free) a → Has (range_with_len (67 + shape.inode_pages) shape.meta) a
      in-range a (inl e) =
          let l = low in
          let f = holds.pool.first in
          let t = high in
          let v = bounds-here.addresses in
          range-member a (67 + shape.inode_pages) shape.meta (omega (arith, l, f, e)) (omega (arith, t, v, e))
      in-range a (inr m) =
          let u = used shape pages free a m in
          let good = holds.right.tree.addresses.good u.0 u.1 a u.2 in
          let l = good.from_pool in
          let t = good.in_pool in
          let v = bounds-here.addresses in
          range-member a (67 + shape.inode_pages) shape.meta l (omega (arith, t, v))

  -- ---- the tree fits

  pub count-at : (path : Path) (n : ℕ) → node_reached g 0 path ≡ Some n → length (entries_of tree path) ≡ length (entries_in (g n).body)
  count-at path n e = entries-count shape pages page_of_stamp holds.right tree holds.represents.is_tree.in_order holds.represents.depicts path n e

  pub few-at : (path : Path) (n : ℕ) → node_reached g 0 path ≡ Some n → length (entries_of tree path) ≤ 1024
  few-at path n e = let c = count-at path n e in let f = charges.few_entries n in omega (arith, c, f)

  pub tree-fits : Fits shape tree
  unfolding node_at
  tree-fits = record {
    entries = no-sum (λ e. overfull (length (entries_of tree e.0))) tree (λ d m. fits-few _ (by d m (node_reached g 0 d.0) refl));
    nodes = let a = charges.used in let b = charges.few_nodes in omega (arith, a, b);
    meta = let a = charges.meta_pages in let b = charges.few_meta in omega (arith, a, b);
    pages = holds.data_fits;
  }
    where
      not-there : (d : E) → Has tree d → node_at tree d.0 ≡ None → ⊥
      not-there d m e = false-true (sym (member-not d.0 tree e d m) ∙ path_eq d.0 d.0 refl)

      by : (d : E) → Has tree d → (o : Option ℕ) → node_reached g 0 d.0 ≡ o → length (entries_of tree d.0) ≤ 1024
      by d m None e = absurd (not-there d m (holds.represents.depicts d.0 ∙ ap (option_and_then (λ n. node_of (bytes_for page_of_stamp) (g n).body)) e))
      by d m (Some n) e = few-at d.0 n e
