-- The charges of the tree for which an image stands.
use Rattle.std.proofs.Common.{◌≡◌, ℕ, ◌+◌, ◌<◌, List, [], ◌∷◌, map, refl, sym, ap, subst, ◌∙◌, Option, Some, None, ◌⊎◌, inl, inr, arith, ◌≢◌, length, sum_by}
use Rattle.std.specs.List.{range_with_len, AllByRecursion}
use Rattle.nl_field.specs.EntryRecord.{entry_of}
use Rattle.nl_field.specs.Graph.{GraphNode, NodeBody, unused, Graph, directory_node, file_node}
use Rattle.nl_field.specs.declared.entry.EntryRec.{EntryRec}
use Rattle.nl_field.specs.declared.inode.InodeRec.{InodeRec}
use Rattle.nl_field.specs.declared.inode.Kind.{Kind}
use Rattle.nl_field.specs.declared.inode.Kind.TheVariants.{Unused, File, Dir}
use Rattle.nl_field.specs.declared.pointer.Pointer.{Pointer}
use Rattle.nl_field.specs.declared.shape.Shape.{Shape}
use Rattle.nl_tree.specs.NodeCharges.{EntryNamesDiffer, pages_in, entry_pages_in, ranges_in}
use Rattle.nl_tree.specs.Represents.{entries_in, node_named, Represents}
use Rattle.nl_tree.specs.Tree.{Tree}
use Rattle.nl_tree.specs.TreeLaws.{IsInOrder}
use Rattle.nl_tree.proofs.ChargeProofs.{node_charges}
use Rattle.nl_meta.specs.Committed.{VirtualMap}
use Rattle.nl_field.specs.Members.{Has}
use Rattle.nl_meta.specs.Consistent.{IsNode, EntryAt, PageOfStamp, RightFor}
use Rattle.nl_meta.specs.Nodes.{inode_at, held_in, bytes_of_place, held_by, size_of, pointers_in, body_of, pointers_of, entries_of_inode}
use Rattle.nl_meta.specs.Walk.{is_used_kind, used_nodes}
use Rattle.nl_meta.proofs.Facts.{EachTwo}
use Rattle.nl_meta.proofs.Lists.{some_in, true_false, none_some, member-range, member-map}
use Rattle.nl_meta.proofs.NodeProofs.{kind_used, used_is}
use Rattle.nl_meta.proofs.Pairs.{two_within, somes_two, range_rises, itself}
use Rattle.nl_spec_image.specs.Stands.{bytes_for}
use Rattle.nl_spec_image.specs.RightFor.{ChargesOfPages}
use Rattle.nl_spec_image.proofs.GraphOfPages.{named_member, graph, node_is, NodeOf, node_or_none}
use Rattle.nl_spec_image.proofs.MetaCharge.{all_addresses, few_entries, few_meta, few_nodes}
use Rattle.nl_spec_image.proofs.Sums.{all_by, sum_mapped, length_mapped, length_flat, sum_given}
use Rattle.nl_spec_image.proofs.TreeOfPages.{once, numbers_used, reached_nodes}

module _ (shape : Shape) (pages : VirtualMap) (page_of_stamp : ℕ → Option PageOfStamp) (has : RightFor shape pages page_of_stamp) where
  abbrev g : Graph
  g = graph shape pages

  abbrev b : ℕ → List ℕ
  b = bytes_for page_of_stamp

  abbrev used_numbers : List ℕ
  used_numbers = numbers_used shape pages page_of_stamp has

  names_in : (n : ℕ) (rec : InodeRec) → IsNode shape pages n rec → rec.kind ≡ Dir → (es : List EntryRec) → EachTwo (λ e k. e.name ≢ k.name) es → EntryNamesDiffer (map (λ e. (e.name, e.ino)) es)
  names_in n rec is dir [] h = tt
  names_in n rec is dir (e ∷ es) h = (by (node_named e.name (map (λ e. (e.name, e.ino)) es)) refl, names_in n rec is dir es h.1)
    where
      by : (o : Option ℕ) → node_named e.name (map (λ e. (e.name, e.ino)) es) ≡ o → node_named e.name (map (λ e. (e.name, e.ino)) es) ≡ None
      by None a = a
      by (Some m) a =
          let q = member-map (λ (e : EntryRec). (e.name, e.ino)) es (e.name, m) (named_member e.name m _ a) in
          absurd (h.0 q.0 q.1 (sym (ap (λ (z : List ℕ × ℕ). z.0) q.2)))

  entries_two : (n : ℕ) (rec : InodeRec) → IsNode shape pages n rec → rec.kind ≡ Dir → EachTwo (λ e k. e.name ≢ k.name) (entries_of_inode pages rec)
  unfolding entries_of_inode
  entries_two n rec is dir =
      somes_two (λ (e k : EntryRec). e.name ≢ k.name) (λ i. entry_of (bytes_of_place pages rec i)) (range_with_len 0 rec.size)
      (two_within (λ i j. i < j) (λ i j. (x y : EntryRec) → entry_of (bytes_of_place pages rec i) ≡ Some x → entry_of (bytes_of_place pages rec j) ≡ Some y → x.name ≢ y.name)
      (range_with_len 0 rec.size) (range_rises 0 rec.size)
      (λ i j m k h x y a c same. itself i j (has.tree.entries.names_differ n i j x y (at i m x a) (at j k y c) same) h))
    where
      at : (i : ℕ) → Has (range_with_len 0 rec.size) i → (x : EntryRec) → entry_of (bytes_of_place pages rec i) ≡ Some x → EntryAt shape pages n i x
      at i m x a = record { rec = rec; is_node = is; is_dir = dir; below = omega (arith, (member-range i 0 rec.size m).1); spelled = a }

  all_names : AllByRecursion (λ n. EntryNamesDiffer (entries_in (g n).body)) used_numbers
  unfolding numbers_used
  all_names = all_by _ used_numbers (λ n m. of n (member-map (λ (x : ℕ × InodeRec). x.0) (used_nodes shape pages) n m))
    where
      kinds : (n : ℕ) (rec : InodeRec) → IsNode shape pages n rec → (k : Kind) → rec.kind ≡ k → EntryNamesDiffer (entries_in (body_of pages rec k))
      kinds n rec is Unused e = tt
      kinds n rec is File e = tt
      kinds n rec is Dir e = names_in n rec is e (entries_of_inode pages rec) (entries_two n rec is e)

      of : (n : ℕ) → (x : ℕ × InodeRec) × Has (used_nodes shape pages) x × (x.0 ≡ n) → EntryNamesDiffer (entries_in (g n).body)
      of n r =
          let is = subst (λ (k : ℕ). IsNode shape pages k r.0.1) r.2 (used_is shape pages r.0 r.1) in
          subst (λ (x : GraphNode). EntryNamesDiffer (entries_in x.body)) (sym (node_is shape pages n r.0.1 is)) (kinds n r.0.1 is r.0.1.kind refl)

  pointers_count : sum_by (λ n. pages_in (g n).body) used_numbers ≡ length (held_in shape pages)
  unfolding numbers_used used_nodes pointers_of
  pointers_count =
      sum_given (λ n. pages_in (g n).body) (inode_at pages) (λ x. is_used_kind x.1.kind) (range_with_len 0 shape.nodes)
      (λ n m e. empty n (node_or_none shape pages n) (λ h. none_some h.rec (sym e ∙ h.is.spelled)))
      (λ n rec m e u. empty n (node_or_none shape pages n) (λ h. true_false (sym (kind_used h.rec.kind h.is.used) ∙ ap (λ (z : InodeRec). is_used_kind z.kind) (some_in h.rec rec (sym h.is.spelled ∙ e)) ∙ u)))
      ∙ (λ i. sum_by (λ n. held_count n (g n) i) (range_with_len 0 shape.nodes))
      ∙ sym (length_flat (λ n. held_by n (g n)) (range_with_len 0 shape.nodes))
    where
      empty : (n : ℕ) → NodeOf shape pages n ⊎ ((g n).body ≡ unused) → (NodeOf shape pages n → ⊥) → pages_in (g n).body ≡ 0
      empty n (inl h) f = absurd (f h)
      empty n (inr u) f = ap pages_in u

      count : (body : NodeBody) → pages_in body ≡ length (pointers_in body)
      count unused = refl
      count (directory_node es) = refl
      count (file_node size ps) = refl

      held_count : (n : ℕ) (x : GraphNode) → pages_in x.body ≡ length (held_by n x)
      held_count n x =
          count x.body
          ∙ sym (length_mapped (λ (p : ℕ × Pointer). record { size = size_of x.body; tag = record { ino = n; generation = x.generation; index = p.0 }; pointer = p.1 }) (pointers_in x.body))

  pub charges : (tree : Tree) → IsInOrder tree → Represents b g tree → ChargesOfPages shape pages tree
  unfolding numbers_used
  charges tree in_order is = record {
    data_pages = node_charges.pages b g tree used_numbers _ _ (once shape pages page_of_stamp has) (reached_nodes shape pages page_of_stamp has) in_order is ∙ pointers_count;
    used = node_charges.nodes b g tree used_numbers _ _ (once shape pages page_of_stamp has) (reached_nodes shape pages page_of_stamp has) in_order is ∙ length_mapped (λ (x : ℕ × InodeRec). x.0) (used_nodes shape pages);
    meta_pages = node_charges.meta b g tree used_numbers _ _ (once shape pages page_of_stamp has) (reached_nodes shape pages page_of_stamp has) all_names in_order is
        ∙ ap (λ (k : ℕ). k + sum_by (λ n. ranges_in (g n).body) used_numbers) (sum_mapped (λ n. entry_pages_in (g n).body) (λ (x : ℕ × InodeRec). x.0) (used_nodes shape pages))
        ∙ ap (λ (k : ℕ). sum_by (λ (x : ℕ × InodeRec). entry_pages_in (g x.0).body) (used_nodes shape pages) + k) (sum_mapped (λ n. ranges_in (g n).body) (λ (x : ℕ × InodeRec). x.0) (used_nodes shape pages))
        ∙ all_addresses shape pages page_of_stamp has;
    few_entries = few_entries shape pages page_of_stamp has;
    few_nodes = few_nodes shape pages page_of_stamp has;
    few_meta = few_meta shape pages page_of_stamp has;
  }
