-- A directory of the tree has as many entries as its node.
use Rattle.std.proofs.Common.{◌≡◌, ◌≢◌, ℕ, ◌<◌, Bool, true, false, cond, List, [], ◌∷◌, ◌++◌, map, filter, length, refl, sym, ap, subst, ◌∙◌, Option, Some, None, ◌⊎◌, inl, inr, arith}
use Rattle.std.proofs.lemmas.List.Sums.{length-filter}
use Rattle.std.specs.List.{AllByRecursion, range_with_len}
use Rattle.nl_field.specs.EntryRecord.{entry_of}
use Rattle.nl_field.specs.Graph.{Graph, GraphNode, NodeBody, unused}
use Rattle.nl_field.specs.Members.{Has}
use Rattle.nl_field.specs.declared.entry.EntryRec.{EntryRec}
use Rattle.nl_field.specs.declared.inode.InodeRec.{InodeRec}
use Rattle.nl_field.specs.declared.inode.Kind.{Kind}
use Rattle.nl_field.specs.declared.inode.Kind.TheVariants.{Unused, File, Dir}
use Rattle.nl_field.specs.declared.shape.Shape.{Shape}
use Rattle.nl_tree.specs.CountLaws.{Differ}
use Rattle.nl_tree.specs.NodeCharges.{EntryNamesDiffer, ReachedNodes}
use Rattle.nl_tree.specs.KeptSums.{is_entry_of}
use Rattle.nl_tree.specs.Represents.{Represents, entries_in, node_named, node_reached}
use Rattle.nl_tree.specs.Tree.{Tree, entries_of}
use Rattle.nl_tree.specs.TreeLaws.{IsInOrder}
use Rattle.nl_tree.proofs.ChangeProofs.{at_end, some}
use Rattle.nl_tree.proofs.ChargeProofs.{is_child_of, node_charges}
use Rattle.nl_tree.proofs.CountProofs.{count_laws}
use Rattle.nl_tree.proofs.GraphProofs.{eq_name, name_eq, names_eq, not_true, one_path_to}
use Rattle.nl_meta.specs.Committed.{VirtualMap}
use Rattle.nl_meta.specs.Consistent.{EntryAt, IsNode, PageOfStamp, RightFor}
use Rattle.nl_meta.specs.Nodes.{body_of, bytes_of_place, entries_of_inode}
use Rattle.nl_meta.proofs.Facts.{EachTwo}
use Rattle.nl_meta.proofs.Lists.{filter-member, member-filter, member-map, member-range, none_some}
use Rattle.nl_meta.proofs.Pairs.{itself, range_rises, somes_two, two_within}
use Rattle.nl_spec_image.specs.Stands.{bytes_for}
use Rattle.nl_spec_image.proofs.GraphOfPages.{NodeOf, graph, named_member, node_is, node_or_none}
use Rattle.nl_spec_image.proofs.Sums.{length_mapped}
use Rattle.nl_spec_image.proofs.TreeOfPages.{located, node_here, numbers_used, once, reached_nodes}
use Rattle.nl_namespace.proofs.TreeSums.{Path, child-is, count-sum, one}

-- ---- lists

member : (P : ℕ → Type 0) (ns : List ℕ) (n : ℕ) → AllByRecursion P ns → Has ns n → P n
member P [] n all h = absurd h
member P (m ∷ ns) n all (inl e) = subst P e all.0
member P (m ∷ ns) n all (inr h) = member P ns n all.1 h

differ-filter : (t : ℕ → Bool) (ns : List ℕ) → Differ ns → Differ (filter t ns)
differ-filter t [] d = tt
differ-filter t (n ∷ ns) d =
    elim (t n) as (λ b. Differ (cond b (n ∷ filter t ns) (filter t ns)))
    [ true ↦ ((λ h. d.0 (member-filter t ns n h).0), differ-filter t ns d.1) | false ↦ differ-filter t ns d.1 ]

-- ---- the numbers that entries name

abbrev numbers : List (List ℕ × ℕ) → List ℕ
numbers es = map (λ e. e.1) es

has-number : (es : List (List ℕ × ℕ)) (x : List ℕ) (m : ℕ) → Has es (x, m) → Has (numbers es) m
has-number [] x m h = absurd h
has-number (e ∷ es) x m (inl s) = inl (ap (λ (z : List ℕ × ℕ). z.1) s)
has-number (e ∷ es) x m (inr h) = inr (has-number es x m h)

at-head : (e : List ℕ × ℕ) (es : List (List ℕ × ℕ)) → node_named e.0 (e ∷ es) ≡ Some e.1
at-head e es = ap (λ t. cond t (Some e.1) (node_named e.0 es)) (name_eq e.0 e.0 refl)

in-rest : (e : List ℕ × ℕ) (es : List (List ℕ × ℕ)) (x : List ℕ) (m : ℕ) → node_named e.0 es ≡ None → node_named x es ≡ Some m → node_named x (e ∷ es) ≡ Some m
in-rest e es x m none at =
    ap (λ t. cond t (Some e.1) (node_named x es))
    (not_true (names_eq x e.0) (λ h. absurd (none_some m (sym none ∙ ap (λ (z : List ℕ). node_named z es) (sym (eq_name x e.0 h)) ∙ at)))) ∙ at

in-named : (m : ℕ) (es : List (List ℕ × ℕ)) → EntryNamesDiffer es → Has (numbers es) m → (x : List ℕ) × (node_named x es ≡ Some m)
in-named m [] d h = absurd h
in-named m (y ∷ es) d (inl e) = (y.0, at-head y es ∙ some e)
in-named m (y ∷ es) d (inr h) = let r = in-named m es d.1 h in (r.0, in-rest y es r.0 m d.0 r.1)

differ-numbers : (es : List (List ℕ × ℕ)) → EntryNamesDiffer es → ((x y : List ℕ) (m : ℕ) → node_named x es ≡ Some m → node_named y es ≡ Some m → x ≡ y) → Differ (numbers es)
differ-numbers [] d same = tt
differ-numbers (e ∷ es) d same =
    ((λ h. again (in-named e.1 es d.1 h)), differ-numbers es d.1 (λ x y m a b. same x y m (in-rest e es x m d.0 a) (in-rest e es y m d.0 b)))
  where
    again : (x : List ℕ) × (node_named x es ≡ Some e.1) → ⊥
    again r = none_some e.1 (sym d.0 ∙ ap (λ (z : List ℕ). node_named z es) (same e.0 r.0 e.1 (at-head e es) (in-rest e es r.0 e.1 d.0 r.1)) ∙ r.1)

-- ---- the entries of a node

module _ (shape : Shape) (pages : VirtualMap) (page_of_stamp : ℕ → Option PageOfStamp) (has : RightFor shape pages page_of_stamp) where
  abbrev g : Graph
  g = graph shape pages

  abbrev b : ℕ → List ℕ
  b = bytes_for page_of_stamp

  names-in : (es : List EntryRec) → EachTwo (λ e k. e.name ≢ k.name) es → EntryNamesDiffer (map (λ e. (e.name, e.ino)) es)
  names-in [] h = tt
  names-in (e ∷ es) h = (by (node_named e.name (map (λ e. (e.name, e.ino)) es)) refl, names-in es h.1)
    where
      by : (o : Option ℕ) → node_named e.name (map (λ e. (e.name, e.ino)) es) ≡ o → node_named e.name (map (λ e. (e.name, e.ino)) es) ≡ None
      by None a = a
      by (Some m) a =
          let q = member-map (λ (e : EntryRec). (e.name, e.ino)) es (e.name, m) (named_member e.name m _ a) in
          absurd (h.0 q.0 q.1 (sym (ap (λ (z : List ℕ × ℕ). z.0) q.2)))

  entries-two : (n : ℕ) (rec : InodeRec) → IsNode shape pages n rec → rec.kind ≡ Dir → EachTwo (λ e k. e.name ≢ k.name) (entries_of_inode pages rec)
  unfolding entries_of_inode
  entries-two n rec is dir =
      somes_two (λ (e k : EntryRec). e.name ≢ k.name) (λ i. entry_of (bytes_of_place pages rec i)) (range_with_len 0 rec.size)
      (two_within (λ i j. i < j) (λ i j. (x y : EntryRec) → entry_of (bytes_of_place pages rec i) ≡ Some x → entry_of (bytes_of_place pages rec j) ≡ Some y → x.name ≢ y.name)
      (range_with_len 0 rec.size) (range_rises 0 rec.size)
      (λ i j m k h x y a c same. itself i j (has.tree.entries.names_differ n i j x y (at i m x a) (at j k y c) same) h))
    where
      at : (i : ℕ) → Has (range_with_len 0 rec.size) i → (x : EntryRec) → entry_of (bytes_of_place pages rec i) ≡ Some x → EntryAt shape pages n i x
      at i m x a = record { rec = rec; is_node = is; is_dir = dir; below = omega (arith, (member-range i 0 rec.size m).1); spelled = a }

  names-of : (n : ℕ) → EntryNamesDiffer (entries_in (g n).body)
  names-of n = by (node_or_none shape pages n)
    where
      kinds : (rec : InodeRec) → IsNode shape pages n rec → (k : Kind) → rec.kind ≡ k → EntryNamesDiffer (entries_in (body_of pages rec k))
      kinds rec is Unused e = tt
      kinds rec is File e = tt
      kinds rec is Dir e = names-in (entries_of_inode pages rec) (entries-two n rec is e)

      by : NodeOf shape pages n ⊎ ((g n).body ≡ unused) → EntryNamesDiffer (entries_in (g n).body)
      by (inl h) = subst (λ (x : GraphNode). EntryNamesDiffer (entries_in x.body)) (sym (node_is shape pages n h.rec h.is)) (kinds h.rec h.is h.rec.kind refl)
      by (inr u) = subst (λ (x : NodeBody). EntryNamesDiffer (entries_in x)) (sym u) tt

  abbrev ns : List ℕ
  ns = numbers_used shape pages page_of_stamp has

  abbrev path_of : ℕ → Path
  path_of n = (located shape pages page_of_stamp has n).0

  abbrev is_child : Path → ℕ → Bool
  is_child path m = is_entry_of path (path_of m)

  pub entries-count : (tree : Tree) → IsInOrder tree → Represents b g tree → (path : Path) (n : ℕ) → node_reached g 0 path ≡ Some n → length (entries_of tree path) ≡ length (entries_in (g n).body)
  entries-count tree in_order is path n at_n =
      count-sum path tree ∙ node_charges.sum_over b g tree ns path_of _ (λ e. one path e.0) (once shape pages page_of_stamp has) reached in_order is ∙ sym (length-filter (is_child path) ns)
      ∙ count_laws.length_of_members (filter (is_child path) ns) (numbers (entries_in (g n).body)) (differ-filter (is_child path) ns reached.differ)
      (differ-numbers (entries_in (g n).body) (names-of n) (λ x y m a b. ((once shape pages page_of_stamp has).once n n m x y a b).1)) there back
      ∙ length_mapped (λ (e : List ℕ × ℕ). e.1) (entries_in (g n).body)
    where
      reached : ReachedNodes b g ns path_of (λ n. (node_here shape pages page_of_stamp has n).0)
      reached = reached_nodes shape pages page_of_stamp has

      at-path : (m : ℕ) → Has ns m → node_reached g 0 (path_of m) ≡ Some m
      at-path m h = (member _ ns m reached.each h).0

      there : (m : ℕ) → Has (filter (is_child path) ns) m → Has (numbers (entries_in (g n).body)) m
      there m h =
          let r = member-filter (is_child path) ns m h in
          let c = child-is path (path_of m) r.1 in
          has-number (entries_in (g n).body) c.0 m (named_member c.0 m (entries_in (g n).body) (sym (at_end g path c.0 n at_n) ∙ ap (node_reached g 0) (sym c.1) ∙ at-path m r.0))

      back : (m : ℕ) → Has (numbers (entries_in (g n).body)) m → Has (filter (is_child path) ns) m
      back m h =
          let r = in-named m (entries_in (g n).body) (names-of n) h in
          let at_m = at_end g path r.0 n at_n ∙ r.1 in
          let listed = reached.all (path ++ r.0 ∷ []) m at_m in
          filter-member (is_child path) ns m listed
          (ap (is_entry_of path) (one_path_to g (once shape pages page_of_stamp has) m (path_of m) (path ++ r.0 ∷ []) (at-path m listed) at_m) ∙ is_child_of path r.0)
