-- The addresses of a node are the pages that its body charges, and there are no more than the pool has.
use Rattle.std.proofs.Common.{◌≡◌, ◌≢◌, ℕ, zero, suc, ◌+◌, ◌*◌, ◌≤◌, ◌<◌, Bool, true, false, not, ◌&&◌, cond, List, [], ◌∷◌, map, filter, filter_map, flat_map, length, sum_by, refl, sym, ap, ◌∙◌, subst, Option, Some, None, ◌⊎◌, inl, inr, arith, ◌==◌, nat_le, nat_lt}
use Rattle.std.proofs.lemmas.Bool.{and_parts, eqb-true, leb-true}
use Rattle.std.proofs.lemmas.List.FromFn.{length-range_with_len}
use Rattle.std.proofs.lemmas.List.Sums.{count_by-le-length, length-filter, sum_by-cons}
use Rattle.std.specs.Int.{div_ceil}
use Rattle.std.specs.List.{count_by, cons_option, list_any, list_all, range_with_len}
use Rattle.std.specs.Prelude.{slice_index, option_map}
use Rattle.nl_field.specs.EntryRecord.{entry_of}
use Rattle.nl_field.specs.Graph.{GraphNode, NodeBody, unused}
use Rattle.nl_field.specs.Inode.{are_filled, is_inode, is_inode_of_kind}
use Rattle.nl_field.specs.Members.{Has}
use Rattle.nl_field.specs.Numbers.{ShapeBounds}
use Rattle.nl_field.specs.Pointers.{is_none_pointer}
use Rattle.nl_field.specs.declared.entry.EntryRec.{EntryRec}
use Rattle.nl_field.specs.declared.inode.InodeRec.{InodeRec}
use Rattle.nl_field.specs.declared.inode.Kind.{Kind}
use Rattle.nl_field.specs.declared.inode.Kind.TheVariants.{Unused, File, Dir}
use Rattle.nl_field.specs.declared.pointer.Pointer.{Pointer}
use Rattle.nl_field.specs.declared.shape.Shape.{Shape}
use Rattle.nl_field.proofs.Bounds.{bounds}
use Rattle.nl_tree.specs.NodeCharges.{entry_pages_in, ranges_in}
use Rattle.nl_tree.specs.Represents.{entries_in}
use Rattle.nl_meta.specs.Committed.{VirtualMap}
use Rattle.nl_meta.specs.Consistent.{EntryAt, IsNode, PageOfStamp, RightFor}
use Rattle.nl_meta.specs.Nodes.{body_of, bytes_of_place, entries_of_inode, inode_at, pointers_of_inode, slots_of}
use Rattle.nl_meta.specs.Walk.{addresses_of, is_file_kind, is_used_kind, used_nodes}
use Rattle.nl_meta.proofs.AddressProofs.{addresses_listed, filled_of, inode_spelled, member_address}
use Rattle.nl_meta.proofs.Lists.{member-map, member-range, range-member, some_in, true_false}
use Rattle.nl_meta.proofs.NodeProofs.{used_is}
use Rattle.nl_meta.proofs.Pairs.{mapped_two}
use Rattle.nl_spec_image.proofs.GraphOfPages.{graph, node_is, NodeOf, node_or_none}
use Rattle.nl_spec_image.proofs.Counts.{no_longer}
use Rattle.nl_spec_image.proofs.Ranges.{range_there}
use Rattle.nl_spec_image.proofs.Sums.{length_flat, length_mapped}

-- ---- lists

no_filled : (vs : List ℕ) → list_all (λ b. b == 0) vs ≡ true → length (filter (λ a. not (a == 0)) vs) ≡ 0
no_filled [] e = refl
no_filled (a ∷ vs) e =
    let p = and_parts (a == 0) (list_all (λ b. b == 0) vs) e in
    ap (λ b. length (cond (not b) (a ∷ filter (λ a. not (a == 0)) vs) (filter (λ a. not (a == 0)) vs))) p.0 ∙ no_filled vs p.1

filled_count : (n : ℕ) (vs : List ℕ) → are_filled n vs ≡ true → length (filter (λ a. not (a == 0)) vs) ≡ n
unfolding are_filled
filled_count zero vs e = no_filled vs e
filled_count (suc n) [] e = absurd (true_false (sym e))
filled_count (suc n) (a ∷ vs) e =
    let p = and_parts (not (a == 0)) (are_filled n vs) e in
    ap (λ b. length (cond b (a ∷ filter (λ a. not (a == 0)) vs) (filter (λ a. not (a == 0)) vs))) p.0 ∙ ap (λ (k : ℕ). suc k) (filled_count n vs p.1)

all_given : {X Y : Type 0} (f : X → Option Y) (xs : List X) → ((x : X) → Has xs x → (y : Y) × (f x ≡ Some y)) → length (filter_map f xs) ≡ length xs
all_given f [] each = refl
all_given f (x ∷ xs) each = ap (λ (o : Option _). length (cons_option o (filter_map f xs))) (each x (inl refl)).1 ∙ ap (λ (k : ℕ). suc k) (all_given f xs (λ y m. each y (inr m)))

few_given : {X Y : Type 0} (f : X → Option Y) (xs : List X) → length (filter_map f xs) ≤ length xs
few_given f [] = omega arith
few_given {X} {Y} f (x ∷ xs) = by (f x) (few_given f xs)
  where
    by : (o : Option Y) → length (filter_map f xs) ≤ length xs → length (cons_option o (filter_map f xs)) ≤ suc (length xs)
    by None h = omega (arith, h)
    by (Some y) h = omega (arith, h)

count_range : (t : ℕ → Bool) (vs : List ℕ) (k : ℕ) → ((r : ℕ) → r < length vs → t (k + r) ≡ not (slice_index vs r == 0))
    → count_by t (range_with_len k (length vs)) ≡ length (filter (λ a. not (a == 0)) vs)
count_range t [] k same = refl
count_range t (a ∷ vs) k same =
    sum_by-cons (λ x. cond (t x) 1 0) k (range_with_len (k + 1) (length vs))
    ∙ (λ i. cond (here i) 1 0 + count_range t vs (k + 1) next i) ∙ by (not (a == 0))
  where
    first : k + 0 ≡ k
    first = omega arith

    here : t k ≡ not (a == 0)
    here = ap t (sym first) ∙ same 0 (omega arith)

    next : (r : ℕ) → r < length vs → t (k + 1 + r) ≡ not (slice_index vs r == 0)
    next r h = ap t (on r) ∙ same (suc r) (omega (arith, h))
      where
        on : (r : ℕ) → k + 1 + r ≡ k + suc r
        on r = omega arith

    by : (b : Bool) → cond b 1 0 + length (filter (λ a. not (a == 0)) vs) ≡ length (cond b (a ∷ filter (λ a. not (a == 0)) vs) (filter (λ a. not (a == 0)) vs))
    by true = omega arith
    by false = omega arith

sum_two : {X : Type 0} (f g h : X → ℕ) (xs : List X) → ((x : X) → Has xs x → f x + g x ≡ h x) → sum_by f xs + sum_by g xs ≡ sum_by h xs
sum_two f g h [] same = refl
sum_two f g h (x ∷ xs) same =
    let a = sum_by-cons f x xs in
    let b = sum_by-cons g x xs in
    let c = sum_by-cons h x xs in
    let s = same x (inl refl) in
    let r = sum_two f g h xs (λ y m. same y (inr m)) in
    omega (arith, a, b, c, s, r)

-- ---- a node

module _ (shape : Shape) (pages : VirtualMap) (page_of_stamp : ℕ → Option PageOfStamp) (has : RightFor shape pages page_of_stamp) where
  module _ (n : ℕ) (rec : InodeRec) (is : IsNode shape pages n rec) where
    spelled : is_inode rec ≡ true
    spelled = inode_spelled shape pages n rec is

    sixteen : length rec.addresses ≡ 16
    sixteen = eqb-true _ _ (and_parts (length rec.direct == 8) _ (and_parts (length rec.direct == 8 && length rec.addresses == 16) _ spelled).0).1

    -- each place of a directory has an entry
    entries_there : rec.kind ≡ Dir → length {A = List ℕ × ℕ} (map (λ (e : EntryRec). (e.name, e.ino)) (entries_of_inode pages rec)) ≡ rec.size
    unfolding entries_of_inode
    entries_there dir =
        length_mapped {X = EntryRec} {Y = List ℕ × ℕ} (λ e. (e.name, e.ino)) (filter_map (λ i. entry_of (bytes_of_place pages rec i)) (range_with_len 0 rec.size))
        ∙ all_given (λ i. entry_of (bytes_of_place pages rec i)) (range_with_len 0 rec.size) (λ i m. at i (member-range i 0 rec.size m).1)
        ∙ length-range_with_len 0 rec.size
      where
        at : (i : ℕ) → i < 0 + rec.size → (e : EntryRec) × (entry_of (bytes_of_place pages rec i) ≡ Some e)
        at i h = let r = has.tree.entries.spelled n rec i is dir (omega (arith, h)) in (r.0, at_place i r.0 r.1)
          where
            at_place : (i : ℕ) (e : EntryRec) → EntryAt shape pages n i e → entry_of (bytes_of_place pages rec i) ≡ Some e
            at_place i e p = ap (λ (z : InodeRec). entry_of (bytes_of_place pages z i)) (some_in rec p.rec (sym is.spelled ∙ p.is_node.spelled)) ∙ p.spelled

    abbrev kept : ℕ
    kept = length (filter (λ a. not (a == 0)) rec.addresses)

    by_kind : (k : Kind) → rec.kind ≡ k → entry_pages_in (body_of pages rec k) + ranges_in (body_of pages rec k) ≡ kept
    by_kind Unused e = absurd (is.used e)
    by_kind Dir e =
        let size = entries_there e in
        let filled = filled_count (div_ceil rec.size 64) rec.addresses (filled_of rec spelled e) in
        ap (λ (s : ℕ). div_ceil s 64 + 0) size ∙ nothing (div_ceil rec.size 64) ∙ sym filled
      where
        nothing : (m : ℕ) → m + 0 ≡ m
        nothing m = omega arith
    by_kind File e =
        nothing _
        ∙ ap (λ (len : ℕ). count_by in_range (range_with_len 0 len)) (sym sixteen)
        ∙ count_range in_range rec.addresses 0 (λ r h. ap in_range (from_zero r) ∙ range_there shape pages has.tree.addresses n rec is e r (omega (arith, h, sixteen)))
      where
        in_range : ℕ → Bool
        in_range r = list_any (λ (p : ℕ × Pointer). nat_le (8 + 256 * r) p.0 && nat_lt p.0 (264 + 256 * r)) (pointers_of_inode pages rec)

        nothing : (m : ℕ) → 0 + m ≡ m
        nothing m = omega arith

        from_zero : (r : ℕ) → 0 + r ≡ r
        from_zero r = omega arith

    -- a directory has at most 1024 entries
    few_in_kind : (k : Kind) → rec.kind ≡ k → length (entries_in (body_of pages rec k)) ≤ 1024
    unfolding is_inode_of_kind
    few_in_kind Unused e = omega arith
    few_in_kind File e = omega arith
    few_in_kind Dir e =
        let size = entries_there e in
        let kind = sym (ap (λ (k : Kind). is_inode_of_kind k rec) e) ∙ (and_parts (length rec.direct == 8 && length rec.addresses == 16) (is_inode_of_kind rec.kind rec) spelled).1 in
        let few = leb-true rec.size 1024 (and_parts _ _ (and_parts (nat_le rec.size 1024 && list_all is_none_pointer rec.direct) _ kind).0).0 in
        omega (arith, size, few)

    pub few_here : length (entries_in (graph shape pages n).body) ≤ 1024
    few_here = subst (λ (g : GraphNode). length (entries_in g.body) ≤ 1024) (sym (node_is shape pages n rec is)) (few_in_kind rec.kind refl)

    pub node_addresses : entry_pages_in (graph shape pages n).body + ranges_in (graph shape pages n).body ≡ length (addresses_of (n, rec))
    node_addresses =
        ap (λ (g : GraphNode). entry_pages_in g.body + ranges_in g.body) (node_is shape pages n rec is)
        ∙ by_kind rec.kind refl ∙ sym (length_mapped (λ a. (is_file_kind rec.kind, a)) (filter (λ a. not (a == 0)) (slots_of rec)))

  -- ---- all nodes

  pub all_addresses : sum_by (λ x. entry_pages_in (graph shape pages x.0).body) (used_nodes shape pages) + sum_by (λ x. ranges_in (graph shape pages x.0).body) (used_nodes shape pages)
      ≡ length (flat_map addresses_of (used_nodes shape pages))
  all_addresses =
      sum_two (λ (x : ℕ × InodeRec). entry_pages_in (graph shape pages x.0).body) (λ x. ranges_in (graph shape pages x.0).body) (λ x. length (addresses_of x)) (used_nodes shape pages)
      (λ x m. node_addresses x.0 x.1 (used_is shape pages x m))
      ∙ sym (length_flat addresses_of (used_nodes shape pages))

  pub few_entries : (n : ℕ) → length (entries_in (graph shape pages n).body) ≤ 1024
  few_entries n = by (node_or_none shape pages n)
    where
      by : NodeOf shape pages n ⊎ ((graph shape pages n).body ≡ unused) → length (entries_in (graph shape pages n).body) ≤ 1024
      by (inl h) = few_here n h.rec h.is
      by (inr u) = subst (λ (body : NodeBody). length (entries_in body) ≤ 1024) (sym u) (omega arith)

  pub few_nodes : length (used_nodes shape pages) ≤ shape.nodes
  unfolding used_nodes
  few_nodes =
      let given : List (ℕ × InodeRec) = filter_map (λ n. option_map (λ rec. (n, rec)) (inode_at pages n)) (range_with_len 0 shape.nodes) in
      let t = length-filter (λ (x : ℕ × InodeRec). is_used_kind x.1.kind) given in
      let a = count_by-le-length (λ (x : ℕ × InodeRec). is_used_kind x.1.kind) given in
      let b = few_given {X = ℕ} {Y = ℕ × InodeRec} (λ n. option_map (λ rec. (n, rec)) (inode_at pages n)) (range_with_len 0 shape.nodes) in
      let c = length-range_with_len 0 shape.nodes in
      omega (arith, t, a, b, c)

  bounds_here : ShapeBounds shape
  bounds_here = subst ShapeBounds (sym has.numbers) (bounds shape.blocks shape.pages has.legal)

  pub few_meta : length (flat_map addresses_of (used_nodes shape pages)) ≤ shape.meta
  few_meta =
      let two = (addresses_listed shape pages has.tree.addresses).differ in
      let n = no_longer (map (λ (x : Bool × ℕ). x.1) all) (range_with_len (67 + shape.inode_pages) shape.meta) (mapped_two (λ a b. a ≢ b) (λ (x : Bool × ℕ). x.1) all two) (λ a m. in_pool a (member-map (λ (x : Bool × ℕ). x.1) all a m)) in
      let l = length_mapped (λ (x : Bool × ℕ). x.1) all in
      let r = length-range_with_len (67 + shape.inode_pages) shape.meta in
      omega (arith, n, l, r)
    where
      all : List (Bool × ℕ)
      all = flat_map addresses_of (used_nodes shape pages)

      in_pool : (a : ℕ) → (x : Bool × ℕ) × Has (flat_map addresses_of (used_nodes shape pages)) x × (x.1 ≡ a) → Has (range_with_len (67 + shape.inode_pages) shape.meta) a
      in_pool a x =
          let m = member_address shape pages x.0 x.1 in
          let good = (addresses_listed shape pages has.tree.addresses).good m.0 m.1 m.2 m.3 m.4 m.5 in
          let same = ap (λ (z : Bool × ℕ). z.1) m.6 ∙ x.2 in
          range-member a (67 + shape.inode_pages) shape.meta (omega (arith, good.from_pool, same)) (omega (arith, good.in_pool, same, bounds_here.addresses))
