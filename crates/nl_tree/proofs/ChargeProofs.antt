-- Proofs of `NodeCharges`.
use Rattle.std.proofs.Common.{◌≡◌, ℕ, suc, ◌+◌, ◌*◌, nat_le, nat_lt, Bool, true, false, ◌&&◌, ◌||◌, cond, eqb, List, [], ◌∷◌, ◌++◌, length, map, filter, sum_by, count_by, refl, sym, ap, subst, ◌∙◌, Option, Some, None, ◌⊎◌, inl, inr, arith}
use Rattle.std.proofs.Common.{drop}
use Rattle.std.proofs.lemmas.List.{length-append}
use Rattle.std.proofs.lemmas.Bool.{eqb-true, eqb-false}
use Rattle.std.proofs.lemmas.List.Sums.{sum_by-cons, length-filter}
use Rattle.std.specs.List.{AllByRecursion, list_any, range_with_len}
use Rattle.std.specs.FinMap.Entries.{find}
use Rattle.std.specs.Prelude.{◌==◌}
use Rattle.std.specs.Int.{div_ceil}
use Rattle.nl_field.specs.Graph.{NodeBody, unused, directory_node, file_node, Graph}
use Rattle.nl_field.specs.declared.pointer.Pointer.{Pointer}
use Rattle.nl_tree.specs.Tree.{Node, Tree, path_cmp, paths_eq, is_at_or_under, with_all, all_paths, all_nodes, entries_of}
use Rattle.nl_tree.specs.TreeLaws.{IsInOrder, or_else}
use Rattle.nl_tree.specs.Charges.{data_charge, node_charge, meta_charge, data_of_node, ranges_of_node}
use Rattle.nl_tree.specs.Represents.{entries_in, node_named, node_reached, node_of, Represents}
use Rattle.nl_tree.specs.GraphLaws.{NamedOnce}
use Rattle.nl_field.specs.Members.{Has}
use Rattle.nl_tree.specs.TreeOfNodes.{tree_of}
use Rattle.nl_tree.specs.CountLaws.{Differ}
use Rattle.nl_tree.specs.NodeCharges.{ReachedNodes, EntryNamesDiffer, pages_in, entry_pages_in, ranges_in, NodeCharges}
use Rattle.nl_tree.proofs.TreeProofs.{tree_laws, eq_path, find_all, sorted_all, from_T, under_append, under_parts}
use Rattle.nl_tree.proofs.GraphProofs.{inside, not_none, not_true, one_path_to, names_eq, eq_name, name_eq}
use Rattle.nl_tree.proofs.ChangeProofs.{at_end, some, false_true}
use Rattle.nl_tree.proofs.TreeOfProofs.{tree_of_nodes}
use Rattle.nl_tree.proofs.CountProofs.{count_laws}

-- sums over the members of a list
pub same_sums : (f g : ℕ → ℕ) (ns : List ℕ) → ((n : ℕ) → Has ns n → f n ≡ g n) → sum_by f ns ≡ sum_by g ns
same_sums f g [] same = refl
same_sums f g (n ∷ ns) same =
    sum_by-cons f n ns ∙ ap (λ (k : ℕ). k + sum_by f ns) (same n (inl refl)) ∙ ap (λ (k : ℕ). g n + k) (same_sums f g ns (λ m h. same m (inr h))) ∙ sym (sum_by-cons g n ns)

sum_by-map : {X Y : Type 0} (f : Y → ℕ) (g : X → Y) (xs : List X) → sum_by f (map g xs) ≡ sum_by (λ x. f (g x)) xs
sum_by-map f g [] = refl
sum_by-map f g (x ∷ xs) = sum_by-cons f (g x) (map g xs) ∙ ap (λ (k : ℕ). f (g x) + k) (sum_by-map f g xs) ∙ sym (sum_by-cons (λ x. f (g x)) x xs)

length-ones : {X : Type 0} (xs : List X) → length xs ≡ sum_by (λ x. 1) xs
length-ones [] = refl
length-ones (x ∷ xs) = one _ _ (length-ones xs) ∙ sym (sum_by-cons (λ x. 1) x xs)
  where
    one : (a b : ℕ) → a ≡ b → suc a ≡ 1 + b
    one a b e = omega arith

length-map : {X Y : Type 0} (g : X → Y) (xs : List X) → length (map g xs) ≡ length xs
length-map g [] = refl
length-map g (x ∷ xs) = ap (λ (k : ℕ). suc k) (length-map g xs)

member : (P : ℕ → Type 0) (ns : List ℕ) (n : ℕ) → AllByRecursion P ns → Has ns n → P n
member P [] n all h = absurd h
member P (m ∷ ns) n all (inl e) = subst P e all.0
member P (m ∷ ns) n all (inr h) = member P ns n all.1 h

-- ---- members that pass a test

in_filter : (t : ℕ → Bool) (ns : List ℕ) (m : ℕ) → Has (filter t ns) m → Has ns m × (t m ≡ true)
in_filter t [] m h = absurd h
in_filter t (n ∷ ns) m h =
    elim (t n) as (λ b. t n ≡ b → Has (cond b (n ∷ filter t ns) (filter t ns)) m → Has (n ∷ ns) m × (t m ≡ true)) [
      | true ↦ λ e h. first (in_filter t ns m) e h
      | false ↦ λ e h. let r = in_filter t ns m h in (inr r.0, r.1)
    ] refl h
  where
    first : (Has (filter t ns) m → Has ns m × (t m ≡ true)) → t n ≡ true → (n ≡ m) ⊎ Has (filter t ns) m → Has (n ∷ ns) m × (t m ≡ true)
    first rest e (inl s) = (inl s, ap t (sym s) ∙ e)
    first rest e (inr h) = (inr (rest h).0, (rest h).1)

to_filter : (t : ℕ → Bool) (ns : List ℕ) (m : ℕ) → Has ns m → t m ≡ true → Has (filter t ns) m
to_filter t [] m h e = absurd h
to_filter t (n ∷ ns) m (inl s) e = subst (λ b. Has (cond b (n ∷ filter t ns) (filter t ns)) m) (sym (ap t s ∙ e)) (inl s)
to_filter t (n ∷ ns) m (inr h) e =
    elim (t n) as (λ b. Has (cond b (n ∷ filter t ns) (filter t ns)) m) [ true ↦ inr (to_filter t ns m h e) | false ↦ to_filter t ns m h e ]

differ_filter : (t : ℕ → Bool) (ns : List ℕ) → Differ ns → Differ (filter t ns)
differ_filter t [] d = tt
differ_filter t (n ∷ ns) d =
    elim (t n) as (λ b. Differ (cond b (n ∷ filter t ns) (filter t ns)))
    [ true ↦ ((λ h. d.0 (in_filter t ns n h).0), differ_filter t ns d.1) | false ↦ differ_filter t ns d.1 ]

-- ---- the numbers that entries name

abbrev numbers : List (List ℕ × ℕ) → List ℕ
numbers es = map (λ e. e.1) es

named_in : (x : List ℕ) (m : ℕ) (es : List (List ℕ × ℕ)) → node_named x es ≡ Some m → Has (numbers es) m
named_in x m [] e = absurd (not_none m e)
named_in x m (y ∷ es) e =
    elim (names_eq x y.0) as (λ t. cond t (Some y.1) (node_named x es) ≡ Some m → Has (numbers (y ∷ es)) m)
    [ true ↦ λ e. inl (inside y.1 m e) | false ↦ λ e. inr (named_in x m es e) ] e

at_head : (e : List ℕ × ℕ) (es : List (List ℕ × ℕ)) → node_named e.0 (e ∷ es) ≡ Some e.1
at_head e es = ap (λ t. cond t (Some e.1) (node_named e.0 es)) (name_eq e.0 e.0 refl)

in_rest : (e : List ℕ × ℕ) (es : List (List ℕ × ℕ)) (x : List ℕ) (m : ℕ) → node_named e.0 es ≡ None → node_named x es ≡ Some m → node_named x (e ∷ es) ≡ Some m
in_rest e es x m none at =
    ap (λ t. cond t (Some e.1) (node_named x es))
    (not_true (names_eq x e.0) (λ h. absurd (not_none m (sym none ∙ ap (λ (z : List ℕ). node_named z es) (sym (eq_name x e.0 h)) ∙ at)))) ∙ at

in_named : (m : ℕ) (es : List (List ℕ × ℕ)) → EntryNamesDiffer es → Has (numbers es) m → (x : List ℕ) × (node_named x es ≡ Some m)
in_named m [] d h = absurd h
in_named m (y ∷ es) d (inl e) = (y.0, at_head y es ∙ some e)
in_named m (y ∷ es) d (inr h) = let r = in_named m es d.1 h in (r.0, in_rest y es r.0 m d.0 r.1)

differ_numbers : (es : List (List ℕ × ℕ)) → EntryNamesDiffer es → ((x y : List ℕ) (m : ℕ) → node_named x es ≡ Some m → node_named y es ≡ Some m → x ≡ y) → Differ (numbers es)
differ_numbers [] d one = tt
differ_numbers (e ∷ es) d one =
    ((λ h. again (in_named e.1 es d.1 h)), differ_numbers es d.1 (λ x y m a b. one x y m (in_rest e es x m d.0 a) (in_rest e es y m d.0 b)))
  where
    again : (x : List ℕ) × (node_named x es ≡ Some e.1) → ⊥
    again r = not_none e.1 (sym d.0 ∙ ap (λ (z : List ℕ). node_named z es) (one e.0 r.0 e.1 (at_head e es) (in_rest e es r.0 e.1 d.0 r.1)) ∙ r.1)

-- ---- children

abbrev pub is_child : List (List ℕ) → List (List ℕ) → Bool
is_child p q = length q == length p + 1 && is_at_or_under p q

both_true : (a b : Bool) → (a && b) ≡ true → (a ≡ true) × (b ≡ true)
both_true true b h = (refl, h)
both_true false b h = absurd (false_true h)

child_is : (p q : List (List ℕ)) → is_child p q ≡ true → (x : List ℕ) × (q ≡ p ++ x ∷ [])
child_is p q h = by (drop (length p) q) (sym (under_parts p q parts.1))
  where
    parts : (length q == length p + 1 ≡ true) × (is_at_or_under p q ≡ true)
    parts = both_true _ _ h

    long : (r : List (List ℕ)) → q ≡ p ++ r → length r ≡ 1
    long r e = lengths _ _ _ (sym (length-append p r) ∙ ap (λ (z : List (List ℕ)). length z) (sym e)) (eqb-true _ _ parts.0)
      where
        lengths : (a b c : ℕ) → a + b ≡ c → c ≡ a + 1 → b ≡ 1
        lengths a b c e f = omega arith

    by : (r : List (List ℕ)) → q ≡ p ++ r → (x : List ℕ) × (q ≡ p ++ x ∷ [])
    by [] e = absurd (none (long [] e))
      where
        none : length {A = List ℕ} [] ≡ 1 → ⊥
        none e = cc
    by (x ∷ []) e = (x, e)
    by (x ∷ y ∷ r) e = absurd (two (length r) (long (x ∷ y ∷ r) e))
      where
        two : (k : ℕ) → suc (suc k) ≡ 1 → ⊥
        two k e = omega arith

pub is_child_of : (p : List (List ℕ)) (x : List ℕ) → is_child p (p ++ x ∷ []) ≡ true
is_child_of p x =
    ap (λ t. t && is_at_or_under p (p ++ x ∷ [])) (eqb_same _ _ (length-append p (x ∷ []))) ∙ under_append p (x ∷ [])
  where
    eqb_same : (a b : ℕ) → a ≡ b → eqb a b ≡ true
    eqb_same a b e = by (eqb a b) refl
      where
        by : (t : Bool) → eqb a b ≡ t → eqb a b ≡ true
        by true h = h
        by false h = absurd (eqb-false a b h e)

list_any-map : {X Y : Type 0} (p : Y → Bool) (g : X → Y) (xs : List X) → list_any p (map g xs) ≡ list_any (λ x. p (g x)) xs
list_any-map p g [] = refl
list_any-map p g (x ∷ xs) = ap (λ t. p (g x) || t) (list_any-map p g xs)

same_node : (a b : Node) → Some a ≡ Some b → a ≡ b
same_node a b e = cc

no_node : (x : Node) → None ≡ Some x → ⊥
no_node x e = cc

data_same : (b : ℕ → List ℕ) (body : NodeBody) (x : Node) → node_of b body ≡ Some x → data_of_node x ≡ pages_in body
data_same b unused x e = absurd (no_node x e)
data_same b (directory_node es) x e = ap data_of_node (sym (same_node _ _ e))
data_same b (file_node size ps) x e = ap data_of_node (sym (same_node _ _ e)) ∙ length-map (λ p. (p.0, b p.1.stamp)) ps

ranges_same : (b : ℕ → List ℕ) (body : NodeBody) (x : Node) → node_of b body ≡ Some x → ranges_of_node x ≡ ranges_in body
ranges_same b unused x e = absurd (no_node x e)
ranges_same b (directory_node es) x e = ap ranges_of_node (sym (same_node _ _ e))
ranges_same b (file_node size ps) x e =
    ap ranges_of_node (sym (same_node _ _ e))
    ∙ (λ i. count_by (λ r. list_any-map {X = ℕ × Pointer} {Y = ℕ × List ℕ} (λ page. nat_le (8 + 256 * r) page.0 && nat_lt page.0 (264 + 256 * r)) (λ (p : ℕ × Pointer). (p.0, b p.1.stamp)) ps i) (range_with_len 0 16))

module _ (b : ℕ → List ℕ) (g : Graph) (path_of : ℕ → List (List ℕ)) (node : ℕ → Node) (once : NamedOnce g) where
  abbrev Is : ℕ → Type 0
  Is n = (node_reached g 0 (path_of n) ≡ Some n) × (node_of b (g n).body ≡ Some (node n))

  abbrev listed : List ℕ → Tree
  listed ns = map (λ n. (path_of n, node n)) ns

  not_listed : (n : ℕ) (ns : List ℕ) → node_reached g 0 (path_of n) ≡ Some n → AllByRecursion Is ns → (Has ns n → ⊥) → find path_cmp (path_of n) (listed ns) ≡ None
  not_listed n [] e is far = refl
  not_listed n (m ∷ ns) e is far =
      ap (λ t. cond t (Some (node m)) (find path_cmp (path_of n) (listed ns)))
      (not_true (paths_eq (path_of n) (path_of m)) (λ h. absurd (far (inl (inside m n (sym is.0.0 ∙ sym (ap (node_reached g 0) (eq_path _ _ h)) ∙ e))))))
      ∙ not_listed n ns e is.1 (λ h. far (inr h))

  sum_listed : (f : List (List ℕ) × Node → ℕ) (ns : List ℕ) → AllByRecursion Is ns → Differ ns → sum_by f (with_all [] (listed ns)) ≡ sum_by (λ n. f (path_of n, node n)) ns
  sum_listed f [] is differ = refl
  sum_listed f (n ∷ ns) is differ =
      count_laws.sum_by-put_new f (path_of n) (node n) (with_all [] (listed ns))
      (find_all [] (listed ns) (path_of n) ∙ ap (λ (o : Option Node). or_else o None) (not_listed n ns is.0.0 is.1 differ.0))
      ∙ ap (λ (k : ℕ). f (path_of n, node n) + k) (sum_listed f ns is.1 differ.1)
      ∙ sym (sum_by-cons (λ n. f (path_of n, node n)) n ns)

  module _ (tree : Tree) (ns : List ℕ) (reached : ReachedNodes b g ns path_of node) (in_order : IsInOrder tree) (is : Represents b g tree) where
    is_listed : tree ≡ with_all [] (listed ns)
    unfolding tree_of
    is_listed =
        tree_laws.same_tree tree (with_all [] (listed ns)) in_order (from_T _ (sorted_all [] (listed ns) tt))
        (λ q. is q ∙ sym (tree_of_nodes b g ns path_of node once reached.each reached.all q))

    sum_over : (f : List (List ℕ) × Node → ℕ) → sum_by f tree ≡ sum_by (λ n. f (path_of n, node n)) ns
    sum_over f = ap (sum_by f) is_listed ∙ sum_listed f ns reached.each reached.differ

    nodes : node_charge tree ≡ length ns
    unfolding node_charge all_nodes
    nodes = length-map (λ e. e.1) tree ∙ length-ones tree ∙ sum_over (λ e. 1) ∙ sym (length-ones ns)

    of_nodes : (f : Node → ℕ) (h : NodeBody → ℕ) → ((body : NodeBody) (x : Node) → node_of b body ≡ Some x → f x ≡ h body) → sum_by f (all_nodes tree) ≡ sum_by (λ n. h (g n).body) ns
    unfolding all_nodes
    of_nodes f h same =
        sum_by-map f (λ e. e.1) tree ∙ sum_over (λ e. f e.1)
        ∙ same_sums (λ n. f (node n)) (λ n. h (g n).body) ns (λ n i. same (g n).body (node n) (member Is ns n reached.each i).1)

    entries_count : (n : ℕ) → Has ns n → EntryNamesDiffer (entries_in (g n).body) → length (entries_of tree (path_of n)) ≡ length (entries_in (g n).body)
    unfolding entries_of
    entries_count n i d =
        length-filter (λ e. is_child (path_of n) e.0) tree ∙ sum_over (λ e. cond (is_child (path_of n) e.0) 1 0)
        ∙ sym (length-filter (λ m. is_child (path_of n) (path_of m)) ns)
        ∙ count_laws.length_of_members (filter (λ m. is_child (path_of n) (path_of m)) ns) (numbers (entries_in (g n).body))
        (differ_filter (λ m. is_child (path_of n) (path_of m)) ns reached.differ)
        (differ_numbers (entries_in (g n).body) d (λ x y m a b. (once.once n n m x y a b).1))
        there back
        ∙ length-map (λ e. e.1) (entries_in (g n).body)
      where
        at_n : node_reached g 0 (path_of n) ≡ Some n
        at_n = (member Is ns n reached.each i).0

        there : (m : ℕ) → Has (filter (λ m. is_child (path_of n) (path_of m)) ns) m → Has (numbers (entries_in (g n).body)) m
        there m h =
            let r = in_filter (λ m. is_child (path_of n) (path_of m)) ns m h in
            let c = child_is (path_of n) (path_of m) r.1 in
            named_in c.0 m (entries_in (g n).body) (sym (at_end g (path_of n) c.0 n at_n) ∙ ap (node_reached g 0) (sym c.1) ∙ (member Is ns m reached.each r.0).0)

        back : (m : ℕ) → Has (numbers (entries_in (g n).body)) m → Has (filter (λ m. is_child (path_of n) (path_of m)) ns) m
        back m h =
            let r = in_named m (entries_in (g n).body) d h in
            let at_m = at_end g (path_of n) r.0 n at_n ∙ r.1 in
            let listed_m = reached.all (path_of n ++ r.0 ∷ []) m at_m in
            to_filter (λ m. is_child (path_of n) (path_of m)) ns m listed_m
            (ap (is_child (path_of n)) (one_path_to g once m (path_of m) (path_of n ++ r.0 ∷ []) (member Is ns m reached.each listed_m).0 at_m) ∙ is_child_of (path_of n) r.0)

    meta : AllByRecursion (λ n. EntryNamesDiffer (entries_in (g n).body)) ns → meta_charge tree ≡ sum_by (λ n. entry_pages_in (g n).body) ns + sum_by (λ n. ranges_in (g n).body) ns
    unfolding meta_charge all_paths
    meta differ =
        ap (λ (k : ℕ). k + sum_by ranges_of_node (all_nodes tree))
        (sum_over (λ e. div_ceil (length (entries_of tree e.0)) 64)
        ∙ same_sums (λ n. div_ceil (length (entries_of tree (path_of n))) 64) (λ n. entry_pages_in (g n).body) ns
        (λ n i. ap (λ (k : ℕ). div_ceil k 64) (entries_count n i (member (λ n. EntryNamesDiffer (entries_in (g n).body)) ns n differ i))))
        ∙ ap (λ (k : ℕ). sum_by (λ n. entry_pages_in (g n).body) ns + k) (of_nodes ranges_of_node ranges_in (ranges_same b))

    pages : data_charge tree ≡ sum_by (λ n. pages_in (g n).body) ns
    unfolding data_charge
    pages = of_nodes data_of_node pages_in (data_same b)

pub node_charges : NodeCharges
node_charges = record {
  sum_over = λ b g tree ns path_of node f once reached in_order is. sum_over b g path_of node once tree ns reached in_order is f;
  nodes = λ b g tree ns path_of node once reached in_order is. nodes b g path_of node once tree ns reached in_order is;
  pages = λ b g tree ns path_of node once reached in_order is. pages b g path_of node once tree ns reached in_order is;
  meta = λ b g tree ns path_of node once reached differ in_order is. meta b g path_of node once tree ns reached in_order is differ;
}
