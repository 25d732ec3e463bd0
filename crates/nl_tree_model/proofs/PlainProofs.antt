-- What the plain tree as a program keeps, at its beginning and through a call.
use Rattle.nl_field.specs.FileContent.{FileContent, empty_file}
use Rattle.nl_field.specs.Numbers.{max_name}
use Rattle.nl_field.specs.declared.shape.Shape.{Shape}
use Rattle.nl_tree_entries.proofs.ListingProofs.{short-where}
use Rattle.nl_tree.proofs.SpaceProofs.{few_meta, few_pages, lacks_nothing}
use Rattle.nl_tree.proofs.StepProofs.{order_after}
use Rattle.nl_tree.specs.Charges.{data_charge, node_charge, meta_charge}
use Rattle.nl_tree_model.specs.PlainTree.{ArePageCharges, IsPlainTree}
use Rattle.nl_tree_entries.specs.Entries.{HasShortNames}
use Rattle.nl_tree.specs.Step.{refusal_before, space_refusal, effect_of, when, first_of, own_refusal, is_too_long, paths_of}
use Rattle.nl_tree.specs.Tree.{Node, directory, file, Tree, path_cmp, paths_eq, is_at_or_under, entries_of, all_nodes, all_paths, empty_tree, with_new, with_content, without, last_name, with_all, with_renamed}
use Rattle.nl_tree.specs.TreeLaws.{IsInOrder}
use Rattle.nl_tree.specs.declared.call.Call.TheVariants.{Mkdir, Rmdir, Create, Unlink, Rename, Write, Fill, Read, Truncate, Stat, List as ListCall, Sync, Clean}
use Rattle.nl_tree.specs.declared.call.Call.{Call}
use Rattle.nl_tree.specs.declared.reply.Refusal.TheVariants.{Enametoolong}
use Rattle.nl_tree.specs.declared.reply.Refusal.{Refusal}
use Rattle.std.proofs.Common.{◌≡◌, ◌<◌, ◌≤◌, ◌+◌, ◌-◌, ℕ, zero, suc, Bool, true, false, ◌||◌, List, [], ◌∷◌, ◌++◌, length, map, drop, get_or, nat_lt, ap, sym, subst, refl, arith, ◌∙◌, Option, Some, None, if◌then◌else◌}
use Rattle.std.proofs.lemmas.Bool.Decides.{nat_tests}
use Rattle.std.proofs.lemmas.List.{length-append, length-drop, get_or-append-add, get_or-drop, append-nil, drop_all}
use Rattle.std.specs.FinMap.Entries.{put, by_order, where_key}
use Rattle.std.specs.List.{list_any}
use Rattle.std.specs.declared.cmp.Ordering.TheVariants.{Less, Equal, Greater}

pub passes : (tree : Tree) (call : Call) → None ≡ refusal_before tree call → own_refusal tree call ≡ None
passes tree call h = by (when (list_any is_too_long (paths_of call)) Enametoolong) (own_refusal tree call) h
  where
    by : (a b : Option Refusal) → None ≡ first_of (a ∷ b ∷ []) → b ≡ None
    by (Some x) b h = cc
    by None (Some y) h = cc
    by None None h = refl

not_long : (tree : Tree) (call : Call) → None ≡ refusal_before tree call → list_any is_too_long (paths_of call) ≡ false
not_long tree call h = by (list_any is_too_long (paths_of call)) (own_refusal tree call) h
  where
    by : (a : Bool) (b : Option Refusal) → None ≡ first_of (when a Enametoolong ∷ b ∷ []) → a ≡ false
    by true b h = cc
    by false b h = refl

-- ---- the names of the tree after a call are short

short_put : (path : List (List ℕ)) (node : Node) (tree : Tree) → length (last_name path) ≤ max_name → HasShortNames tree → HasShortNames (put path_cmp path node tree)
short_put path node [] s h = (s, tt)
short_put path node (e ∷ tree) s h =
    elim (path_cmp path e.0) as (λ r. HasShortNames (by_order r ((path, node) ∷ e ∷ tree) ((e.0, node) ∷ tree) (e ∷ put path_cmp path node tree))) [
      | Less ↦ (s, h)
      | Equal ↦ (h.0, h.1)
      | Greater ↦ (h.0, short_put path node tree s h.1)
    ]

right_not : (a b : Bool) → (a || b) ≡ false → b ≡ false
right_not true b h = cc
right_not false b h = h

left_not : (a b : Bool) → (a || b) ≡ false → a ≡ false
left_not true b h = h
left_not false b h = refl

any_not : (P : List ℕ → Bool) (names : List (List ℕ)) (i : ℕ) → i < length names → list_any P names ≡ false → P (get_or names i []) ≡ false
any_not P [] i lt h = absurd (omega arith)
any_not P (x ∷ names) zero lt h = left_not (P x) (list_any P names) h
any_not P (x ∷ names) (suc i) lt h = any_not P names i (omega arith) (right_not (P x) (list_any P names) h)

short_last : (path : List (List ℕ)) → is_too_long path ≡ false → length (last_name path) ≤ max_name
unfolding is_too_long
short_last [] h = omega arith
short_last (x ∷ names) h =
    let not : nat_lt max_name (length (last_name (x ∷ names))) ≡ false =
    any_not (λ name. nat_lt max_name (length name)) (x ∷ names) (length (x ∷ names) - 1) (omega arith) (right_not _ _ h) in
    grind (arith, nat_tests, not)

last_of_joined : (to q : List (List ℕ)) (k : ℕ) → length (last_name to) ≤ max_name → length (last_name q) ≤ max_name → length (last_name (to ++ drop k q)) ≤ max_name
last_of_joined to q k a b =
    elim (nat_lt k (length q)) as (λ t. nat_lt k (length q) ≡ t → length (last_name (to ++ drop k q)) ≤ max_name) [
      | true ↦ λ t.
          let lt : k < length q = grind (arith, nat_tests, t) in
          let sum : length (to ++ drop k q) ≡ length to + length (drop k q) = length-append to (drop k q) in
          let rest : length (drop k q) ≡ length q - k = length-drop k q in
          let at : length (to ++ drop k q) - 1 ≡ length to + (length q - k - 1) = omega arith in
          let back : k + (length q - k - 1) ≡ length q - 1 = omega arith in
          let same : last_name (to ++ drop k q) ≡ last_name q =
          ap (λ (i : ℕ). get_or (to ++ drop k q) i []) at ∙ get_or-append-add to (drop k q) (length q - k - 1) [] ∙ get_or-drop k q (length q - k - 1) [] ∙ ap (λ (i : ℕ). get_or q i []) back in
          omega (arith, ap length same, b)
      | false ↦ λ t.
          let none : drop k q ≡ [] = drop_all k q (grind (arith, nat_tests, t)) in
          let same : last_name (to ++ drop k q) ≡ last_name to = ap (λ (r : List (List ℕ)). last_name (to ++ r)) none ∙ ap last_name (append-nil to) in
          omega (arith, ap length same, a)
    ] refl

short_moved : (from to : List (List ℕ)) (es : Tree) → length (last_name to) ≤ max_name → HasShortNames es → HasShortNames (map (λ e. (to ++ drop (length from) e.0, e.1)) es)
short_moved from to [] s h = h
short_moved from to (e ∷ es) s h = (last_of_joined to e.0 (length from) s h.0, short_moved from to es s h.1)

short_all : (tree es : Tree) → HasShortNames tree → HasShortNames es → HasShortNames (with_all tree es)
short_all tree [] h k = h
short_all tree (e ∷ es) h k = short_put e.0 e.1 (with_all tree es) k.0 (short_all tree es h k.1)

short_renamed : (tree : Tree) (from to : List (List ℕ)) → length (last_name to) ≤ max_name → HasShortNames tree → HasShortNames (with_renamed tree from to)
unfolding with_renamed
short_renamed tree from to s h =
    short_all _ (map (λ e. (to ++ drop (length from) e.0, e.1)) (where_key path_cmp (is_at_or_under from) tree)) (short-where _ tree h) (short_moved from to (where_key path_cmp (is_at_or_under from) tree) s (short-where (is_at_or_under from) tree h))

short_new : (tree : Tree) (path : List (List ℕ)) (node : Node) → list_any is_too_long (path ∷ []) ≡ false → HasShortNames tree → HasShortNames (with_new tree path node)
unfolding with_new
short_new tree path node s h = short_put path node tree (short_last path (left_not (is_too_long path) false s)) h

short_content : (tree : Tree) (path : List (List ℕ)) (content : FileContent) → list_any is_too_long (path ∷ []) ≡ false → HasShortNames tree → HasShortNames (with_content tree path content)
unfolding with_content
short_content tree path content s h = short_put path (file content) tree (short_last path (left_not (is_too_long path) false s)) h

short_without : (tree : Tree) (path : List (List ℕ)) → HasShortNames tree → HasShortNames (without tree path)
unfolding without
short_without tree path h = short-where _ tree h

short_after : (tree : Tree) (call : Call) → list_any is_too_long (paths_of call) ≡ false → HasShortNames tree → HasShortNames (effect_of tree call).tree
unfolding effect_of
short_after tree (Mkdir path) s h = short_new tree path directory s h
short_after tree (Create path) s h = short_new tree path (file empty_file) s h
short_after tree (Rmdir path) s h = short_without tree path h
short_after tree (Unlink path) s h = short_without tree path h
short_after tree (Rename from to) s h =
    let short : is_too_long to ≡ false = left_not (is_too_long to) false (right_not (is_too_long from) (is_too_long to || false) s) in
    elim (paths_eq from to) as (λ b. HasShortNames (if b then tree else with_renamed tree from to)) [ true ↦ h | false ↦ short_renamed tree from to (short_last to short) h ]
short_after tree (Write path from bytes) s h = short_content tree path _ s h
short_after tree (Fill path from len byte) s h = short_content tree path _ s h
short_after tree (Truncate path size) s h = short_content tree path _ s h
short_after tree (Read path from len) s h = h
short_after tree (Stat path) s h = h
short_after tree (ListCall path) s h = h
short_after tree Sync s h = h
short_after tree Clean s h = h

pub plain_after : (shape : Shape) (tree next : Tree) (call : Call) → None ≡ refusal_before tree call → next ≡ (effect_of tree call).tree → None ≡ space_refusal shape next → IsPlainTree shape tree → IsPlainTree shape next
plain_after shape tree next call h is room plain = record {
  in_order = subst IsInOrder (sym is) (order_after tree call plain.in_order);
  short = subst HasShortNames (sym is) (short_after tree call (not_long tree call h) plain.short);
  room = sym room;
}

pub new_plain : (shape : Shape) → 0 < shape.nodes → IsPlainTree shape empty_tree
unfolding entries_of node_charge meta_charge data_charge all_nodes all_paths
new_plain shape some = record {
  in_order = refl;
  short = (omega arith, tt);
  room = sym (lacks_nothing shape empty_tree refl (grind (arith, nat_tests, some)) (grind (arith, nat_tests)) (grind (arith, nat_tests)));
}

-- ---- the sums beside it

pub small_sums : (shape : Shape) (t : Tree) (pages meta : ℕ) → None ≡ space_refusal shape t → ArePageCharges pages meta t → (pages ≤ shape.cap) × (meta ≤ shape.meta)
small_sums shape t pages meta room kept =
    (most _ _ _ kept.of_data (few_pages shape t (sym room)), most _ _ _ kept.of_meta (few_meta shape t (sym room)))
  where
    most : (n sum limit : ℕ) → n ≡ sum → nat_lt limit sum ≡ false → n ≤ limit
    most n sum limit e h = grind (arith, nat_tests, e, h)

pub new_charges : ArePageCharges 0 0 empty_tree
unfolding entries_of meta_charge data_charge all_nodes all_paths
new_charges = record { of_data = refl; of_meta = refl }
