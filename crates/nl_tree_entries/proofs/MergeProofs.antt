-- Entries whose keys rise are put into a list in one pass over it.
use Rattle.std.proofs.Common.{◌≡◌, ◌<◌, ◌≤◌, ◌&&◌, ◌+◌, ◌-◌, ℕ, zero, suc, Bool, true, false, cond, T, if◌then◌else◌, List, [], ◌∷◌, ◌++◌, length, take, drop, map, get_or, ap, sym, subst, refl, arith, ◌∙◌}
use Rattle.std.proofs.Math.ListN.{drop_of_length-le}
use Rattle.std.proofs.lemmas.List.{drop_more, append_assoc, take-append-drop}
use Rattle.std.specs.declared.cmp.Ordering.{Ordering}
use Rattle.std.specs.declared.cmp.Ordering.TheVariants.{Less, Equal, Greater}
use Rattle.std.specs.Ordering.{is_lt, is_gt, is_eq, ordering_reverse}
use Rattle.std.specs.Bool.{passes}
use Rattle.std.specs.FinMap.Entries.{put, by_order, where_key, is_sorted, below_all}
use Rattle.nl_tree.specs.Tree.{Tree, Node, path_cmp, with_all}
use Rattle.nl_tree.specs.TreeLaws.{IsInOrder}
use Rattle.nl_tree_content.specs.Places.{place_in}
use Rattle.nl_tree_entries.specs.Entries.{behind_first}
use Rattle.nl_tree.proofs.TreeProofs.{paths_total, paths_antisymmetric, from_T}

abbrev Path : Type 0
Path = List (List ℕ)

abbrev Entry : Type 0
Entry = Path × Node

first : (a b : Bool) → T (a && b) → T a
first true b p = tt
first false b p = absurd p

second : (a b : Bool) → T (a && b) → T b
second true b p = p
second false b p = absurd p

both : (a b : Bool) → T a → T b → T (a && b)
both true b p q = q
both false b p q = p

less : (o : Ordering) → T (is_lt o) → o ≡ Less
less Less p = refl
less Equal p = absurd p
less Greater p = absurd p

turned : (a b : Path) → path_cmp a b ≡ Less → path_cmp b a ≡ Greater
turned a b h = paths_total.antisymm b a ∙ ap ordering_reverse h

turned_back : (a b : Path) → path_cmp a b ≡ Greater → path_cmp b a ≡ Less
turned_back a b h = paths_total.antisymm b a ∙ ap ordering_reverse h

-- the first key, if there is one, is behind this
abbrev is_before_first : Path → Tree → Bool
is_before_first k [] = true
is_before_first k (e ∷ es) = is_lt (path_cmp k e.0)

put_first : (k : Path) (v : Node) (es : Tree) → T (is_before_first k es) → put path_cmp k v es ≡ (k, v) ∷ es
put_first k v [] h = refl
put_first k v (e ∷ es) h = ap (λ r. by_order r ((k, v) ∷ e ∷ es) ((e.0, v) ∷ es) (e ∷ put path_cmp k v es)) (less _ h)

before_put : (k q : Path) (v : Node) (es : Tree) → T (is_lt (path_cmp k q)) → T (is_before_first k es) → T (is_before_first k (put path_cmp q v es))
before_put k q v [] h g = h
before_put k q v (e ∷ es) h g =
    elim (path_cmp q e.0) as (λ r. T (is_before_first k (by_order r ((q, v) ∷ e ∷ es) ((e.0, v) ∷ es) (e ∷ put path_cmp q v es)))) [ Less ↦ h | Equal ↦ g | Greater ↦ g ]

before_all : (k : Path) (tree es : Tree) → T (below_all path_cmp k es) → T (is_before_first k tree) → T (is_before_first k (with_all tree es))
before_all k tree [] h g = g
before_all k tree (e ∷ es) h g = before_put k e.0 e.1 (with_all tree es) (first _ _ h) (before_all k tree es (second _ _ h) g)

put_behind : (b : Entry) (k : Path) (v : Node) (es : Tree) → path_cmp b.0 k ≡ Less → put path_cmp k v (b ∷ es) ≡ b ∷ put path_cmp k v es
put_behind b k v es h = ap (λ r. by_order r ((k, v) ∷ b ∷ es) ((b.0, v) ∷ es) (b ∷ put path_cmp k v es)) (turned b.0 k h)

all_behind : (b : Entry) (tree es : Tree) → T (below_all path_cmp b.0 es) → with_all (b ∷ tree) es ≡ b ∷ with_all tree es
all_behind b tree [] h = refl
all_behind b tree (e ∷ es) h =
    ap (λ (x : Tree). put path_cmp e.0 e.1 x) (all_behind b tree es (second _ _ h)) ∙ put_behind b e.0 e.1 (with_all tree es) (less _ (first _ _ h))

below_less : (x y : Path) (es : Tree) → path_cmp x y ≡ Less → T (below_all path_cmp y es) → T (below_all path_cmp x es)
below_less x y [] p h = tt
below_less x y (e ∷ es) p h = both _ _ (subst (λ r. T (is_lt r)) (sym (paths_total.trans x y e.0 p (less _ (first _ _ h)))) tt) (below_less x y es p (second _ _ h))

-- an entry before all others is put behind those of the list that are before it
merge_step : (e : Entry) (es tree : Tree) → T (below_all path_cmp e.0 es)
    → with_all tree (e ∷ es) ≡ take (place_in path_cmp e.0 tree) tree ++ e ∷ with_all (behind_first path_cmp e.0 (drop (place_in path_cmp e.0 tree) tree)) es
merge_step e es [] h = put_first e.0 e.1 (with_all [] es) (before_all e.0 [] es h tt)
merge_step e es (b ∷ tree) h =
    elim (path_cmp e.0 b.0) as (λ r. path_cmp e.0 b.0 ≡ r
    → with_all (b ∷ tree) (e ∷ es) ≡ take (if is_gt r then suc (place_in path_cmp e.0 tree) else 0) (b ∷ tree)
    ++ e ∷ with_all (behind_first path_cmp e.0 (drop (if is_gt r then suc (place_in path_cmp e.0 tree) else 0) (b ∷ tree))) es) [
      | Less ↦ λ t. put_first e.0 e.1 (with_all (b ∷ tree) es) (before_all e.0 (b ∷ tree) es h (subst (λ r. T (is_lt r)) (sym t) tt))
          ∙ ap (λ r. e ∷ with_all (if is_eq r then tree else b ∷ tree) es) (sym t)
      | Equal ↦ λ t.
          let same : e.0 ≡ b.0 = paths_antisymmetric e.0 b.0 t in
          ap (λ (x : Tree). put path_cmp e.0 e.1 x) (all_behind b tree es (subst (λ (k : Path). T (below_all path_cmp k es)) same h))
          ∙ ap (λ r. by_order r ((e.0, e.1) ∷ b ∷ with_all tree es) ((b.0, e.1) ∷ with_all tree es) (b ∷ put path_cmp e.0 e.1 (with_all tree es))) t
          ∙ ap (λ (k : Path). (k, e.1) ∷ with_all tree es) (sym same)
          ∙ ap (λ r. e ∷ with_all (if is_eq r then tree else b ∷ tree) es) (sym t)
      | Greater ↦ λ t.
          let back : path_cmp b.0 e.0 ≡ Less = turned_back e.0 b.0 t in
          ap (λ (x : Tree). put path_cmp e.0 e.1 x) (all_behind b tree es (below_less b.0 e.0 es back h))
          ∙ put_behind b e.0 e.1 (with_all tree es) back ∙ ap (λ (x : Tree). b ∷ x) (merge_step e es tree h)
    ] refl

sorted_drop : (es : Tree) (i : ℕ) → T (is_sorted path_cmp es) → T (is_sorted path_cmp (drop i es))
sorted_drop es zero h = h
sorted_drop [] (suc i) h = tt
sorted_drop (e ∷ es) (suc i) h = sorted_drop es i (second _ _ h)

-- a step of the pass
pub merged_step : (before rest tree entries below next behind left : Tree) (i place : ℕ) (entry : Entry) → IsInOrder entries → i < length entries → entry ≡ get_or entries i entry
    → place ≡ place_in path_cmp entry.0 rest
    → below ≡ before ++ take place rest → next ≡ below ++ entry ∷ [] → behind ≡ drop place rest → left ≡ behind_first path_cmp entry.0 behind
    → before ++ with_all rest (drop i entries) ≡ with_all tree entries
    → next ++ with_all left (drop (i + 1) entries) ≡ with_all tree entries
merged_step before rest tree entries below next behind left i place entry order lt read is grown pushed dropped skipped holds =
    let at : drop i entries ≡ entry ∷ drop (i + 1) entries = drop_more entries i entry lt ∙ ap (λ (e : Entry). e ∷ drop (i + 1) entries) (sym read) in
    let rises : T (below_all path_cmp entry.0 (drop (i + 1) entries)) = first _ _ (subst (λ (x : Tree). T (is_sorted path_cmp x)) at (sorted_drop entries i (passes _ order))) in
    (λ j. pushed j ++ with_all (skipped j) (drop (i + 1) entries))
    ∙ (λ j. (grown j ++ entry ∷ []) ++ with_all (behind_first path_cmp entry.0 (dropped j)) (drop (i + 1) entries))
    ∙ ap (λ (p : ℕ). ((before ++ take p rest) ++ entry ∷ []) ++ with_all (behind_first path_cmp entry.0 (drop p rest)) (drop (i + 1) entries)) is
    ∙ append_assoc (before ++ take (place_in path_cmp entry.0 rest) rest) (entry ∷ []) _
    ∙ append_assoc before (take (place_in path_cmp entry.0 rest) rest) _
    ∙ ap (λ (x : Tree). before ++ x) (sym (merge_step entry (drop (i + 1) entries) rest rises))
    ∙ ap (λ (x : Tree). before ++ with_all rest x) (sym at)
    ∙ holds

-- one entry more at the front of those that rise
pub rise_more : (es : Tree) (i : ℕ) (a b : Entry) → i < length es → 0 < i → a ≡ get_or es (i - 1) a → b ≡ get_or es i b → true ≡ is_lt (path_cmp a.0 b.0)
    → IsInOrder (drop i es) → IsInOrder (drop (i - 1) es)
rise_more es i a b lt some read_a read_b is order =
    let at : drop i es ≡ b ∷ drop (i + 1) es = drop_more es i b lt ∙ ap (λ (e : Entry). e ∷ drop (i + 1) es) (sym read_b) in
    let before : drop (i - 1) es ≡ a ∷ drop i es =
    drop_more es (i - 1) a (omega arith) ∙ (λ j. sym read_a j ∷ drop (same_place i some j) es) in
    let sorted : T (is_sorted path_cmp (b ∷ drop (i + 1) es)) = subst (λ (x : Tree). T (is_sorted path_cmp x)) at (passes _ order) in
    from_T _ (subst (λ (x : Tree). T (is_sorted path_cmp x)) (sym (before ∙ ap (λ (x : Tree). a ∷ x) at))
    (both _ _ (both _ _ (subst T is tt) (below_less a.0 b.0 (drop (i + 1) es) (less _ (subst T is tt)) (first _ _ sorted))) sorted))
  where
    same_place : (i : ℕ) → 0 < i → i - 1 + 1 ≡ i
    same_place i h = omega arith

pub one_rises : (es : Tree) → 0 < length es → IsInOrder (drop (length es - 1) es)
one_rises [] h = absurd (omega arith)
one_rises (e ∷ []) h = refl
one_rises (e ∷ f ∷ es) h = ap (λ (i : ℕ). is_sorted path_cmp (drop i (e ∷ f ∷ es))) (one_less (length es)) ∙ one_rises (f ∷ es) (omega arith)
  where
    one_less : (n : ℕ) → suc (suc n) - 1 ≡ suc (suc n - 1)
    one_less n = omega arith

all_parts : (tree a b : Tree) → with_all tree (a ++ b) ≡ with_all (with_all tree b) a
all_parts tree [] b = refl
all_parts tree (e ∷ a) b = ap (λ (x : Tree). put path_cmp e.0 e.1 x) (all_parts tree a b)

-- what is behind a place first, and what is before it then
pub put_parts : (next slice tree last entries : Tree) (at : ℕ) → slice ≡ tree → last ≡ drop at entries → next ≡ with_all slice last
    → with_all next (take at entries) ≡ with_all tree entries
put_parts next slice tree last entries at same is put_last =
    ap (λ (x : Tree). with_all x (take at entries)) (put_last ∙ (λ i. with_all (same i) (is i)))
    ∙ sym (all_parts tree (take at entries) (drop at entries)) ∙ ap (λ (x : Tree). with_all tree x) (take-append-drop at entries)

-- a step of a loop that changes what passes a test
pub moved_step : (test : Path → Bool) (move : Entry → Entry) (moved next tree all : Tree) (i : ℕ) (entry : Entry) → i < length tree
    → next ≡ moved ++ (if test entry.0 then move entry ∷ [] else []) → entry ≡ get_or tree i entry
    → moved ++ map move (where_key path_cmp test (drop i tree)) ≡ all → next ++ map move (where_key path_cmp test (drop (i + 1) tree)) ≡ all
moved_step test move moved next tree all i entry lt grown read before =
    ap (λ (x : Tree). x ++ map move (where_key path_cmp test (drop (i + 1) tree))) grown
    ∙ append_assoc moved _ _
    ∙ ap (λ (x : Tree). moved ++ x) (at_head entry (drop (i + 1) tree))
    ∙ ap (λ (x : Tree). moved ++ map move (where_key path_cmp test x)) (sym (drop_more tree i entry lt ∙ ap (λ (e : Entry). e ∷ drop (i + 1) tree) (sym read)))
    ∙ before
  where
    at_head : (e : Entry) (es : Tree) → (if test e.0 then move e ∷ [] else []) ++ map move (where_key path_cmp test es) ≡ map move (where_key path_cmp test (e ∷ es))
    at_head e es = elim (test e.0) as (λ b. (if b then move e ∷ [] else []) ++ map move (where_key path_cmp test es) ≡ map move (cond b (e ∷ where_key path_cmp test es) (where_key path_cmp test es))) [ true ↦ refl | false ↦ refl ]

-- behind the last entry what is left of the tree follows
pub merged_end : (put rest entries all : Tree) (i : ℕ) → length entries ≤ i → put ++ with_all rest (drop i entries) ≡ all → put ++ rest ≡ all
merged_end put rest entries all i le is = ap (λ (es : Tree). put ++ with_all rest es) (sym (drop_of_length-le entries le)) ∙ is
