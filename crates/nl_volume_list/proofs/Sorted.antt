-- The items of a tree as a map from its paths, and what is left behind a path.
use Rattle.std.proofs.Common.{◌≡◌, ℕ, Bool, true, false, ◌&&◌, cond, T, List, [], ◌∷◌, length, map, refl, sym, ap, ◌∙◌, Option, Some, None, option_map}
use Rattle.std.specs.Bool.{passes}
use Rattle.std.specs.declared.cmp.Ordering.{Ordering}
use Rattle.std.specs.declared.cmp.Ordering.TheVariants.{Less, Equal, Greater}
use Rattle.std.specs.Ordering.{is_lt, ordering_reverse}
use Rattle.std.specs.FinMap.Entries.{below_all, find, find-where_key, is_sorted, is_sorted-where_key, same_entries}
use Rattle.nl_tree.specs.Tree.{Node, Tree, all_paths, entries_of, node_at, path_cmp, paths_eq}
use Rattle.nl_tree.specs.TreeLaws.{IsInOrder}
use Rattle.nl_tree.proofs.TreeProofs.{alike, eq_path, path_eq, paths_antisymmetric, paths_total}
use Rattle.nl_volume_list.specs.Items.{PathItem, item_of, items_behind, items_of}
use Rattle.nl_volume_list.specs.declared.item.TreeItem.{TreeItem}
use Rattle.nl_volume_list.proofs.Climbing.{Path, equal-less, greater-less}

-- ---- the items of a tree

item-for : Tree → List (List ℕ) × Node → PathItem
item-for tree e = (e.0, item_of (length (entries_of tree e.0)) e.1)

below-same : (tree xs : Tree) (q : Path) → below_all path_cmp q (map (λ e. (e.0, item_of (length (entries_of tree e.0)) e.1)) xs) ≡ below_all path_cmp q xs
below-same tree [] q = refl
below-same tree (e ∷ xs) q = ap (λ (b : Bool). is_lt (path_cmp q e.0) && b) (below-same tree xs q)

sorted-same : (tree xs : Tree) → is_sorted path_cmp (map (λ e. (e.0, item_of (length (entries_of tree e.0)) e.1)) xs) ≡ is_sorted path_cmp xs
sorted-same tree [] = refl
sorted-same tree (e ∷ xs) = λ i. below-same tree xs e.0 i && sorted-same tree xs i

found-same : (tree xs : Tree) (q : Path) → find path_cmp q (map (λ e. (e.0, item_of (length (entries_of tree e.0)) e.1)) xs) ≡ option_map (item_of (length (entries_of tree q))) (find path_cmp q xs)
found-same tree [] q = refl
found-same tree (e ∷ xs) q = by (paths_eq q e.0) refl (found-same tree xs q)
  where
    by : (b : Bool) → paths_eq q e.0 ≡ b → find path_cmp q (map (λ e. (e.0, item_of (length (entries_of tree e.0)) e.1)) xs) ≡ option_map (item_of (length (entries_of tree q))) (find path_cmp q xs)
        → find path_cmp q (map (λ e. (e.0, item_of (length (entries_of tree e.0)) e.1)) (e ∷ xs)) ≡ option_map (item_of (length (entries_of tree q))) (find path_cmp q (e ∷ xs))
    by true h rest =
        ap (λ (b : Bool). cond b (Some (item_of (length (entries_of tree e.0)) e.1)) (find path_cmp q (map (λ e. (e.0, item_of (length (entries_of tree e.0)) e.1)) xs))) h
        ∙ ap (λ (p : Path). Some (item_of (length (entries_of tree p)) e.1)) (sym (eq_path q e.0 h))
        ∙ sym (ap (λ (b : Bool). option_map (item_of (length (entries_of tree q))) (cond b (Some e.1) (find path_cmp q xs))) h)
    by false h rest =
        ap (λ (b : Bool). cond b (Some (item_of (length (entries_of tree e.0)) e.1)) (find path_cmp q (map (λ e. (e.0, item_of (length (entries_of tree e.0)) e.1)) xs))) h
        ∙ rest
        ∙ sym (ap (λ (b : Bool). option_map (item_of (length (entries_of tree q))) (cond b (Some e.1) (find path_cmp q xs))) h)

pub items-sorted : (tree : Tree) → IsInOrder tree → T (is_sorted path_cmp (items_of tree))
unfolding items_of all_paths
items-sorted tree order = passes _ (sorted-same tree tree ∙ order)

pub item-at : (tree : Tree) (q : Path) → find path_cmp q (items_of tree) ≡ option_map (item_of (length (entries_of tree q))) (node_at tree q)
unfolding items_of all_paths node_at
item-at tree q = found-same tree tree q

-- ---- what is left

both : (a b : Bool) → T a → T b → T (a && b)
both true b x y = y
both false b x y = absurd x

below-behind : (q : Path) (es : List PathItem) → T (below_all path_cmp q (items_behind q es))
unfolding items_behind
below-behind q [] = tt
below-behind q (e ∷ es) =
    elim (is_lt (path_cmp q e.0)) as (λ b. is_lt (path_cmp q e.0) ≡ b → T (below_all path_cmp q (cond b (e ∷ items_behind q es) (items_behind q es)))) [
      | true ↦ λ h. both _ _ (passes _ h) (below-behind q es)
      | false ↦ λ h. below-behind q es
    ] refl

none-either : (a b : Bool) (o : Option TreeItem) → o ≡ None → cond a o None ≡ cond b o None
none-either true true o e = refl
none-either true false o e = e
none-either false true o e = sym e
none-either false false o e = refl

module _ (es : List PathItem) (sorted : T (is_sorted path_cmp es)) where
  behind-at : (q r : Path) → find path_cmp r (items_behind q es) ≡ cond (is_lt (path_cmp q r)) (find path_cmp r es) None
  unfolding items_behind
  behind-at q r = find-where_key path_cmp (λ x. is_lt (path_cmp q x)) r (alike (λ x. is_lt (path_cmp q x)) r) es

  behind-sorted : (q : Path) → T (is_sorted path_cmp (items_behind q es))
  unfolding items_behind
  behind-sorted q = is_sorted-where_key path_cmp (λ x. is_lt (path_cmp q x)) es sorted

  -- nothing is left behind the last
  pub none-left : (here : Path) → ((r : Path) (y : TreeItem) → find path_cmp r es ≡ Some y → path_cmp here r ≡ Less → ⊥) → items_behind here es ≡ []
  none-left here none = same_entries path_cmp paths_total paths_antisymmetric (items_behind here es) [] (behind-sorted here) tt (λ r. behind-at here r ∙ by r (path_cmp here r) refl (find path_cmp r es) refl)
    where
      by : (r : Path) (o : Ordering) → path_cmp here r ≡ o → (f : Option TreeItem) → find path_cmp r es ≡ f → cond (is_lt (path_cmp here r)) (find path_cmp r es) None ≡ None
      by r o h None e = none-either (is_lt (path_cmp here r)) false (find path_cmp r es) e
      by r Less h (Some y) e = absurd (none r y e h)
      by r Equal h (Some y) e = ap (λ (z : Ordering). cond (is_lt z) (find path_cmp r es) None) h
      by r Greater h (Some y) e = ap (λ (z : Ordering). cond (is_lt z) (find path_cmp r es) None) h

  -- and else the next one, and what is left behind it
  pub next-left : (here q : Path) (x : TreeItem) → find path_cmp q es ≡ Some x → path_cmp here q ≡ Less
      → ((r : Path) (y : TreeItem) → find path_cmp r es ≡ Some y → path_cmp here r ≡ Less → path_cmp r q ≡ Less → ⊥) → items_behind here es ≡ (q, x) ∷ items_behind q es
  next-left here q x at less between =
      same_entries path_cmp paths_total paths_antisymmetric (items_behind here es) ((q, x) ∷ items_behind q es) (behind-sorted here) (both _ _ (below-behind q es) (behind-sorted q))
      (λ r. behind-at here r ∙ by r (paths_eq r q) refl ∙ ap (λ (o : Option TreeItem). cond (paths_eq r q) (Some x) o) (sym (behind-at q r)))
    where
      tests : (r : Path) (y : TreeItem) → find path_cmp r es ≡ Some y → paths_eq r q ≡ false → (o : Ordering) → path_cmp q r ≡ o → (w : Ordering) → path_cmp here r ≡ w → is_lt w ≡ is_lt o
      tests r y e far Less h Less g = refl
      tests r y e far Less h Equal g = absurd (equal-less (sym g ∙ paths_total.trans here q r less h))
      tests r y e far Less h Greater g = absurd (greater-less (sym g ∙ paths_total.trans here q r less h))
      tests r y e far Equal h w g = absurd (false-true (sym far ∙ path_eq r q (sym (paths_antisymmetric q r h))))
        where
          false-true : false ≡ true → ⊥
          false-true e = cc
      tests r y e far Greater h Less g = absurd (between r y e g (paths_total.antisymm r q ∙ ap ordering_reverse h))
      tests r y e far Greater h Equal g = refl
      tests r y e far Greater h Greater g = refl

      by : (r : Path) (b : Bool) → paths_eq r q ≡ b → cond (is_lt (path_cmp here r)) (find path_cmp r es) None ≡ cond (paths_eq r q) (Some x) (cond (is_lt (path_cmp q r)) (find path_cmp r es) None)
      by r true h =
          let s = eq_path r q h in
          ap (λ (z : Path). cond (is_lt (path_cmp here z)) (find path_cmp z es) None) s
          ∙ ap (λ (o : Ordering). cond (is_lt o) (find path_cmp q es) None) less ∙ at
          ∙ sym (ap (λ (b : Bool). cond b (Some x) (cond (is_lt (path_cmp q r)) (find path_cmp r es) None)) h)
      by r false h = other (find path_cmp r es) refl ∙ sym (ap (λ (b : Bool). cond b (Some x) (cond (is_lt (path_cmp q r)) (find path_cmp r es) None)) h)
        where
          other : (f : Option TreeItem) → find path_cmp r es ≡ f → cond (is_lt (path_cmp here r)) (find path_cmp r es) None ≡ cond (is_lt (path_cmp q r)) (find path_cmp r es) None
          other None e = none-either (is_lt (path_cmp here r)) (is_lt (path_cmp q r)) (find path_cmp r es) e
          other (Some y) e = ap (λ (b : Bool). cond b (find path_cmp r es) None) (tests r y e h (path_cmp q r) refl (path_cmp here r) refl)

  -- before the root all is left: the root, and what is behind it
  pub root-left : (x : TreeItem) → find path_cmp [] es ≡ Some x → es ≡ ([], x) ∷ items_behind [] es
  root-left x at = same_entries path_cmp paths_total paths_antisymmetric es (([], x) ∷ items_behind [] es) sorted (both _ _ (below-behind [] es) (behind-sorted []))
      (λ r. by r ∙ ap (λ (o : Option TreeItem). cond (paths_eq r []) (Some x) o) (sym (behind-at [] r)))
    where
      by : (r : Path) → find path_cmp r es ≡ cond (paths_eq r []) (Some x) (cond (is_lt (path_cmp [] r)) (find path_cmp r es) None)
      by [] = at
      by (y ∷ r) = refl
