-- The file of its own is renamed over the path.
use Rattle.std.proofs.Common.{◌≡◌, ◌≢◌, ◌&&◌, ℕ, not, Bool, true, false, cond, if◌then◌else◌, List, [], ◌∷◌, ◌++◌, length, take, drop, refl, sym, ap, subst, ◌∙◌, Option, Some, None, IsSome, arith}
use Rattle.std.proofs.lemmas.List.{append-nil, append_assoc, length-append}
use Rattle.nl_field.specs.declared.shape.Shape.{Shape}
use Rattle.nl_tree.specs.Step.{Outcome, effect_of, space_refusal, step}
use Rattle.nl_tree.specs.Tree.{IsTree, Node, Tree, file, is_at_or_under, node_at, paths_eq, with_renamed}
use Rattle.nl_tree.specs.TreeLaws.{or_else}
use Rattle.nl_tree.specs.declared.call.Call.TheVariants.{Rename}
use Rattle.nl_tree.specs.declared.reply.Reply.TheVariants.{Done}
use Rattle.nl_tree.proofs.TreeProofs.{eq_path, path_eq, tree_laws, under_append, under_parts}
use Rattle.nl_put_tree.specs.Putting.{IsBeside, IsDue, IsPut, IsWriting, Path, after}
use Rattle.nl_put_tree.proofs.Steps.{differ, due_is, performs}

-- ---- the two paths

last_same : (above : Path) (x y : List ℕ) → above ++ x ∷ [] ≡ above ++ y ∷ [] → x ≡ y
last_same [] x y e = cc e
last_same (a ∷ above) x y e = last_same above x y (cc e)

module _ (path own : Path) (beside : IsBeside path own) where
  pub other_path : own ≡ path → ⊥
  other_path e = beside.other (last_same beside.above beside.name beside.last (sym beside.own_is ∙ e ∙ beside.path_is))

  same_length : length own ≡ length path
  same_length =
      let a = length-append beside.above (beside.name ∷ []) in
      let b = length-append beside.above (beside.last ∷ []) in
      let c = ap length beside.own_is in
      let d = ap length beside.path_is in
      omega (arith, a, b, c, d)

  -- what is at or under the path is not so of the other
  pub not_both : (q : Path) → is_at_or_under path q ≡ true → is_at_or_under own q ≡ true → ⊥
  not_both q under under' =
      other_path (eq_path own (take (length own) q) under' ∙ ap (λ (n : ℕ). take n q) same_length ∙ sym (eq_path path (take (length path) q) under))

-- ---- nothing is under a path that is not there

pub none_under : (tree : Tree) → IsTree tree → (p r : Path) → node_at tree p ≡ None → node_at tree (p ++ r) ≡ None
none_under tree is p [] none = ap (node_at tree) (append-nil p) ∙ none
none_under tree is p (x ∷ r) none =
    ap (node_at tree) (sym (append_assoc p (x ∷ []) r)) ∙ none_under tree is (p ++ x ∷ []) r (here (node_at tree (p ++ x ∷ [])) refl)
  where
    here : (o : Option Node) → node_at tree (p ++ x ∷ []) ≡ o → node_at tree (p ++ x ∷ []) ≡ None
    here None e = e
    here (Some node) e = absurd (cc (none, is.parents p x (subst (λ (o : Option Node). IsSome o) (sym e) refl)))

not_empty : (p r : Path) → r ≢ [] → p ++ r ≢ p
not_empty p [] ne e = ne refl
not_empty p (x ∷ r) ne e = let a = length-append p (x ∷ r) in let b = ap length e in absurd (omega (arith, a, b))

-- ---- the tree after

module _ (tree now : Tree) (own path : Path) (bytes : List ℕ) (is : IsTree tree) (beside : IsBeside path own) (w : IsWriting tree own bytes now) where
  -- nothing stands under the file of its own
  none_below : (r : Path) → r ≢ [] → node_at now (own ++ r) ≡ None
  none_below r ne = w.others (own ++ r) (not_empty own r ne) ∙ none_under tree is own r w.named.none

  abbrev next : Tree
  next = with_renamed now own path

  abbrev looked : Path → Bool → Bool → Bool → Option Node
  looked q under from at = or_else (cond under (node_at now (own ++ drop (length path) q)) None) (cond (not from && not at) (node_at now q) None)

  at_it : node_at next path ≡ Some (file w.holds.content)
  at_it =
      tree_laws.at_renamed now own path path
      ∙ (λ k. looked path (path_eq path (take (length path) path) whole k) (is_at_or_under own path) (paths_eq path path))
      ∙ ap (λ (o : Option Node). or_else o (cond (not (is_at_or_under own path) && not (paths_eq path path)) (node_at now path) None)) (ap (λ (r : Path). node_at now (own ++ r)) rest ∙ ap (node_at now) (append-nil own) ∙ w.holds.is_file)
    where
      whole : path ≡ take (length path) path
      whole = take_all path
        where
          take_all : (p : Path) → p ≡ take (length p) p
          take_all [] = refl
          take_all (x ∷ p) = (λ k. x ∷ take_all p k)

      rest : drop (length path) path ≡ []
      rest = drop_all path
        where
          drop_all : (p : Path) → drop (length p) p ≡ []
          drop_all [] = refl
          drop_all (x ∷ p) = drop_all p

  elsewhere : (q : Path) → q ≢ path → node_at next q ≡ node_at tree q
  elsewhere q ne = tree_laws.at_renamed now own path q ∙ by (is_at_or_under path q) (is_at_or_under own q) refl refl
    where
      not_at : paths_eq path q ≡ false
      not_at = differ path q (λ e. ne (sym e))

      not_own : is_at_or_under own q ≡ false → q ≢ own
      not_own out e = cc (out, subst (λ (x : Path). is_at_or_under own x ≡ true) (sym e) (subst (λ (x : Path). is_at_or_under own x ≡ true) (append-nil own) (under_append own [])))

      by : (under from : Bool) → is_at_or_under path q ≡ under → is_at_or_under own q ≡ from
          → looked q (is_at_or_under path q) (is_at_or_under own q) (paths_eq path q) ≡ node_at tree q
      by true true eu ef = absurd (not_both path own beside q eu ef)
      by true false eu ef =
          let r : drop (length path) q ≢ [] = λ none. ne (sym (sym (append-nil path) ∙ ap (λ (x : Path). path ++ x) (sym none) ∙ under_parts path q eu)) in
          (λ k. looked q (eu k) (ef k) (not_at k))
          ∙ ap (λ (o : Option Node). or_else o (node_at now q)) (none_below (drop (length path) q) r)
          ∙ w.others q (not_own ef)
      by false true eu ef =
          (λ k. looked q (eu k) (ef k) (not_at k))
          ∙ sym (ap (node_at tree) (sym (under_parts own q ef)) ∙ none_under tree is own (drop (length own) q) w.named.none)
      by false false eu ef = (λ k. looked q (eu k) (ef k) (not_at k)) ∙ w.others q (not_own ef)

  pub moved : IsPut tree path bytes next
  moved = record { holds = record { content = w.holds.content; is_file = at_it; holds = w.holds.holds }; others = elsewhere }

  pub renamed : (shape : Shape) → IsDue shape now (Rename own path) Done
      → IsPut tree path bytes (after shape now (Rename own path) Done) × (space_refusal shape (after shape now (Rename own path) Done) ≡ None)
  unfolding effect_of
  renamed shape due =
      let done : (step shape now (Rename own path)).reply ≡ Done = due_is (step shape now (Rename own path)) Done due (λ u m e. cc e) in
      let p = performs shape now (Rename own path) Done refl done in
      let ends : (step shape now (Rename own path)).tree ≡ next =
      ap (λ (o : Outcome). o.tree) p.is ∙ ap (λ (b : Bool). if b then now else next) (differ own path (other_path path own beside)) in
      (subst (IsPut tree path bytes) (sym ends) moved, ap (λ (t : Tree). space_refusal shape t) (ap (λ (o : Outcome). o.tree) p.is) ∙ p.room)
