-- An entry that is moved, in the nodes as a graph: what stood at its new name is taken out, then the entry, and then it is put in.
use Rattle.std.proofs.Common.{◌≡◌, ◌≢◌, ℕ, true, false, List, [], ◌∷◌, ◌++◌, refl, sym, ap, subst, ◌∙◌, Option, Some, None, option_and_then, ◌⊎◌, inl, inr}
use Rattle.std.proofs.lemmas.Bool.{cases_eq}
use Rattle.std.proofs.lemmas.List.{append_assoc}
use Rattle.nl_field.specs.Graph.{Graph}
use Rattle.nl_meta.proofs.Lists.{none_some, some_in}
use Rattle.nl_tree.specs.GraphChanges.{MovesEntry}
use Rattle.nl_tree.specs.GraphLaws.{NamedOnce, entry_at}
use Rattle.nl_tree.specs.Represents.{node_of, node_reached}
use Rattle.nl_tree.specs.Tree.{is_at_or_under}
use Rattle.nl_tree.proofs.ChangeProofs.{at_end, graph_changes, is_same_name}
use Rattle.nl_tree.proofs.GraphProofs.{one_path_to}
use Rattle.nl_tree.proofs.TreeProofs.{under_append}
use Rattle.nl_namespace.proofs.Links.{Led}

-- A name has this node, and every other name what it had.
pub record Named (old new : Graph) (d : ℕ) (name : List ℕ) (o : Option ℕ) : Type 0 where
  pub at : entry_at new d name ≡ o
  pub elsewhere : (k : ℕ) (x : List ℕ) → (k ≡ d → x ≢ name) → entry_at new k x ≡ entry_at old k x
  pub bodies : (bytes_of : ℕ → List ℕ) (k : ℕ) → node_of bytes_of (new k).body ≡ node_of bytes_of (old k).body

false-true : false ≡ true → ⊥
false-true e = cc

module _ (g0 g1 g2 g3 : Graph) (n m l : ℕ) (name name_to : List ℕ) (once : NamedOnce g0) (was : entry_at g0 n name ≡ Some m) (bare : (k : ℕ) (x : List ℕ) → entry_at g0 l name_to ≡ Some k → entry_at g0 k x ≡ None)
    (first : Named g0 g1 l name_to None) (second : Named g1 g2 n name None) (third : Named g2 g3 l name_to (Some m)) (differ : n ≡ l → name ≢ name_to) where
  -- what keeps its node
  pub stays : (k : ℕ) (x : List ℕ) → (k ≡ n → x ≢ name) → (k ≡ l → x ≢ name_to) → entry_at g3 k x ≡ entry_at g0 k x
  stays k x off off_to = third.elsewhere k x off_to ∙ second.elsewhere k x off ∙ first.elsewhere k x off_to

  pub now-gone : entry_at g3 n name ≡ None
  now-gone = third.elsewhere n name differ ∙ second.at

  -- what stood there is not one of the directories
  bare-not-to : (k : ℕ) → entry_at g0 l name_to ≡ Some k → k ≢ l
  bare-not-to k e same = none_some k (sym (bare k name_to e) ∙ ap (λ (i : ℕ). entry_at g0 i name_to) same ∙ e)

  bare-not-from : (k : ℕ) → entry_at g0 l name_to ≡ Some k → k ≢ n
  bare-not-from k e same = none_some m (sym (bare k name e) ∙ ap (λ (i : ℕ). entry_at g0 i name) same ∙ was)

  pub childless : (k : ℕ) (x : List ℕ) → entry_at g0 l name_to ≡ Some k → entry_at g3 k x ≡ None
  childless k x e = stays k x (λ same. absurd (bare-not-from k e same)) (λ same. absurd (bare-not-to k e same)) ∙ bare k x e

  pub moves : (bytes_of : ℕ → List ℕ) → MovesEntry bytes_of bytes_of g0 g3 n m l name name_to
  moves bytes_of = record {
    was = was;
    now = third.at;
    gone = now-gone;
    others = λ k x off off_to alive. stays k x off off_to;
    over_childless = bare;
    childless = childless;
    bodies_stay = λ k alive. third.bodies bytes_of k ∙ second.bodies bytes_of k ∙ first.bodies bytes_of k;
  }

  pub once-moved : NamedOnce g3
  once-moved = graph_changes.once_moved (λ v. []) (λ v. []) g0 g3 n m l name name_to once (moves (λ v. []))

  -- what stood there has no name
  pub unnamed : (k j : ℕ) (x : List ℕ) → entry_at g0 l name_to ≡ Some j → entry_at g3 k x ≢ Some j
  unnamed k j x stood e = by (is_same k n) (is_same k l) (is_same_name x name) (is_same_name x name_to)
    where
      is_same : (a b : ℕ) → (a ≡ b) ⊎ (a ≢ b)
      is_same a b = cases_eq a b

      kept : (k ≡ n → x ≢ name) → (k ≡ l → x ≢ name_to) → ⊥
      kept off off_to = let o = once.once k l j x name_to (sym (stays k x off off_to) ∙ e) stood in off_to o.0 o.1

      at-to : k ≡ l → x ≡ name_to → ⊥
      at-to h y =
          let same : m ≡ j = some_in m j (sym third.at ∙ (λ i. entry_at g3 (sym h i) (sym y i)) ∙ e) in
          let o = once.once n l j name name_to (was ∙ ap (λ (i : ℕ). Some i) same) stood in
          differ o.0 o.1

      by : (k ≡ n) ⊎ (k ≢ n) → (k ≡ l) ⊎ (k ≢ l) → (x ≡ name) ⊎ (x ≢ name) → (x ≡ name_to) ⊎ (x ≢ name_to) → ⊥
      by (inl a) _ (inl b) _ = none_some j (sym now-gone ∙ (λ i. entry_at g3 (sym a i) (sym b i)) ∙ e)
      by _ (inl c) _ (inl d) = at-to c d
      by (inr a) (inr c) _ _ = kept (λ h. absurd (a h)) (λ h. absurd (c h))
      by (inr a) (inl c) _ (inr d) = kept (λ h. absurd (a h)) (λ h. d)
      by (inl a) (inr c) (inr b) _ = kept (λ h. b) (λ h. absurd (c h))
      by (inl a) (inl c) (inr b) (inr d) = kept (λ h. b) (λ h. d)

  module _ (path path_to : List (List ℕ)) (at_path : node_reached g0 0 path ≡ Some n) (at_to : node_reached g0 0 path_to ≡ Some l) (apart : is_at_or_under (path ++ name ∷ []) (path_to ++ name_to ∷ []) ≡ false) where
    not-below : (r : List (List ℕ)) → path_to ≢ (path ++ name ∷ []) ++ r
    not-below r e =
        false-true (sym apart ∙ ap (λ (z : List (List ℕ)). is_at_or_under (path ++ name ∷ []) (z ++ name_to ∷ [])) e
        ∙ ap (is_at_or_under (path ++ name ∷ [])) (append_assoc (path ++ name ∷ []) r (name_to ∷ [])) ∙ under_append (path ++ name ∷ []) (r ++ name_to ∷ []))

    -- the directory that gets the entry is led to still
    leads : (rest done : List (List ℕ)) (k : ℕ) → node_reached g0 0 done ≡ Some k → node_reached g0 k rest ≡ Some l → path_to ≡ done ++ rest → Led g3 k → Led g3 l
    unfolding node_reached
    leads [] done k at end whole led = subst (Led g3) (some_in k l end) led
    leads (x ∷ rest) done k at end whole led = by (entry_at g0 k x) refl end (λ j here after. leads rest (done ++ x ∷ []) j (at_end g0 done x k at ∙ here) after (whole ∙ sym (append_assoc done (x ∷ []) rest)))
      where
        -- nothing stands behind what stood at the new name, and it is not the directory
        dead : (j : ℕ) (rest : List (List ℕ)) → entry_at g0 l name_to ≡ Some j → node_reached g0 j rest ≡ Some l → ⊥
        dead j [] stood after = bare-not-to j stood (some_in j l after)
        dead j (y ∷ rest) stood after = none_some l (sym (ap (option_and_then (λ i. node_reached g0 i rest)) (bare j y stood)) ∙ after)

        step : (j : ℕ) → entry_at g0 k x ≡ Some j → node_reached g0 j rest ≡ Some l → (k ≡ n → x ≢ name) → (k ≡ l → x ≢ name_to) → Led g3 j
        step j here after off off_to = Led.by_entry k j x (stays k x off off_to ∙ here) led

        off-from : k ≡ n → x ≢ name
        off-from same y = not-below rest (whole ∙ (λ i. one_path_to g0 once n done path (at ∙ ap (λ (i : ℕ). Some i) same) at_path i ++ y i ∷ rest) ∙ sym (append_assoc path (name ∷ []) rest))

        off-to : (j : ℕ) → entry_at g0 k x ≡ Some j → node_reached g0 j rest ≡ Some l → k ≡ l → x ≢ name_to
        off-to j here after same y = dead j rest ((λ i. entry_at g0 (sym same i) (sym y i)) ∙ here) after

        by : (o : Option ℕ) → entry_at g0 k x ≡ o → option_and_then (λ j. node_reached g0 j rest) o ≡ Some l
            → ((j : ℕ) → entry_at g0 k x ≡ Some j → node_reached g0 j rest ≡ Some l → Led g3 j → Led g3 l) → Led g3 l
        by None here after onward = absurd (none_some l after)
        by (Some j) here after onward = onward j here after (step j here after off-from (off-to j here after))

    pub led-to : Led g3 l
    unfolding node_reached
    led-to = leads path_to [] 0 refl at_to refl Led.at_root

    -- each node is led to but what stood at the new name
    pub led-moved : (k : ℕ) → (entry_at g0 l name_to ≡ Some k → ⊥) → Led g0 k → Led g3 k
    led-moved k alive Led.at_root = Led.at_root
    led-moved k alive (Led.by_entry d j x e led) = by (led-moved d (λ stood. none_some k (sym (bare d x stood) ∙ e)) led) (cases_eq d n) (cases_eq d l) (is_same_name x name) (is_same_name x name_to)
      where
        kept : Led g3 d → (d ≡ n → x ≢ name) → (d ≡ l → x ≢ name_to) → Led g3 k
        kept before off off_to = Led.by_entry d k x (stays d x off off_to ∙ e) before

        by : Led g3 d → (d ≡ n) ⊎ (d ≡ n → ⊥) → (d ≡ l) ⊎ (d ≡ l → ⊥) → (x ≡ name) ⊎ (x ≢ name) → (x ≡ name_to) ⊎ (x ≢ name_to) → Led g3 k
        by before (inl a) _ (inl b) _ =
            let same : m ≡ k = some_in m k (sym was ∙ (λ i. entry_at g0 (sym a i) (sym b i)) ∙ e) in
            subst (Led g3) same (Led.by_entry l m name_to third.at led-to)
        by before _ (inl c) _ (inl y) = absurd (alive ((λ i. entry_at g0 (sym c i) (sym y i)) ∙ e))
        by before (inr a) (inr c) _ _ = kept before (λ h. absurd (a h)) (λ h. absurd (c h))
        by before (inr a) (inl c) _ (inr y) = kept before (λ h. absurd (a h)) (λ h. y)
        by before (inl a) (inr c) (inr b) _ = kept before (λ h. b) (λ h. absurd (c h))
        by before (inl a) (inl c) (inr b) (inr y) = kept before (λ h. b) (λ h. y)
