-- A rename, in the tree that the nodes stand for.
use Rattle.std.proofs.Common.{◌≡◌, ◌≢◌, ℕ, Bool, true, false, ◌||◌, ◌&&◌, cond, List, [], ◌∷◌, ◌++◌, length, nat_lt, refl, sym, ap, subst, ◌∙◌, Option, Some, None, option_and_then, is_none, inl, inr}
use Rattle.std.specs.Option.{option_map_or}
use Rattle.std.specs.Prelude.{MatchBool}
use Rattle.nl_field.specs.Graph.{Graph, NodeBody, directory_node, file_node, unused}
use Rattle.nl_tree.specs.Represents.{Represents, node_of, node_reached}
use Rattle.nl_tree.specs.Step.{first_of, is_too_long, missing, prefix_refusal, refusal_of_move, refusal_of_rename as tree_refusal_of_rename, when}
use Rattle.nl_tree.specs.Tree.{Node, Tree, entries_of, is_at_or_under, is_directory, is_file, is_root, node_at, paths_eq, with_renamed}
use Rattle.nl_tree.specs.declared.reply.Refusal.{Refusal}
use Rattle.nl_tree.specs.declared.reply.Refusal.TheVariants.{Einval, Eisdir, Enametoolong, Enoent, Enotdir, Enotempty}
use Rattle.nl_tree.proofs.ChangeProofs.{graph_changes}
use Rattle.nl_tree.proofs.TreeProofs.{under_append}
use Rattle.nl_namespace.specs.ChangeLaws.{RenamesInTree, GraphRepresents}
use Rattle.nl_namespace.specs.Moving.{MovesName, MovesOrStays, is_directory_body, refusal_of_place, refusal_of_rename, refusal_over}
use Rattle.nl_namespace.specs.Naming.{body_at}
use Rattle.nl_namespace.specs.Paths.{walk_refusal}
use Rattle.nl_namespace.specs.declared.answer.Change.TheVariants as change
use Rattle.nl_namespace.proofs.TreeChanges.{at-path, four, none-same}
use Rattle.nl_namespace.proofs.TreeRmdir.{nonempty-same, same-behind}
use Rattle.nl_namespace.proofs.TreeWalks.{walk-is}

pub or-nothing : (b : Bool) → (b || false) ≡ b
or-nothing true = refl
or-nothing false = refl

-- tests behind two others, as one
together : (x y p q r : Option Refusal) → first_of (x ∷ y ∷ p ∷ q ∷ r ∷ []) ≡ first_of (x ∷ y ∷ first_of (p ∷ q ∷ r ∷ []) ∷ [])
together (Some z) y p q r = refl
together None (Some z) p q r = refl
together None None (Some z) q r = refl
together None None None (Some z) r = refl
together None None None None (Some z) = refl
together None None None None None = refl

dir-same : (bytes_of : ℕ → List ℕ) (b : NodeBody) → is_directory (node_of bytes_of b) ≡ is_directory_body b
dir-same bytes_of unused = refl
dir-same bytes_of (directory_node entries) = refl
dir-same bytes_of (file_node size pointers) = refl

-- what refuses that a node takes the place of what stands there
abbrev over_tests : Option Node → Option Node → Bool → Option Refusal
over_tests old new some = first_of (when (is_file old && is_directory new) Eisdir ∷ when (is_directory old && is_file new) Enotdir ∷ when (is_directory old && is_directory new && some) Enotempty ∷ [])

over-same : (bytes_of : ℕ → List ℕ) (old new : NodeBody) (some : Bool) → ((entries : List (List ℕ × ℕ)) → new ≡ directory_node entries → some ≡ nat_lt 0 (length entries))
    → over_tests (node_of bytes_of old) (node_of bytes_of new) some ≡ refusal_over old new
over-same bytes_of unused unused some same = refl
over-same bytes_of unused (directory_node es) some same = refl
over-same bytes_of unused (file_node n ps) some same = refl
over-same bytes_of (file_node n ps) unused some same = refl
over-same bytes_of (file_node n ps) (directory_node es) some same = refl
over-same bytes_of (file_node n ps) (file_node m qs) some same = refl
over-same bytes_of (directory_node es) unused some same = refl
over-same bytes_of (directory_node es) (file_node m qs) some same = refl
over-same bytes_of (directory_node es) (directory_node fs) some same = ap (λ (b : Bool). over_tests (node_of bytes_of (directory_node es)) (node_of bytes_of (directory_node fs)) b) (same fs refl) ∙ one (nat_lt 0 (length fs))
  where
    one : (b : Bool) → first_of (None ∷ None ∷ when b Enotempty ∷ []) ≡ when b Enotempty
    one true = refl
    one false = refl

over-none : (bytes_of : ℕ → List ℕ) (old : NodeBody) (some : Bool) → over_tests (node_of bytes_of old) None some ≡ refusal_over old unused
over-none bytes_of unused some = refl
over-none bytes_of (directory_node es) some = refl
over-none bytes_of (file_node n ps) some = refl

module _ (bytes_of : ℕ → List ℕ) (graph : Graph) (tree : Tree) (stands : GraphRepresents bytes_of graph tree) (from to : List (List ℕ)) where
  module _ (m : ℕ) (reached : node_reached graph 0 from ≡ Some m) where
    old-at : node_at tree from ≡ node_of bytes_of (graph m).body
    old-at = at-path bytes_of graph tree stands from ∙ ap (option_and_then (λ n. node_of bytes_of (graph n).body)) reached

    body-from : body_at graph from ≡ (graph m).body
    body-from = ap (λ (o : Option ℕ). option_map_or (λ n. (graph n).body) o unused) reached

    over-there : (o : Option ℕ) → node_reached graph 0 to ≡ o
        → over_tests (node_of bytes_of (graph m).body) (option_and_then (λ n. node_of bytes_of (graph n).body) o) (nat_lt 0 (length (entries_of tree to))) ≡ refusal_over (graph m).body (option_map_or (λ n. (graph n).body) o unused)
    over-there None e = over-none bytes_of (graph m).body (nat_lt 0 (length (entries_of tree to)))
    over-there (Some k) e = over-same bytes_of (graph m).body (graph k).body (nat_lt 0 (length (entries_of tree to))) (λ es body. nonempty-same bytes_of graph tree stands to k e es body)

    move-same : refusal_of_move tree from to ≡ refusal_of_place graph from to
    unfolding refusal_of_move
    move-same =
        together (when (is_directory (node_at tree from) && is_at_or_under from to) Einval) (prefix_refusal tree to) (when (is_file (node_at tree from) && is_directory (node_at tree to)) Eisdir) (when (is_directory (node_at tree from) && is_file (node_at tree to)) Enotdir)
        (when (is_directory (node_at tree from) && is_directory (node_at tree to) && nat_lt 0 (length (entries_of tree to))) Enotempty)
        ∙ (λ i. first_of (when (is_directory (old-at i) && is_at_or_under from to) Einval ∷ walk-is bytes_of graph tree stands.represents stands.root to i ∷ over_tests (old-at i) (at-path bytes_of graph tree stands to i) (nat_lt 0 (length (entries_of tree to))) ∷ []))
        ∙ (λ i. first_of (when (dir-same bytes_of (graph m).body i && is_at_or_under from to) Einval ∷ walk_refusal graph 0 to ∷ over-there (node_reached graph 0 to) refl i ∷ []))
        ∙ sym (ap (λ (b : NodeBody). first_of (when (is_directory_body b && is_at_or_under from to) Einval ∷ walk_refusal graph 0 to ∷ refusal_over b (body_at graph to) ∷ [])) body-from)

  last-same : (a b c : Option Refusal) (o : Option ℕ) → node_reached graph 0 from ≡ o
      → first_of (a ∷ b ∷ c ∷ when (is_none o) Enoent ∷ cond (paths_eq from to) None (refusal_of_move tree from to) ∷ []) ≡ first_of (a ∷ b ∷ c ∷ when (is_none o) Enoent ∷ cond (paths_eq from to) None (refusal_of_place graph from to) ∷ [])
  last-same a b c None e = same-behind a b c Enoent (cond (paths_eq from to) None (refusal_of_move tree from to)) (cond (paths_eq from to) None (refusal_of_place graph from to))
  last-same a b c (Some m) e = ap (λ (r : Option Refusal). first_of (a ∷ b ∷ c ∷ None ∷ cond (paths_eq from to) None r ∷ [])) (move-same m e)

  pub rename-same : first_of (when (is_too_long from || (is_too_long to || false)) Enametoolong ∷ tree_refusal_of_rename tree from to ∷ []) ≡ refusal_of_rename graph from to
  unfolding tree_refusal_of_rename
  rename-same =
      four (when (is_too_long from || (is_too_long to || false)) Enametoolong) (when (is_root from || is_root to) Einval) (prefix_refusal tree from) (missing tree from) (cond (paths_eq from to) None (refusal_of_move tree from to))
      ∙ (λ i. first_of (when (is_too_long from || or-nothing (is_too_long to) i) Enametoolong ∷ when (is_root from || is_root to) Einval ∷ walk-is bytes_of graph tree stands.represents stands.root from i
      ∷ when ((ap is_none (at-path bytes_of graph tree stands from) ∙ none-same bytes_of graph tree stands from (node_reached graph 0 from) refl) i) Enoent ∷ cond (paths_eq from to) None (refusal_of_move tree from to) ∷ []))
      ∙ last-same (when (is_too_long from || is_too_long to) Enametoolong) (when (is_root from || is_root to) Einval) (walk_refusal graph 0 from) (node_reached graph 0 from) refl

  module _ (new : Graph) where
    moved : (gone : Option ℕ) → MovesName graph new from to gone → Represents bytes_of new (with_renamed tree from to)
    moved gone m =
        subst (λ (z : List (List ℕ)). Represents bytes_of new (with_renamed tree from z)) (sym m.place_to.split)
        (subst (λ (z : List (List ℕ)). Represents bytes_of new (with_renamed tree z (m.place_to.parent ++ m.name_to ∷ []))) (sym m.place.split)
        (graph_changes.moved_to bytes_of bytes_of graph new tree m.n m.m m.l m.place.parent m.place_to.parent m.name m.name_to stands.once (m.moves bytes_of) m.place.leads m.place_to.leads apart stands.represents))
      where
        false-true : false ≡ true → ⊥
        false-true e = cc

        apart : (r : List (List ℕ)) → m.place_to.parent ++ m.name_to ∷ [] ≢ (m.place.parent ++ m.name ∷ []) ++ r
        apart r e = false-true (sym m.apart ∙ ap (is_at_or_under from) (m.place_to.split ∙ e ∙ ap (λ (z : List (List ℕ)). z ++ r) (sym m.place.split)) ∙ under_append from r)

    represents-after : (gone : Option ℕ) → MovesOrStays graph new from to gone → Represents bytes_of new (cond (paths_eq from to) tree (with_renamed tree from to))
    represents-after gone m = by (paths_eq from to) m
      where
        by : (b : Bool) → MatchBool b ((gone ≡ None) × (new ≡ graph)) (MovesName graph new from to gone) → Represents bytes_of new (cond b tree (with_renamed tree from to))
        by true h = subst (λ (z : Graph). Represents bytes_of z tree) (sym h.1) stands.represents
        by false h = moved gone h

pub renames_in_tree : RenamesInTree
renames_in_tree bytes_of free old new tree from to (change.Changed gone) stands m = (rename-same bytes_of old tree stands from to ∙ m.0, represents-after bytes_of old tree stands from to new gone m.1)
renames_in_tree bytes_of free old new tree from to (change.No refusal) stands (inl e) = inl (rename-same bytes_of old tree stands from to ∙ e)
renames_in_tree bytes_of free old new tree from to (change.No refusal) stands (inr m) = inr (rename-same bytes_of old tree stands from to ∙ m.0, m.1)
renames_in_tree bytes_of free old new tree from to change.Fault stands m = m
renames_in_tree bytes_of free old new tree from to (change.Lost w f) stands m = m
