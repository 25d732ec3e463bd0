-- Changes of names, in the tree that the nodes stand for.
use Rattle.std.proofs.Common.{◌≡◌, ℕ, true, false, List, [], ◌∷◌, refl, sym, ap, subst, ◌∙◌, Option, Some, None, option_and_then, is_none, is_some, IsSome, inl, inr}
use Rattle.std.specs.Option.{option_map_or}
use Rattle.nl_field.specs.Graph.{Graph, NodeBody, directory_node, file_node, unused}
use Rattle.nl_field.specs.declared.inode.Kind.TheVariants.{File}
use Rattle.nl_tree.specs.Represents.{node_of, node_reached}
use Rattle.nl_tree.specs.Step.{first_of, is_too_long, missing, prefix_refusal, refusal_of_file, refusal_of_new, when}
use Rattle.nl_tree.specs.Tree.{Node, Tree, is_directory, is_root, node_at, with_new, without}
use Rattle.nl_tree.specs.Represents.{Represents}
use Rattle.nl_tree.specs.declared.reply.Refusal.{Refusal}
use Rattle.nl_tree.specs.declared.reply.Refusal.TheVariants.{Eexist, Eisdir, Enametoolong, Enoent}
use Rattle.nl_tree.proofs.ChangeProofs.{graph_changes}
use Rattle.nl_tree.proofs.GraphProofs.{added_entry}
use Rattle.nl_namespace.specs.ChangeLaws.{MakesInTree, RemovesInTree, GraphRepresents, UnlinksInTree}
use Rattle.nl_namespace.specs.Naming.{refusal_of_kind, refusal_of_name, refusal_of_removal}
use Rattle.nl_namespace.specs.Paths.{walk_refusal}
use Rattle.nl_namespace.specs.declared.answer.Change.TheVariants as change
use Rattle.nl_namespace.proofs.TreeWalks.{walk-is}

three : (a b c d : Option Refusal) → first_of (a ∷ first_of (b ∷ c ∷ d ∷ []) ∷ []) ≡ first_of (a ∷ b ∷ c ∷ d ∷ [])
three (Some r) b c d = refl
three None (Some r) c d = refl
three None None (Some r) d = refl
three None None None (Some r) = refl
three None None None None = refl

pub four : (a b c d e : Option Refusal) → first_of (a ∷ first_of (b ∷ c ∷ d ∷ e ∷ []) ∷ []) ≡ first_of (a ∷ b ∷ c ∷ d ∷ e ∷ [])
four (Some r) b c d e = refl
four None (Some r) c d e = refl
four None None (Some r) d e = refl
four None None None (Some r) e = refl
four None None None None (Some r) = refl
four None None None None None = refl

module _ (bytes_of : ℕ → List ℕ) (graph : Graph) (tree : Tree) (stands : GraphRepresents bytes_of graph tree) (path : List (List ℕ)) where
  -- what stands at the path
  pub at-path : node_at tree path ≡ option_and_then (λ n. node_of bytes_of (graph n).body) (node_reached graph 0 path)
  at-path = stands.represents path

  some-same : (o : Option ℕ) → node_reached graph 0 path ≡ o → is_some (option_and_then (λ n. node_of bytes_of (graph n).body) o) ≡ is_some o
  some-same None e = refl
  some-same (Some n) e = stands.used path n e

  pub none-same : (o : Option ℕ) → node_reached graph 0 path ≡ o → is_none (option_and_then (λ n. node_of bytes_of (graph n).body) o) ≡ is_none o
  none-same None e = refl
  none-same (Some n) e = of (node_of bytes_of (graph n).body) (stands.used path n e)
    where
      of : (o : Option Node) → IsSome o → is_none o ≡ false
      of (Some x) h = refl
      of None h = absurd (no h)
        where
          no : false ≡ true → ⊥
          no e = cc

  pub making-same : first_of (when (is_too_long path) Enametoolong ∷ refusal_of_new tree path ∷ []) ≡ refusal_of_name graph path
  unfolding refusal_of_new
  making-same =
      three (when (is_too_long path) Enametoolong) (when (is_root path) Eexist) (prefix_refusal tree path) (when (is_some (node_at tree path)) Eexist)
      ∙ (λ i. first_of (when (is_too_long path) Enametoolong ∷ when (is_root path) Eexist ∷ walk-is bytes_of graph tree stands.represents stands.root path i ∷ when ((ap is_some at-path ∙ some-same (node_reached graph 0 path) refl) i) Eexist ∷ []))

  -- the last refusal of an unlink is asked for only where the node is there
  last-same : (a b c : Option Refusal) (o : Option ℕ) → node_reached graph 0 path ≡ o
      → first_of (a ∷ b ∷ c ∷ when (is_none o) Enoent ∷ when (is_directory (option_and_then (λ n. node_of bytes_of (graph n).body) o)) Eisdir ∷ [])
      ≡ first_of (a ∷ b ∷ c ∷ when (is_none o) Enoent ∷ refusal_of_kind File (option_map_or (λ n. (graph n).body) o unused) ∷ [])
  last-same a b c None e = gone a b c
    where
      gone : (a b c : Option Refusal) → first_of (a ∷ b ∷ c ∷ Some Enoent ∷ when (is_directory None) Eisdir ∷ []) ≡ first_of (a ∷ b ∷ c ∷ Some Enoent ∷ refusal_of_kind File unused ∷ [])
      gone (Some r) b c = refl
      gone None (Some r) c = refl
      gone None None (Some r) = refl
      gone None None None = refl
  last-same a b c (Some n) e = ap (λ (z : Option Refusal). first_of (a ∷ b ∷ c ∷ None ∷ z ∷ [])) (of (graph n).body)
    where
      of : (b : NodeBody) → when (is_directory (node_of bytes_of b)) Eisdir ≡ refusal_of_kind File b
      of unused = refl
      of (directory_node entries) = refl
      of (file_node size pointers) = refl

  pub unlink-same : first_of (when (is_too_long path) Enametoolong ∷ refusal_of_file tree path ∷ []) ≡ refusal_of_removal File graph path
  unfolding refusal_of_file
  unlink-same =
      four (when (is_too_long path) Enametoolong) (when (is_root path) Eisdir) (prefix_refusal tree path) (missing tree path) (when (is_directory (node_at tree path)) Eisdir)
      ∙ (λ i. first_of (when (is_too_long path) Enametoolong ∷ when (is_root path) Eisdir ∷ walk-is bytes_of graph tree stands.represents stands.root path i ∷ when ((ap is_none at-path ∙ none-same (node_reached graph 0 path) refl) i) Enoent
      ∷ when (is_directory (at-path i)) Eisdir ∷ []))
      ∙ last-same (when (is_too_long path) Enametoolong) (when (is_root path) Eisdir) (walk_refusal graph 0 path) (node_reached graph 0 path) refl

pub makes_in_tree : MakesInTree
makes_in_tree bytes_of free old new tree path node (change.Changed lost) stands m =
    let made = m.2.1 in (
      making-same bytes_of old tree stands path ∙ m.0,
      subst (λ (z : List (List ℕ)). Represents bytes_of new (with_new tree z node)) (sym made.place.split)
          (added_entry bytes_of bytes_of old new tree made.n m.2.0 made.place.parent made.name node stands.once (made.adds bytes_of) made.place.leads stands.represents),
    )
makes_in_tree bytes_of free old new tree path node (change.No refusal) stands (inl e) = inl (making-same bytes_of old tree stands path ∙ e)
makes_in_tree bytes_of free old new tree path node (change.No refusal) stands (inr m) = inr (making-same bytes_of old tree stands path ∙ m.0, m.1)
makes_in_tree bytes_of free old new tree path node change.Fault stands m = m
makes_in_tree bytes_of free old new tree path node (change.Lost w f) stands m = m

pub removes_in_tree : RemovesInTree
removes_in_tree bytes_of kind old new tree path (change.Changed lost) stands m =
    let r = m.1.2 in
    subst (λ (z : List (List ℕ)). Represents bytes_of new (without tree z)) (sym r.place.split)
    (graph_changes.removed bytes_of bytes_of old new tree r.n m.1.0 r.place.parent r.name stands.once (r.removes bytes_of) r.place.leads stands.represents)
removes_in_tree bytes_of kind old new tree path (change.No refusal) stands m = tt
removes_in_tree bytes_of kind old new tree path change.Fault stands m = tt
removes_in_tree bytes_of kind old new tree path (change.Lost w f) stands m = tt

pub unlinks_in_tree : UnlinksInTree
unlinks_in_tree bytes_of old new tree path (change.Changed lost) stands m = unlink-same bytes_of old tree stands path ∙ m.0
unlinks_in_tree bytes_of old new tree path (change.No refusal) stands m = unlink-same bytes_of old tree stands path ∙ m
unlinks_in_tree bytes_of old new tree path change.Fault stands m = m
unlinks_in_tree bytes_of old new tree path (change.Lost w f) stands m = m
