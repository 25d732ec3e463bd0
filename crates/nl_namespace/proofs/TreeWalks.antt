-- The walk of a path in the tree for which the nodes stand.
use Rattle.std.proofs.Common.{◌≡◌, ℕ, List, [], ◌∷◌, ◌++◌, refl, sym, ap, ◌∙◌, Option, Some, None, option_and_then, is_none}
use Rattle.nl_field.specs.Graph.{Graph, NodeBody, directory_node, file_node, unused}
use Rattle.nl_tree.specs.Represents.{Represents, entries_in, node_named, node_of, node_reached}
use Rattle.nl_tree.specs.Step.{first_of, prefix_refusal, prefix_refusal_from, when}
use Rattle.nl_tree.specs.Tree.{Node, Tree, directory, file, is_file, node_at}
use Rattle.nl_tree.specs.declared.reply.Refusal.{Refusal}
use Rattle.nl_tree.specs.declared.reply.Refusal.TheVariants.{Enoent, Enotdir}
use Rattle.nl_tree.proofs.GraphProofs.{one_name, reached-append}
use Rattle.nl_field.specs.FileContent.{FileContent}
use Rattle.nl_meta.proofs.Lists.{none_some, some_in}
use Rattle.nl_namespace.specs.PathLaws.{IsInTree, LooksInTree}
use Rattle.nl_namespace.specs.Paths.{Looks, onward, walk_refusal, within}
use Rattle.nl_namespace.specs.declared.answer.Look.{Look}
use Rattle.nl_namespace.specs.declared.answer.Look.TheVariants as look

module _ (bytes_of : ℕ → List ℕ) (graph : Graph) (tree : Tree) (represents : Represents bytes_of graph tree) where
  -- what stands under a name of a directory
  pub under : (at : List (List ℕ)) (n : ℕ) (name : List ℕ) → node_reached graph 0 at ≡ Some n
      → node_reached graph 0 (at ++ name ∷ []) ≡ node_named name (entries_in (graph n).body)
  unfolding node_reached
  under at n name e = reached-append graph 0 at (name ∷ []) ∙ ap (option_and_then (λ m. node_reached graph m (name ∷ []))) e ∙ one_name (node_named name (entries_in (graph n).body))

  -- the walk from a directory on
  walks : (names at : List (List ℕ)) (n : ℕ) (entries : List (List ℕ × ℕ)) → node_reached graph 0 at ≡ Some n → (graph n).body ≡ directory_node entries
      → prefix_refusal_from tree at names ≡ walk_refusal graph n names
  unfolding prefix_refusal_from walk_refusal
  walks [] at n entries e is = refl
  walks (name ∷ []) at n entries e is = sym (ap (λ (b : NodeBody). within b name [] (λ m. walk_refusal graph m [])) is ∙ last (node_named name entries))
    where
      last : (o : Option ℕ) → onward o [] (λ m. None) ≡ None
      last None = refl
      last (Some m) = refl
  walks (name ∷ next ∷ names) at n entries e is =
      ap (λ (o : Option Node). first_of (when (is_none o) Enoent ∷ when (is_file o) Enotdir ∷ prefix_refusal_from tree (at ++ name ∷ []) (next ∷ names) ∷ []))
      (represents (at ++ name ∷ []) ∙ ap (option_and_then (λ m. node_of bytes_of (graph m).body)) here)
      ∙ by (node_named name entries) here (λ m f. walks (next ∷ names) (at ++ name ∷ []) m f)
      ∙ sym (ap (λ (b : NodeBody). within b name (next ∷ names) (λ m. walk_refusal graph m (next ∷ names))) is)
    where
      here : node_reached graph 0 (at ++ name ∷ []) ≡ node_named name entries
      here = under at n name e ∙ ap (λ (b : NodeBody). node_named name (entries_in b)) is

      of_body : (m : ℕ) (b : NodeBody) → (graph m).body ≡ b → node_reached graph 0 (at ++ name ∷ []) ≡ Some m
          → ((entries : List (List ℕ × ℕ)) → node_reached graph 0 (at ++ name ∷ []) ≡ Some m → (graph m).body ≡ directory_node entries → prefix_refusal_from tree (at ++ name ∷ []) (next ∷ names) ≡ walk_refusal graph m (next ∷ names))
          → first_of (when (is_none (node_of bytes_of b)) Enoent ∷ when (is_file (node_of bytes_of b)) Enotdir ∷ prefix_refusal_from tree (at ++ name ∷ []) (next ∷ names) ∷ [])
          ≡ walk_refusal graph m (next ∷ names)
      of_body m unused is-b f deeper = sym (ap (λ (b : NodeBody). within b next names (λ m. walk_refusal graph m names)) is-b)
      of_body m (file_node size pointers) is-b f deeper = sym (ap (λ (b : NodeBody). within b next names (λ m. walk_refusal graph m names)) is-b)
      of_body m (directory_node es) is-b f deeper = one (prefix_refusal_from tree (at ++ name ∷ []) (next ∷ names)) ∙ deeper es f is-b
        where
          one : (o : Option Refusal) → first_of (o ∷ []) ≡ o
          one None = refl
          one (Some r) = refl

      by : (o : Option ℕ) → node_reached graph 0 (at ++ name ∷ []) ≡ o
          → ((m : ℕ) (entries : List (List ℕ × ℕ)) → node_reached graph 0 (at ++ name ∷ []) ≡ Some m → (graph m).body ≡ directory_node entries → prefix_refusal_from tree (at ++ name ∷ []) (next ∷ names) ≡ walk_refusal graph m (next ∷ names))
          → first_of (when (is_none (option_and_then (λ m. node_of bytes_of (graph m).body) o)) Enoent ∷ when (is_file (option_and_then (λ m. node_of bytes_of (graph m).body) o)) Enotdir
          ∷ prefix_refusal_from tree (at ++ name ∷ []) (next ∷ names) ∷ [])
          ≡ onward o (next ∷ names) (λ m. walk_refusal graph m (next ∷ names))
      by None f deeper = refl
      by (Some m) f deeper = of_body m (graph m).body refl f (deeper m)

  -- the root's node is a directory
  root-body : node_at tree [] ≡ Some directory → (b : NodeBody) → (graph 0).body ≡ b → (entries : List (List ℕ × ℕ)) × ((graph 0).body ≡ directory_node entries)
  unfolding node_reached
  root-body root b is = of b is (sym (ap (node_of bytes_of) is) ∙ sym (represents []) ∙ root)
    where
      of : (b : NodeBody) → (graph 0).body ≡ b → node_of bytes_of b ≡ Some directory → (entries : List (List ℕ × ℕ)) × ((graph 0).body ≡ directory_node entries)
      of unused is e = absurd (nothing e)
        where
          nothing : None ≡ Some directory → ⊥
          nothing e = cc
      of (file_node size pointers) is e = absurd (other _ (some_in _ _ e))
        where
          other : (content : FileContent) → file content ≡ directory → ⊥
          other content e = cc
      of (directory_node entries) is e = (entries, is)

  pub walk-is : node_at tree [] ≡ Some directory → (path : List (List ℕ)) → prefix_refusal tree path ≡ walk_refusal graph 0 path
  unfolding node_reached
  walk-is root path = let r = root-body root (graph 0).body refl in walks path [] 0 r.0 refl r.1

  -- a chain that leads to a node is not refused
  none-refused : (names : List (List ℕ)) (n m : ℕ) → node_reached graph n names ≡ Some m → walk_refusal graph n names ≡ None
  unfolding node_reached walk_refusal
  none-refused [] n m e = refl
  none-refused (name ∷ names) n m e = of (graph n).body e (λ k f. none-refused names k m f)
    where
      onto : (o : Option ℕ) → option_and_then (λ k. node_reached graph k names) o ≡ Some m → ((k : ℕ) → node_reached graph k names ≡ Some m → walk_refusal graph k names ≡ None)
          → onward o names (λ k. walk_refusal graph k names) ≡ None
      onto None e rest = absurd (none_some m e)
      onto (Some k) e rest = rest k e

      of : (b : NodeBody) → option_and_then (λ k. node_reached graph k names) (node_named name (entries_in b)) ≡ Some m → ((k : ℕ) → node_reached graph k names ≡ Some m → walk_refusal graph k names ≡ None)
          → within b name names (λ k. walk_refusal graph k names) ≡ None
      of unused e rest = absurd (none_some m e)
      of (file_node size pointers) e rest = absurd (none_some m e)
      of (directory_node entries) e rest = onto (node_named name entries) e rest

  in-tree : node_at tree [] ≡ Some directory → (path : List (List ℕ)) (answer : Look) → Looks graph path answer → IsInTree bytes_of graph tree path answer
  in-tree root path (look.At n) is =
      (walk-is root path ∙ none-refused path 0 n is, represents path ∙ ap (option_and_then (λ m. node_of bytes_of (graph m).body)) is)
  in-tree root path look.Missing is = (walk-is root path ∙ is.1, represents path ∙ ap (option_and_then (λ m. node_of bytes_of (graph m).body)) is.0)
  in-tree root path (look.No refusal) is = walk-is root path ∙ is
  in-tree root path look.Fault is = is
  in-tree root path (look.Lost w f) is = is

pub looks_in_tree : LooksInTree
looks_in_tree bytes_of graph tree path answer represents root is = in-tree bytes_of graph tree represents root path answer is
