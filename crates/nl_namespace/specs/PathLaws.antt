-- What the tree has, for which the nodes stand, where a path was looked up.
use Rattle.std.specs.Prelude.{◌≡◌, ℕ, ⊤, List, [], ◌∷◌, ◌++◌, map, Some, None, IsSome}
use Rattle.nl_field.specs.Graph.{Graph, directory_node}
use Rattle.nl_field.specs.Members.{Has}
use Rattle.nl_field.specs.declared.entry.EntryRec.{EntryRec}
use Rattle.nl_tree.specs.Represents.{node_of, node_reached, Represents}
use Rattle.nl_tree.specs.Step.{prefix_refusal}
use Rattle.nl_tree.specs.Tree.{Tree, directory, node_at}
use Rattle.nl_namespace.specs.Listing.{IsListing}
use Rattle.nl_namespace.specs.Paths.{Looks}
use Rattle.nl_namespace.specs.declared.answer.Look.{Look}
use Rattle.nl_namespace.specs.declared.answer.Look.TheVariants as look

-- The tree answers the same: the node at the path, which has none, or the refusal of its walk.
abbrev pub IsInTree : (ℕ → List ℕ) → Graph → Tree → List (List ℕ) → Look → Type 0
IsInTree bytes_of graph tree path (look.At n) = (prefix_refusal tree path ≡ None) × (node_at tree path ≡ node_of bytes_of (graph n).body)
IsInTree bytes_of graph tree path look.Missing = (prefix_refusal tree path ≡ None) × (node_at tree path ≡ None)
IsInTree bytes_of graph tree path (look.No refusal) = prefix_refusal tree path ≡ Some refusal
IsInTree bytes_of graph tree path look.Fault = ⊤
IsInTree bytes_of graph tree path (look.Lost w f) = ⊤

abbrev pub LooksInTree : Type 0
LooksInTree = (bytes_of : ℕ → List ℕ) (graph : Graph) (tree : Tree) (path : List (List ℕ)) (answer : Look)
    → Represents bytes_of graph tree → node_at tree [] ≡ Some directory → Looks graph path answer → IsInTree bytes_of graph tree path answer

-- Each entry that is listed stands in the tree under the directory's path as what it names, and each name that stands there is listed.
pub record ListsUnder (bytes_of : ℕ → List ℕ) (graph : Graph) (tree : Tree) (path : List (List ℕ)) (listed : List EntryRec) : Type 0 where
  pub there : (e : EntryRec) → Has listed e → node_at tree (path ++ e.name ∷ []) ≡ node_of bytes_of (graph e.ino).body
  pub all : (name : List ℕ) → IsSome (node_at tree (path ++ name ∷ [])) → (e : EntryRec) × Has listed e × (e.name ≡ name)

-- for a directory whose names differ
abbrev pub ListsInTree : Type 0
ListsInTree =
    (bytes_of : ℕ → List ℕ) (graph : Graph) (tree : Tree) (path : List (List ℕ)) (n : ℕ) (entries : List EntryRec) (count : ℕ)
    (text : List ℕ)
    → Represents bytes_of graph tree → node_reached graph 0 path ≡ Some n
    → (graph n).body ≡ directory_node (map (λ e. (e.name, e.ino)) entries)
    → ((e f : EntryRec) → Has entries e → Has entries f → e.name ≡ f.name → e ≡ f)
    → (lists : IsListing graph entries count text) → ListsUnder bytes_of graph tree path lists.listed
