-- The charges of a tree are sums over the nodes that stand for it. So those of the tree after a call are known from the nodes that change.
use Rattle.std.specs.Prelude.{◌≡◌, ℕ, ◌+◌, ◌*◌, nat_le, nat_lt, ◌&&◌, List, [], ◌∷◌, length, sum_by, count_by, Some, None}
use Rattle.std.specs.List.{AllByRecursion, list_any, range_with_len}
use Rattle.std.specs.Int.{div_ceil}
use Rattle.nl_field.specs.Graph.{NodeBody, unused, directory_node, file_node, Graph}
use Rattle.nl_tree.specs.Tree.{Node, Tree}
use Rattle.nl_tree.specs.TreeLaws.{IsInOrder}
use Rattle.nl_tree.specs.Charges.{data_charge, node_charge, meta_charge}
use Rattle.nl_tree.specs.Represents.{entries_in, node_named, node_reached, node_of, Represents}
use Rattle.nl_tree.specs.GraphLaws.{NamedOnce}
use Rattle.nl_field.specs.Members.{Has}
use Rattle.nl_tree.specs.CountLaws.{Differ}

-- the numbers are those of the nodes that are reached, each once; each has this path and is this node of the tree
pub record ReachedNodes (bytes_of : ℕ → List ℕ) (graph : Graph) (ns : List ℕ) (path_of : ℕ → List (List ℕ))
    (node_at_number : ℕ → Node) : Type 0 where
  pub each : AllByRecursion
      (λ n. (node_reached graph 0 (path_of n) ≡ Some n) × (node_of bytes_of (graph n).body ≡ Some (node_at_number n))) ns
  pub all : (q : List (List ℕ)) (n : ℕ) → node_reached graph 0 q ≡ Some n → Has ns n
  pub differ : Differ ns

-- no name stands twice
abbrev pub EntryNamesDiffer : List (List ℕ × ℕ) → Type 0
EntryNamesDiffer [] = Unit {0}
EntryNamesDiffer (e ∷ es) = (node_named e.0 es ≡ None) × EntryNamesDiffer es

-- pages of files
abbrev pub pages_in : NodeBody → ℕ
pages_in unused = 0
pages_in (directory_node entries) = 0
pages_in (file_node size pointers) = length pointers

-- pages of entries
abbrev pub entry_pages_in : NodeBody → ℕ
entry_pages_in body = div_ceil (length (entries_in body)) 64

-- pages of pointers
abbrev pub ranges_in : NodeBody → ℕ
ranges_in unused = 0
ranges_in (directory_node entries) = 0
ranges_in (file_node size pointers) =
    count_by (λ r. list_any (λ p. nat_le (8 + 256 * r) p.0 && nat_lt p.0 (264 + 256 * r)) pointers) (range_with_len 0 16)

pub record NodeCharges : Type 0 where
  pub sum_over : (bytes_of : ℕ → List ℕ) (graph : Graph) (tree : Tree) (ns : List ℕ) (path_of : ℕ → List (List ℕ))
      (node_at_number : ℕ → Node)
      (f : List (List ℕ) × Node → ℕ)
      → NamedOnce graph → ReachedNodes bytes_of graph ns path_of node_at_number → IsInOrder tree → Represents bytes_of graph tree
      → sum_by f tree ≡ sum_by (λ n. f (path_of n, node_at_number n)) ns
  pub nodes : (bytes_of : ℕ → List ℕ) (graph : Graph) (tree : Tree) (ns : List ℕ) (path_of : ℕ → List (List ℕ)) (node_at_number : ℕ → Node)
      → NamedOnce graph → ReachedNodes bytes_of graph ns path_of node_at_number → IsInOrder tree → Represents bytes_of graph tree
      → node_charge tree ≡ length ns
  pub pages : (bytes_of : ℕ → List ℕ) (graph : Graph) (tree : Tree) (ns : List ℕ) (path_of : ℕ → List (List ℕ)) (node_at_number : ℕ → Node)
      → NamedOnce graph → ReachedNodes bytes_of graph ns path_of node_at_number → IsInOrder tree → Represents bytes_of graph tree
      → data_charge tree ≡ sum_by (λ n. pages_in (graph n).body) ns
  pub meta : (bytes_of : ℕ → List ℕ) (graph : Graph) (tree : Tree) (ns : List ℕ) (path_of : ℕ → List (List ℕ)) (node_at_number : ℕ → Node)
      → NamedOnce graph → ReachedNodes bytes_of graph ns path_of node_at_number
      → AllByRecursion (λ n. EntryNamesDiffer (entries_in (graph n).body)) ns
      → IsInOrder tree → Represents bytes_of graph tree
      → meta_charge tree ≡ sum_by (λ n. entry_pages_in (graph n).body) ns + sum_by (λ n. ranges_in (graph n).body) ns
