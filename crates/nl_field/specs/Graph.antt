-- The nodes of a volume by number, as its metadata has them.
use Rattle.std.specs.Prelude.{ℕ, List}
use Rattle.nl_field.specs.declared.pointer.Pointer.{Pointer}

-- what a node is: nothing, a directory with its names and their node numbers, or a file with its size and its pointers by page index
pub data NodeBody : Type 0 where
  unused : NodeBody
  directory_node : List (List ℕ × ℕ) → NodeBody
  file_node : ℕ → List (ℕ × Pointer) → NodeBody

pub record GraphNode : Type 0 where
  pub generation : ℕ
  pub body : NodeBody

-- a node for each number
abbrev pub Graph : Type 0
Graph = ℕ → GraphNode
