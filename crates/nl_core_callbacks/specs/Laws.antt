-- What it means for the tree that only names of pages change.
use Rattle.std.specs.Prelude.{ℕ, List}
use Rattle.nl_field.specs.Graph.{Graph}
use Rattle.nl_tree.specs.Represents.{Represents}
use Rattle.nl_tree.specs.Tree.{Tree}
use Rattle.nl_core_callbacks.specs.Handled.{SameButNames}

-- The nodes stand for the same tree, since the bytes of a page are known by its sequence number.
abbrev pub TreesStay : Type 0
TreesStay =
    (bytes_of : ℕ → List ℕ) (old new : Graph) (tree : Tree) → SameButNames old new → Represents bytes_of old tree
    → Represents bytes_of new tree
