-- What a change of names means for the tree that the nodes stand for.
use Rattle.std.specs.List.{list_any}
use Rattle.std.specs.Prelude.{◌≡◌, ◌⊎◌, ℕ, ⊤, if◌then◌else◌, List, [], ◌∷◌, Some, None, IsSome}
use Rattle.nl_field.specs.Graph.{Graph}
use Rattle.nl_field.specs.declared.inode.Kind.{Kind}
use Rattle.nl_field.specs.declared.inode.Kind.TheVariants.{Dir, File}
use Rattle.nl_inode.specs.Nodes.{Spaces}
use Rattle.nl_tree.specs.GraphLaws.{NamedOnce}
use Rattle.nl_tree.specs.Represents.{node_of, node_reached, Represents}
use Rattle.nl_tree.specs.Step.{first_of, is_too_long, refusal_of_file, refusal_of_new, refusal_of_rename, refusal_of_rmdir, when}
use Rattle.nl_tree.specs.Tree.{Node, Tree, directory, node_at, paths_eq, with_new, with_renamed, without}
use Rattle.nl_tree.specs.declared.reply.Refusal.TheVariants.{Enametoolong}
use Rattle.nl_namespace.specs.Moving.{LacksRoomForMove, RenamesName}
use Rattle.nl_namespace.specs.Naming.{LacksRoom, MakesNode, RemovesName}
use Rattle.nl_namespace.specs.declared.answer.Change.{Change}
use Rattle.nl_namespace.specs.declared.answer.Change.TheVariants as change

-- The nodes stand for a tree whose root is a directory, each is named once, and what is named is used.
pub record GraphRepresents (bytes_of : ℕ → List ℕ) (graph : Graph) (tree : Tree) : Type 0 where
  pub represents : Represents bytes_of graph tree
  pub root : node_at tree [] ≡ Some directory
  pub once : NamedOnce graph
  pub used : (path : List (List ℕ)) (n : ℕ) → node_reached graph 0 path ≡ Some n → IsSome (node_of bytes_of (graph n).body)

-- A node was made as the tree's step makes it, or refused as the tree refuses it, or its directory lacks room.
abbrev pub IsMade : (ℕ → List ℕ) → Spaces → Graph → Graph → Tree → List (List ℕ) → Node → Change → Type 0
IsMade bytes_of free old new tree path node (change.Changed _) =
    (first_of (when (is_too_long path) Enametoolong ∷ refusal_of_new tree path ∷ []) ≡ None)
    × Represents bytes_of new (with_new tree path node)
IsMade bytes_of free old new tree path node (change.No refusal) =
    (first_of (when (is_too_long path) Enametoolong ∷ refusal_of_new tree path ∷ []) ≡ Some refusal)
    ⊎ ((first_of (when (is_too_long path) Enametoolong ∷ refusal_of_new tree path ∷ []) ≡ None) × LacksRoom free old path refusal)
IsMade bytes_of free old new tree path node change.Fault = ⊤
IsMade bytes_of free old new tree path node (change.Lost w f) = ⊤

abbrev pub MakesInTree : Type 0
MakesInTree = (bytes_of : ℕ → List ℕ) (free : Spaces) (old new : Graph) (tree : Tree) (path : List (List ℕ)) (node : Node) (answer : Change)
    → GraphRepresents bytes_of old tree → MakesNode free old new path node answer → IsMade bytes_of free old new tree path node answer

-- A name is gone from the tree where the call was done.
abbrev pub IsRemoved : (ℕ → List ℕ) → Graph → Tree → List (List ℕ) → Change → Type 0
IsRemoved bytes_of new tree path (change.Changed _) = Represents bytes_of new (without tree path)
IsRemoved bytes_of new tree path (change.No refusal) = ⊤
IsRemoved bytes_of new tree path change.Fault = ⊤
IsRemoved bytes_of new tree path (change.Lost w f) = ⊤

abbrev pub RemovesInTree : Type 0
RemovesInTree = (bytes_of : ℕ → List ℕ) (kind : Kind) (old new : Graph) (tree : Tree) (path : List (List ℕ)) (answer : Change)
    → GraphRepresents bytes_of old tree → RemovesName kind old new path answer → IsRemoved bytes_of new tree path answer

-- A file loses its name where the tree does not refuse it, and else the refusal is the tree's.
abbrev pub IsUnlinked : Tree → List (List ℕ) → Change → Type 0
IsUnlinked tree path (change.Changed _) = first_of (when (is_too_long path) Enametoolong ∷ refusal_of_file tree path ∷ []) ≡ None
IsUnlinked tree path (change.No refusal) = first_of (when (is_too_long path) Enametoolong ∷ refusal_of_file tree path ∷ []) ≡ Some refusal
IsUnlinked tree path change.Fault = ⊤
IsUnlinked tree path (change.Lost w f) = ⊤

abbrev pub UnlinksInTree : Type 0
UnlinksInTree = (bytes_of : ℕ → List ℕ) (old new : Graph) (tree : Tree) (path : List (List ℕ)) (answer : Change)
    → GraphRepresents bytes_of old tree → RemovesName File old new path answer → IsUnlinked tree path answer

-- A directory loses its name where the tree does not refuse it, and else the refusal is the tree's.
abbrev pub IsRmdirOf : Tree → List (List ℕ) → Change → Type 0
IsRmdirOf tree path (change.Changed _) = first_of (when (is_too_long path) Enametoolong ∷ refusal_of_rmdir tree path ∷ []) ≡ None
IsRmdirOf tree path (change.No refusal) = first_of (when (is_too_long path) Enametoolong ∷ refusal_of_rmdir tree path ∷ []) ≡ Some refusal
IsRmdirOf tree path change.Fault = ⊤
IsRmdirOf tree path (change.Lost w f) = ⊤

abbrev pub RmdirsInTree : Type 0
RmdirsInTree = (bytes_of : ℕ → List ℕ) (old new : Graph) (tree : Tree) (path : List (List ℕ)) (answer : Change)
    → GraphRepresents bytes_of old tree → RemovesName Dir old new path answer → IsRmdirOf tree path answer

-- What was under the one path is under the other, or nothing changed where both are one; or the refusal is the tree's, or the directory
-- lacks room.
abbrev pub IsRenamed : (ℕ → List ℕ) → Spaces → Graph → Graph → Tree → List (List ℕ) → List (List ℕ) → Change → Type 0
IsRenamed bytes_of free old new tree from to (change.Changed _) =
    (first_of (when (list_any is_too_long (from ∷ to ∷ [])) Enametoolong ∷ refusal_of_rename tree from to ∷ []) ≡ None)
    × Represents bytes_of new (if paths_eq from to then tree else with_renamed tree from to)
IsRenamed bytes_of free old new tree from to (change.No refusal) =
    (first_of (when (list_any is_too_long (from ∷ to ∷ [])) Enametoolong ∷ refusal_of_rename tree from to ∷ []) ≡ Some refusal)
    ⊎ ((first_of (when (list_any is_too_long (from ∷ to ∷ [])) Enametoolong ∷ refusal_of_rename tree from to ∷ []) ≡ None)
    × LacksRoomForMove free old from to refusal)
IsRenamed bytes_of free old new tree from to change.Fault = ⊤
IsRenamed bytes_of free old new tree from to (change.Lost w f) = ⊤

abbrev pub RenamesInTree : Type 0
RenamesInTree = (bytes_of : ℕ → List ℕ) (free : Spaces) (old new : Graph) (tree : Tree) (from to : List (List ℕ)) (answer : Change)
    → GraphRepresents bytes_of old tree → RenamesName free old new from to answer → IsRenamed bytes_of free old new tree from to answer
