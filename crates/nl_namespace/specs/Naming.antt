-- Names that are added, removed and moved, in the nodes of a volume; and what refuses that.
use Rattle.std.specs.Prelude.{◌≡◌, ◌⊎◌, ℕ, ◌<◌, ◌%◌, nat_lt, ⊤, List, [], ◌∷◌, ◌++◌, length, Option, Some, None, is_none, is_some}
use Rattle.std.specs.Option.{option_map_or}
use Rattle.nl_field.specs.Graph.{Graph, NodeBody, directory_node, file_node, unused}
use Rattle.nl_field.specs.declared.inode.Kind.{Kind}
use Rattle.nl_field.specs.declared.inode.Kind.TheVariants.{Dir, File, Unused}
use Rattle.nl_tree.specs.GraphChanges.{RemovesEntry}
use Rattle.nl_tree.specs.GraphLaws.{AddsEntry}
use Rattle.nl_tree.specs.Represents.{entries_in, node_reached}
use Rattle.nl_tree.specs.Step.{first_of, is_too_long, when}
use Rattle.nl_tree.specs.Tree.{Node, is_root}
use Rattle.nl_tree.specs.declared.reply.Refusal.{Refusal}
use Rattle.nl_tree.specs.declared.reply.Refusal.TheVariants.{Eexist, Einval, Eisdir, Enametoolong, Enoent, Enospc, Enotdir, Enotempty}
use Rattle.nl_tree.specs.declared.reply.Space.{Space}
use Rattle.nl_tree.specs.declared.reply.Space.TheVariants as space
use Rattle.nl_inode.specs.Free.{IsLeastFreeNumber, NoneFree}
use Rattle.nl_inode.specs.Nodes.{Spaces}
use Rattle.nl_namespace.specs.Making.{HasRoomForNode}
use Rattle.nl_namespace.specs.Paths.{walk_refusal}
use Rattle.nl_namespace.specs.declared.answer.Change.{Change}
use Rattle.nl_namespace.specs.declared.answer.Change.TheVariants as change

-- The path has this last name, and the names before it lead to node n.
pub record NameIn (graph : Graph) (path : List (List ℕ)) (n : ℕ) (name : List ℕ) : Type 0 where
  pub parent : List (List ℕ)
  pub split : path ≡ parent ++ name ∷ []
  pub leads : node_reached graph 0 parent ≡ Some n

-- ---- a new name

-- The path names node m, which had no name, and is this node of the tree, whatever bytes the pages of files have.
pub record MakesName (old new : Graph) (path : List (List ℕ)) (m : ℕ) (node : Node) : Type 0 where
  pub n : ℕ
  pub name : List ℕ
  pub place : NameIn old path n name
  pub adds : (bytes_of : ℕ → List ℕ) → AddsEntry bytes_of bytes_of old new n m name node

-- what refuses a new name, before any room is asked for
abbrev pub refusal_of_name : Graph → List (List ℕ) → Option Refusal
refusal_of_name graph path =
    first_of (when (is_too_long path) Enametoolong ∷ when (is_root path) Eexist ∷ walk_refusal graph 0 path
    ∷ when (is_some (node_reached graph 0 path)) Eexist ∷ [])

-- A directory of so many entries has no room for a new node under one more name: it has 1024; or else no node is free; or else its pages
-- are full, and no address is free.
abbrev pub IsFull : Spaces → ℕ → Space → Type 0
IsFull free count space.Dir = count ≡ 1024
IsFull free count space.Nodes = (count < 1024) × NoneFree free.nodes
IsFull free count space.Meta = (count < 1024) × ((m : ℕ) × IsLeastFreeNumber m free.nodes) × (count % 64 ≡ 0) × NoneFree free.pool
IsFull free count space.Pages = ⊥

pub record LacksRoom (free : Spaces) (graph : Graph) (path : List (List ℕ)) (refusal : Refusal) : Type 0 where
  pub n : ℕ
  pub name : List ℕ
  pub place : NameIn graph path n name
  pub space : Space
  pub is_space : refusal ≡ Enospc space
  pub full : IsFull free (length (entries_in (graph n).body)) space

-- Node m has the least free number, and the directory of the last name has room for it under that name.
pub record HasRoomForName (free : Spaces) (graph : Graph) (path : List (List ℕ)) (m : ℕ) : Type 0 where
  pub n : ℕ
  pub name : List ℕ
  pub place : NameIn graph path n name
  pub spare : HasRoomForNode free (length (entries_in (graph n).body)) m

-- how a call answers that makes a node under a path
abbrev pub MakesNode : Spaces → Graph → Graph → List (List ℕ) → Node → Change → Type 0
MakesNode free old new path node (change.Changed gone) =
    (refusal_of_name old path ≡ None) × (gone ≡ None) × ((m : ℕ) × MakesName old new path m node × HasRoomForName free old path m)
MakesNode free old new path node (change.No refusal) =
    (refusal_of_name old path ≡ Some refusal) ⊎ ((refusal_of_name old path ≡ None) × LacksRoom free old path refusal)
MakesNode free old new path node change.Fault = ⊤
MakesNode free old new path node (change.Lost w f) = ⊤

-- ---- a name less

-- The path named node m, a file or an empty directory, and names nothing now.
pub record LosesName (old new : Graph) (path : List (List ℕ)) (m : ℕ) : Type 0 where
  pub n : ℕ
  pub name : List ℕ
  pub place : NameIn old path n name
  pub removes : (bytes_of : ℕ → List ℕ) → RemovesEntry bytes_of bytes_of old new n m name

-- what the path leads to
abbrev pub body_at : Graph → List (List ℕ) → NodeBody
body_at graph path = option_map_or (λ n. (graph n).body) (node_reached graph 0 path) unused

abbrev pub root_refusal : Kind → Refusal
root_refusal Dir = Einval
root_refusal File = Eisdir
root_refusal Unused = Eisdir

-- a node that shall lose its name is of the kind, and empty where it is a directory
abbrev pub refusal_of_kind : Kind → NodeBody → Option Refusal
refusal_of_kind Dir (directory_node entries) = when (nat_lt 0 (length entries)) Enotempty
refusal_of_kind Dir (file_node size pointers) = Some Enotdir
refusal_of_kind Dir unused = Some Enotdir
refusal_of_kind File (directory_node entries) = Some Eisdir
refusal_of_kind File (file_node size pointers) = None
refusal_of_kind File unused = None
refusal_of_kind Unused (directory_node entries) = Some Eisdir
refusal_of_kind Unused (file_node size pointers) = None
refusal_of_kind Unused unused = None

-- why a node cannot lose its name, by the kind in its record and its size
abbrev pub refusal_of_record : Kind → Kind → ℕ → Option Refusal
refusal_of_record Dir Dir size = when (nat_lt 0 size) Enotempty
refusal_of_record Dir File size = Some Enotdir
refusal_of_record Dir Unused size = Some Enotdir
refusal_of_record File Dir size = Some Eisdir
refusal_of_record File File size = None
refusal_of_record File Unused size = None
refusal_of_record Unused Dir size = Some Eisdir
refusal_of_record Unused File size = None
refusal_of_record Unused Unused size = None

-- what refuses that a file, or an empty directory, loses its name
abbrev pub refusal_of_removal : Kind → Graph → List (List ℕ) → Option Refusal
refusal_of_removal kind graph path =
    first_of (when (is_too_long path) Enametoolong ∷ when (is_root path) (root_refusal kind) ∷ walk_refusal graph 0 path
    ∷ when (is_none (node_reached graph 0 path)) Enoent
    ∷ refusal_of_kind kind (body_at graph path) ∷ [])

-- how a call answers that takes the name from a file, or from an empty directory
abbrev pub RemovesName : Kind → Graph → Graph → List (List ℕ) → Change → Type 0
RemovesName kind old new path (change.Changed gone) =
    (refusal_of_removal kind old path ≡ None) × ((m : ℕ) × (gone ≡ Some m) × LosesName old new path m)
RemovesName kind old new path (change.No refusal) = refusal_of_removal kind old path ≡ Some refusal
RemovesName kind old new path change.Fault = ⊤
RemovesName kind old new path (change.Lost w f) = ⊤
