-- A name that is moved, in the nodes of a volume; and what refuses that.
use Rattle.std.specs.Prelude.{◌≡◌, ◌≢◌, ◌⊎◌, ℕ, ◌<◌, ◌%◌, nat_lt, ⊤, Bool, true, false, ◌&&◌, ◌||◌, if◌then◌else◌, List, [], ◌∷◌, length, Option, Some, None, is_none, MatchBool}
use Rattle.nl_field.specs.Graph.{Graph, NodeBody, directory_node, file_node, unused}
use Rattle.nl_field.specs.declared.inode.Kind.{Kind}
use Rattle.nl_field.specs.declared.inode.Kind.TheVariants.{Dir, File, Unused}
use Rattle.nl_tree.specs.GraphChanges.{MovesEntry}
use Rattle.nl_tree.specs.GraphLaws.{entry_at}
use Rattle.nl_tree.specs.Represents.{entries_in, node_reached}
use Rattle.nl_tree.specs.Step.{first_of, is_too_long, when}
use Rattle.nl_tree.specs.Tree.{is_at_or_under, is_root, paths_eq}
use Rattle.nl_tree.specs.declared.reply.Refusal.{Refusal}
use Rattle.nl_tree.specs.declared.reply.Refusal.TheVariants.{Einval, Eisdir, Enametoolong, Enoent, Enospc, Enotdir, Enotempty}
use Rattle.nl_tree.specs.declared.reply.Space.{Space}
use Rattle.nl_tree.specs.declared.reply.Space.TheVariants as space
use Rattle.nl_inode.specs.Free.{NoneFree}
use Rattle.nl_inode.specs.Nodes.{Spaces}
use Rattle.nl_namespace.specs.Entering.{HasFreeAddress}
use Rattle.nl_namespace.specs.Naming.{NameIn, body_at}
use Rattle.nl_namespace.specs.Paths.{walk_refusal}
use Rattle.nl_namespace.specs.declared.answer.Change.{Change}
use Rattle.nl_namespace.specs.declared.answer.Change.TheVariants as change

abbrev pub is_directory_body : NodeBody → Bool
is_directory_body unused = false
is_directory_body (directory_node entries) = true
is_directory_body (file_node size pointers) = false

-- A file takes the place of a file alone, and a directory that of an empty one.
abbrev pub refusal_over : NodeBody → NodeBody → Option Refusal
refusal_over (directory_node entries) (directory_node others) = when (nat_lt 0 (length others)) Enotempty
refusal_over (directory_node entries) (file_node size pointers) = Some Enotdir
refusal_over (directory_node entries) unused = None
refusal_over (file_node size pointers) (directory_node others) = Some Eisdir
refusal_over (file_node size pointers) (file_node other more) = None
refusal_over (file_node size pointers) unused = None
refusal_over unused other = None

-- why a node cannot take the place of another, by the kinds of both and the size of the second
abbrev pub refusal_over_record : Kind → Kind → ℕ → Option Refusal
refusal_over_record Dir Dir size = when (nat_lt 0 size) Enotempty
refusal_over_record Dir File size = Some Enotdir
refusal_over_record Dir Unused size = None
refusal_over_record File Dir size = Some Eisdir
refusal_over_record File File size = None
refusal_over_record File Unused size = None
refusal_over_record Unused kind size = None

-- what refuses that a node that is there gets another path
abbrev pub refusal_of_place : Graph → List (List ℕ) → List (List ℕ) → Option Refusal
refusal_of_place graph from to =
    first_of (when (is_directory_body (body_at graph from) && is_at_or_under from to) Einval ∷ walk_refusal graph 0 to
    ∷ refusal_over (body_at graph from) (body_at graph to) ∷ [])

-- what refuses a rename, before any room is asked for
abbrev pub refusal_of_rename : Graph → List (List ℕ) → List (List ℕ) → Option Refusal
refusal_of_rename graph from to =
    first_of (when (is_too_long from || is_too_long to) Enametoolong ∷ when (is_root from || is_root to) Einval
    ∷ walk_refusal graph 0 from ∷ when (is_none (node_reached graph 0 from)) Enoent
    ∷ (if paths_eq from to then None else refusal_of_place graph from to) ∷ [])

-- The node has the one path in place of the other. What stood there, a file or an empty directory, lost its name.
pub record MovesName (old new : Graph) (from to : List (List ℕ)) (gone : Option ℕ) : Type 0 where
  pub n : ℕ
  pub m : ℕ
  pub l : ℕ
  pub name : List ℕ
  pub name_to : List ℕ
  pub place : NameIn old from n name
  pub place_to : NameIn old to l name_to
  pub apart : is_at_or_under from to ≡ false
  pub stood : gone ≡ entry_at old l name_to
  pub moves : (bytes_of : ℕ → List ℕ) → MovesEntry bytes_of bytes_of old new n m l name name_to

-- Nothing changes where both paths are one.
abbrev pub MovesOrStays : Graph → Graph → List (List ℕ) → List (List ℕ) → Option ℕ → Type 0
MovesOrStays old new from to gone = MatchBool (paths_eq from to) ((gone ≡ None) × (new ≡ old)) (MovesName old new from to gone)

-- A directory of so many entries has no room for one more that comes from another of so many, even once that is out: it has 1024; or else
-- its pages are full, no address is free, and the other gives none up.
abbrev pub CannotTake : Spaces → ℕ → ℕ → Space → Type 0
CannotTake free others count space.Dir = count ≡ 1024
CannotTake free others count space.Nodes = ⊥
CannotTake free others count space.Meta = (count < 1024) × (count % 64 ≡ 0) × (others % 64 ≢ 1) × NoneFree free.pool
CannotTake free others count space.Pages = ⊥

-- Nothing stands at the second path, which is one of another directory, not under the first path, and that has no room.
pub record LacksRoomForMove (free : Spaces) (graph : Graph) (from to : List (List ℕ)) (refusal : Refusal) : Type 0 where
  pub n : ℕ
  pub l : ℕ
  pub name : List ℕ
  pub name_to : List ℕ
  pub place : NameIn graph from n name
  pub place_to : NameIn graph to l name_to
  pub apart : is_at_or_under from to ≡ false
  pub absent : entry_at graph l name_to ≡ None
  pub other : n ≢ l
  pub space : Space
  pub is_space : refusal ≡ Enospc space
  pub full : CannotTake free (length (entries_in (graph n).body)) (length (entries_in (graph l).body)) space

-- There is room for the entry, once the other directory is without it.
abbrev pub CanTake : Spaces → ℕ → ℕ → ℕ → ℕ → Type 0
CanTake free dir others to count = (dir ≡ to) ⊎ ((count < 1024) × (count % 64 ≡ 0 → HasFreeAddress free ⊎ (others % 64 ≡ 1)))

-- Where nothing stands at the second path, its directory has room.
pub record HasRoomForMove (free : Spaces) (graph : Graph) (from to : List (List ℕ)) : Type 0 where
  pub n : ℕ
  pub l : ℕ
  pub name : List ℕ
  pub name_to : List ℕ
  pub place : NameIn graph from n name
  pub place_to : NameIn graph to l name_to
  pub room : entry_at graph l name_to ≡ None → CanTake free n (length (entries_in (graph n).body)) l (length (entries_in (graph l).body))

-- how a rename answers
abbrev pub RenamesName : Spaces → Graph → Graph → List (List ℕ) → List (List ℕ) → Change → Type 0
RenamesName free old new from to (change.Changed gone) =
    (refusal_of_rename old from to ≡ None) × MovesOrStays old new from to gone × (paths_eq from to ≡ false → HasRoomForMove free old from to)
RenamesName free old new from to (change.No refusal) =
    (refusal_of_rename old from to ≡ Some refusal) ⊎ ((refusal_of_rename old from to ≡ None) × LacksRoomForMove free old from to refusal)
RenamesName free old new from to change.Fault = ⊤
RenamesName free old new from to (change.Lost w f) = ⊤

-- Neither path is too long, and the second is not the root.
pub record AreAllowed (from to : List (List ℕ)) : Type 0 where
  pub short : is_too_long from ≡ false
  pub short_to : is_too_long to ≡ false
  pub not_root : to ≢ []

-- ---- room

abbrev pub LacksRoomIn : Spaces → ℕ → ℕ → ℕ → ℕ → Space → Type 0
LacksRoomIn free dir others to count lacked = (dir ≢ to) × CannotTake free others count lacked
