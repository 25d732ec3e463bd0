-- A file is put: it is written under a name of its own in the directory of its path, and then renamed over the path. What that makes of a
-- plain tree of files, and what refuses it.
use Rattle.std.specs.Prelude.{◌≡◌, ◌≢◌, ◌⊎◌, ℕ, ◌<◌, Bool, false, List, [], ◌∷◌, ◌++◌, length, slice_index, is_some, Option, Some, None, IsTrue, codes}
use Rattle.std.specs.List.{list_any}
use Rattle.nl_field.specs.FileContent.{FileContent, byte_of, is_content}
use Rattle.nl_field.specs.Numbers.{max_file_size}
use Rattle.nl_field.specs.declared.shape.Shape.{Shape}
use Rattle.nl_tree.specs.Causes.{fault_in}
use Rattle.nl_tree.specs.Replay.{ReplyFits, step_marked}
use Rattle.nl_tree.specs.Step.{is_too_long, prefix_refusal, space_refusal, step}
use Rattle.nl_tree.specs.Tree.{IsTree, Node, Tree, file, is_root, node_at}
use Rattle.nl_tree.specs.TreeLaws.{IsInOrder}
use Rattle.nl_tree.specs.declared.call.Call.{Call}
use Rattle.nl_tree.specs.declared.call.Call.TheVariants.{Create, Rename, Write}
use Rattle.nl_tree.specs.declared.reply.Refusal.{Refusal}
use Rattle.nl_tree.specs.declared.reply.Refusal.TheVariants.{Efbig, Eisdir}
use Rattle.nl_tree.specs.declared.reply.Reply.{Reply}
use Rattle.nl_tree.specs.declared.reply.Reply.TheVariants.{No}

abbrev pub Path : Type 0
Path = List (List ℕ)

-- ---- what a file holds

-- A file of exactly these bytes.
pub record IsContentOf (content : FileContent) (bytes : List ℕ) : Type 0 where
  pub whole : IsTrue (is_content content)
  pub size : content.size ≡ length bytes
  pub each : (i : ℕ) → i < length bytes → byte_of content i ≡ slice_index bytes i

-- What is at a path is a file of exactly these bytes.
pub record HoldsBytes (node : Option Node) (bytes : List ℕ) : Type 0 where
  pub content : FileContent
  pub is_file : node ≡ Some (file content)
  pub holds : IsContentOf content bytes

-- ---- the name of its own

-- A path beside this one: in the same directory, of another name, which begins with `.put-`.
pub record IsBeside (path own : Path) : Type 0 where
  pub above : Path
  pub last : List ℕ
  pub name : List ℕ
  pub path_is : path ≡ above ++ last ∷ []
  pub own_is : own ≡ above ++ name ∷ []
  pub other : name ≢ last
  pub mark : List ℕ
  pub begins : name ≡ codes ".put-" ++ mark

-- A new file can have this path: nothing has it, it is not too long, and its directory is there.
pub record CanBeNamed (tree : Tree) (own : Path) : Type 0 where
  pub none : node_at tree own ≡ None
  pub short : list_any is_too_long (own ∷ []) ≡ false
  pub not_root : is_root own ≡ false
  pub leads : prefix_refusal tree own ≡ None

-- ---- the trees of a put

-- The tree has the file of its own beside what the first tree has, with the bytes that were written so far.
pub record IsWriting (tree : Tree) (own : Path) (bytes : List ℕ) (now : Tree) : Type 0 where
  pub in_order : IsInOrder now
  pub named : CanBeNamed tree own
  pub holds : HoldsBytes (node_at now own) bytes
  pub others : (q : Path) → q ≢ own → node_at now q ≡ node_at tree q

-- The file was put: the path holds exactly the bytes, and every other path has what it had.
pub record IsPut (tree : Tree) (path : Path) (bytes : List ℕ) (now : Tree) : Type 0 where
  pub holds : HoldsBytes (node_at now path) bytes
  pub others : (q : Path) → q ≢ path → node_at now q ≡ node_at tree q

-- The put is under way, or done, or was taken back: the path has what it had or the whole file, and every other path but the one of its own
-- has what it had.
pub record IsUnderWay (tree : Tree) (own path : Path) (bytes : List ℕ) (now : Tree) : Type 0 where
  pub at_path : (node_at now path ≡ node_at tree path) ⊎ HoldsBytes (node_at now path) bytes
  pub others : (q : Path) → q ≢ own → q ≢ path → node_at now q ≡ node_at tree q

-- ---- refusals

-- The tree is one, and a volume of this shape has room for it.
pub record FitsVolume (shape : Shape) (tree : Tree) : Type 0 where
  pub is_tree : IsTree tree
  pub room : space_refusal shape tree ≡ None

-- What refuses to put a file on this tree: it is too long, or its path is the root; the tree refuses the file of its own, or its next
-- bytes; or that it is renamed.
pub data Refuses (shape : Shape) (tree : Tree) (own path : Path) (bytes : List ℕ) (refusal : Refusal) : Type 0 where
  too_long : max_file_size < length bytes → refusal ≡ Efbig → Refuses shape tree own path bytes refusal
  root : path ≡ [] → refusal ≡ Eisdir → Refuses shape tree own path bytes refusal
  no_name : (step shape tree (Create own)).reply ≡ No refusal → Refuses shape tree own path bytes refusal
  no_room : (written more left : List ℕ) (now : Tree) → bytes ≡ written ++ (more ++ left) → IsWriting tree own written now
      → (step shape now (Write own (length written) more)).reply ≡ No refusal → Refuses shape tree own path bytes refusal
  not_renamed : (now : Tree) → IsWriting tree own bytes now → (step shape now (Rename own path)).reply ≡ No refusal
      → Refuses shape tree own path bytes refusal

-- ---- answers

-- The reply is the one due to the call on the tree, or a fault reply.
abbrev pub IsDue : Shape → Tree → Call → Reply → Type 0
IsDue shape tree call reply = ReplyFits (step_marked shape tree (call, fault_in reply)).reply reply

-- the tree after a call with this reply
abbrev pub after : Shape → Tree → Call → Reply → Tree
after shape tree call reply = (step_marked shape tree (call, fault_in reply)).tree

abbrev pub is_fault : Reply → Bool
is_fault reply = is_some (fault_in reply)
