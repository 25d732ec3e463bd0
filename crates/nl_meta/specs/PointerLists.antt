-- The pointers of all files as those that hold live pages, each with the tag that its page has; and how the list changes where one pointer
-- of one file changes.
use Rattle.std.specs.Prelude.{◌≡◌, ◌≢◌, ℕ, ◌<◌, if◌then◌else◌, List, [], ◌∷◌, ◌++◌, length, map, Some}
use Rattle.nl_field.specs.Graph.{GraphNode}
use Rattle.nl_field.specs.Pointers.{is_none_pointer}
use Rattle.nl_field.specs.declared.shape.Shape.{Shape}
use Rattle.nl_field.specs.declared.pointer.Pointer.{Pointer}
use Rattle.nl_field.specs.declared.pointer.Tag.{Tag}
use Rattle.nl_field.specs.declared.inode.InodeRec.{InodeRec}
use Rattle.nl_field.specs.declared.inode.Kind.TheVariants.{File}
use Rattle.nl_meta.specs.Committed.{VirtualMap}
use Rattle.nl_meta.specs.Nodes.{graph_of, Held, held_by, held_in, inode_at, pointer_at, slots_of}

abbrev pub with_tag : Held → Tag × Pointer
with_tag h = (h.tag, h.pointer)

-- the pointers of one node
abbrev pub tagged_by : ℕ → GraphNode → List (Tag × Pointer)
tagged_by n node = map with_tag (held_by n node)

-- the pointers of all files, in the order of nodes and indexes
abbrev pub tagged_in : Shape → VirtualMap → List (Tag × Pointer)
tagged_in shape pages = map with_tag (held_in shape pages)

-- the pointer with its tag, nothing where it is none
abbrev pub shown : Tag → Pointer → List (Tag × Pointer)
shown tag p = if is_none_pointer p then [] else (tag, p) ∷ []

-- In one place the list has the second pointer in place of the first. So it gained one where the first is none, lost one where the second
-- is, and renamed one where both have one write sequence number.
pub record OneChanges (tag : Tag) (p q : Pointer) (old new : List (Tag × Pointer)) : Type 0 where
  pub front : List (Tag × Pointer)
  pub behind : List (Tag × Pointer)
  pub was : old ≡ front ++ shown tag p ++ behind
  pub is : new ≡ front ++ shown tag q ++ behind

-- node n is a file and has this record
pub record IsFile (shape : Shape) (pages : VirtualMap) (n : ℕ) (rec : InodeRec) : Type 0 where
  pub below : n < shape.nodes
  pub spelled : inode_at pages n ≡ Some rec
  pub kind : rec.kind ≡ File
  pub direct : length rec.direct ≡ 8
  pub slots : length (slots_of rec) ≡ 16

-- Of two maps of pages, a file has the same pointers but at one index, and every other node has the same.
pub record ChangesPointer (shape : Shape) (old new : VirtualMap) (n index : ℕ) (was is : InodeRec) : Type 0 where
  pub file_before : IsFile shape old n was
  pub file_after : IsFile shape new n is
  pub generation : is.generation ≡ was.generation
  pub within : index < 4104
  pub others : (i : ℕ) → i ≢ index → pointer_at new is i ≡ pointer_at old was i
  pub other_nodes : (k : ℕ) → k ≢ n → tagged_by k (graph_of shape new k) ≡ tagged_by k (graph_of shape old k)

abbrev pub OnePointerChanges : Type 0
OnePointerChanges =
    (shape : Shape) (old new : VirtualMap) (n index : ℕ) (was is : InodeRec) → ChangesPointer shape old new n index was is
    → OneChanges (record { ino = n; generation = was.generation; index = index }) (pointer_at old was index) (pointer_at new is index)
    (tagged_in shape old) (tagged_in shape new)
