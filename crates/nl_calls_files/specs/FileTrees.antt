-- What a change of one file means for the tree for which metadata stands.
use Rattle.std.specs.Prelude.{◌≡◌, ◌≢◌, ℕ, ◌<◌, ◌≤◌, false, List, map, Option, Some}
use Rattle.std.specs.Int.{div_ceil}
use Rattle.nl_field.specs.FileContent.{FileContent}
use Rattle.nl_field.specs.Pointers.{is_none_pointer}
use Rattle.nl_field.specs.declared.inode.InodeRec.{InodeRec}
use Rattle.nl_field.specs.declared.pointer.Pointer.{Pointer}
use Rattle.nl_field.specs.declared.pointer.Tag.{Tag}
use Rattle.nl_field.specs.declared.shape.Shape.{Shape}
use Rattle.nl_tree.specs.Represents.{node_reached}
use Rattle.nl_tree.specs.Tree.{Tree, with_content}
use Rattle.nl_meta.specs.Committed.{VirtualMap}
use Rattle.nl_iface.specs.Holders.{IsRef, always, tagged, times, wants_tagged}
use Rattle.nl_iface.specs.Names.{Has, Names}
use Rattle.nl_meta.specs.Consistent.{AddressesRight, EntriesRight, PointerIsThere, NodesRight, PageOfStamp, RightFor}
use Rattle.nl_meta.specs.Nodes.{Held, graph_of, pointer_at, pointers_of_inode}
use Rattle.nl_meta.specs.PointerLists.{IsFile, tagged_in}
use Rattle.nl_spec_image.specs.RightFor.{PagesRepresent}
use Rattle.nl_spec_image.specs.Stands.{bytes_for}

-- what a file holds: the pages of its pointers, by what the page of each write sequence number holds
abbrev pub held_content : (ℕ → Option PageOfStamp) → VirtualMap → InodeRec → FileContent
held_content page_of_stamp pages rec =
    record { size = rec.size; pages = map (λ p. (p.0, bytes_for page_of_stamp p.1.stamp)) (pointers_of_inode pages rec) }

-- Of two maps of pages, both of them right, a node is a file and has this record in the second, and every other node has what it had. The
-- path leads to the node.
pub record FileChanges (shape : Shape) (old new : VirtualMap) (page_of_stamp : ℕ → Option PageOfStamp) (n : ℕ) (was is : InodeRec) (path : List (List ℕ)) : Type 0 where
  pub right_before : RightFor shape old page_of_stamp
  pub right_after : RightFor shape new page_of_stamp
  pub file_before : IsFile shape old n was
  pub file_after : IsFile shape new n is
  pub others : (k : ℕ) → k ≢ n → graph_of shape new k ≡ graph_of shape old k
  pub leads : node_reached (graph_of shape old) 0 path ≡ Some n

-- A file that changes so has what it holds now under its path in the tree, and all else of the tree stays.
abbrev pub FileChangesTree : Type 0
FileChangesTree =
    (shape : Shape) (old new : VirtualMap) (page_of_stamp : ℕ → Option PageOfStamp) (n : ℕ) (was is : InodeRec) (path : List (List ℕ))
    (tree : Tree)
    → FileChanges shape old new page_of_stamp n was is path → PagesRepresent shape old page_of_stamp tree
    → PagesRepresent shape new page_of_stamp (with_content tree path (held_content page_of_stamp new is))

-- ---- when the pages are right that the file has now

-- Each of these pointers leads to the live page of its tag and its write sequence number, and no two have one number.
pub record LeadOnce (names : Names) (pointers : List (Tag × Pointer)) : Type 0 where
  pub leads : (x : Tag × Pointer) → Has pointers x → IsRef names always (wants_tagged x) x.1.name
  pub once : (stamp : ℕ) → times tagged stamp pointers ≤ 1

-- the pointer of a file at an index, as one that holds a page
abbrev pub held_pointer : ℕ → VirtualMap → InodeRec → ℕ → Held
held_pointer n pages rec i =
    record { size = rec.size; tag = record { ino = n; generation = rec.generation; index = i }; pointer = pointer_at pages rec i }

-- Each pointer of the file is below the pages of its size, and has its page.
pub record FileHasPages (pages : VirtualMap) (page_of_stamp : ℕ → Option PageOfStamp) (n : ℕ) (rec : InodeRec) : Type 0 where
  pub below : (i : ℕ) → is_none_pointer (pointer_at pages rec i) ≡ false → i < div_ceil rec.size 4096
  pub there : (i : ℕ) → is_none_pointer (pointer_at pages rec i) ≡ false → PointerIsThere page_of_stamp (held_pointer n pages rec i)

-- Of two maps of pages the first is right, and in the second nodes, addresses and entries are. There a node is a file that has its pages,
-- every other node has what it had, and the pointers of all files lead once.
pub record FileIsOf (shape : Shape) (old new : VirtualMap) (page_of_stamp : ℕ → Option PageOfStamp) (names : Names) (n : ℕ) (is : InodeRec) : Type 0 where
  pub right_before : RightFor shape old page_of_stamp
  pub nodes : NodesRight shape new
  pub addresses : AddressesRight shape new
  pub entries : EntriesRight shape new
  pub file : IsFile shape new n is
  pub others : (k : ℕ) → k ≢ n → graph_of shape new k ≡ graph_of shape old k
  pub lead : LeadOnce names (tagged_in shape new)
  pub pages : FileHasPages new page_of_stamp n is

-- Of two such maps the second is right too.
abbrev pub FileStaysRight : Type 0
FileStaysRight =
    (shape : Shape) (old new : VirtualMap) (page_of_stamp : ℕ → Option PageOfStamp) (names : Names) (n : ℕ) (is : InodeRec)
    → FileIsOf shape old new page_of_stamp names n is → RightFor shape new page_of_stamp
