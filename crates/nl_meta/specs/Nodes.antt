-- What metadata pages stand for: the super record, the nodes, and the pointers of files.
use Rattle.std.specs.Prelude.{ℕ, nat_le, nat_lt, Bool, ◌&&◌, ◌||◌, ◌+◌, ◌-◌, ◌*◌, ◌/◌, ◌%◌, ◌==◌, not, if◌then◌else◌, List, [], ◌++◌, take, drop, replicate, map, filter, filter_map, flat_map, slice_index, slice_index_or, find, bytes_eq, Option, Some, None, option_and_then, unwrap_or}
use Rattle.std.specs.List.{range_with_len, enumerate_from}
use Rattle.nl_field.specs.Page.{Image}
use Rattle.nl_field.specs.Medium.{shape_of_image, first_physical}
use Rattle.nl_field.specs.SuperPage.{super_of}
use Rattle.nl_field.specs.Inode.{inode_of}
use Rattle.nl_field.specs.EntryRecord.{entry_of}
use Rattle.nl_field.specs.Pointers.{pointers, pointer_fields, is_none_pointer, no_pointer}
use Rattle.nl_field.specs.Graph.{NodeBody, unused, directory_node, file_node, GraphNode, Graph}
use Rattle.nl_field.specs.declared.shape.Shape.{Shape}
use Rattle.nl_field.specs.declared.pointer.Pointer.{Pointer}
use Rattle.nl_field.specs.declared.pointer.Tag.{Tag}
use Rattle.nl_field.specs.declared.super_page.SuperRec.{SuperRec}
use Rattle.nl_field.specs.declared.inode.Kind.{Kind}
use Rattle.nl_field.specs.declared.inode.Kind.TheVariants.{Unused, File, Dir}
use Rattle.nl_field.specs.declared.inode.InodeRec.{InodeRec}
use Rattle.nl_field.specs.declared.entry.EntryRec.{EntryRec}
use Rattle.nl_meta.specs.Committed.{VirtualMap, committed_of}

abbrev pub bytes_at : VirtualMap → ℕ → List ℕ
bytes_at pages v = unwrap_or (pages v) []

-- the record that address 0 spells
unfoldable pub super_of_pages : VirtualMap → Option SuperRec
super_of_pages pages = option_and_then super_of (pages 0)

-- ---- slots: the bytes of a page in rows of one width

-- the bytes of the i-th slot
abbrev pub slot_in : ℕ → ℕ → List ℕ → List ℕ
slot_in width i bytes = take width (drop (width * i) bytes)

-- the i-th slot of an address
abbrev pub slot_at : VirtualMap → ℕ → ℕ → ℕ → List ℕ
slot_at pages width v i = slot_in width i (bytes_at pages v)

-- ---- nodes: 16 to a page, node n in address 67 + n / 16

unfoldable pub bytes_of_node : VirtualMap → ℕ → List ℕ
bytes_of_node pages n = slot_at pages 256 (67 + n / 16) (n % 16)

unfoldable pub inode_at : VirtualMap → ℕ → Option InodeRec
inode_at pages n = inode_of (bytes_of_node pages n)

-- where a node's record may have addresses of other pages, in order: 0 is none
abbrev pub slots_of : InodeRec → List ℕ
slots_of rec = rec.addresses

-- ---- entries: 64 to a page

-- the address of the i-th place of a directory
abbrev pub address_of_place : InodeRec → ℕ → ℕ
address_of_place rec i = slice_index (slots_of rec) (i / 64)

-- the 64 bytes of the i-th place of a directory
unfoldable pub bytes_of_place : VirtualMap → InodeRec → ℕ → List ℕ
bytes_of_place pages rec i = slot_at pages 64 (address_of_place rec i) (i % 64)

unfoldable pub entries_of_inode : VirtualMap → InodeRec → List EntryRec
entries_of_inode pages rec = filter_map (λ i. entry_of (bytes_of_place pages rec i)) (range_with_len 0 rec.size)

-- the entry of that name
unfoldable pub entry_named : VirtualMap → InodeRec → List ℕ → Option EntryRec
entry_named pages rec name = find (λ e. bytes_eq e.name name) (entries_of_inode pages rec)

-- ---- pointers: 8 in the node, and 256 to a page

-- the 256 pointers of an address, none of them where it is 0
abbrev pub pointers_at : VirtualMap → ℕ → List Pointer
pointers_at pages v = if v == 0 then replicate 256 no_pointer else pointers 256 (bytes_at pages v)

-- the i-th pointer of an address, none where that is 0
abbrev pub pointer_in_page : VirtualMap → ℕ → ℕ → Pointer
pointer_in_page pages v i = if v == 0 then no_pointer else pointer_fields (slot_at pages 16 v i)

-- the pointer of a file at a page index, none where the page is not there
unfoldable pub pointer_at : VirtualMap → InodeRec → ℕ → Pointer
pointer_at pages rec i =
    if nat_lt i 8 then slice_index_or rec.direct i no_pointer
    else pointer_in_page pages (slice_index (slots_of rec) ((i - 8) / 256)) ((i - 8) % 256)

-- the pointers of a file by page index: 8 in the node, and 256 for each of its addresses
unfoldable pub pointers_of_inode : VirtualMap → InodeRec → List (ℕ × Pointer)
pointers_of_inode pages rec =
    filter (λ p. not (is_none_pointer p.1)) (enumerate_from 0 (rec.direct ++ flat_map (pointers_at pages) (slots_of rec)))

abbrev pub body_of : VirtualMap → InodeRec → Kind → NodeBody
body_of pages rec Unused = unused
body_of pages rec Dir = directory_node (map (λ e. (e.name, e.ino)) (entries_of_inode pages rec))
body_of pages rec File = file_node rec.size (pointers_of_inode pages rec)

abbrev pub node_from : VirtualMap → Option InodeRec → GraphNode
node_from pages None = record { generation = 0; body = unused }
node_from pages (Some rec) = record { generation = rec.generation; body = body_of pages rec rec.kind }

-- the nodes below the count of the volume
unfoldable pub graph_of : Shape → VirtualMap → Graph
graph_of shape pages n = node_from pages (if nat_lt n shape.nodes then inode_at pages n else None)

abbrev pub pointers_in : NodeBody → List (ℕ × Pointer)
pointers_in unused = []
pointers_in (directory_node entries) = []
pointers_in (file_node size pointers) = pointers

-- a pointer of a file, with the size of the file and the tag that the page has
pub record Held : Type 0 where
  pub size : ℕ
  pub tag : Tag
  pub pointer : Pointer

abbrev pub size_of : NodeBody → ℕ
size_of unused = 0
size_of (directory_node entries) = 0
size_of (file_node size pointers) = size

abbrev pub held_by : ℕ → GraphNode → List Held
held_by n node =
    map (λ p. record { size = size_of node.body; tag = record { ino = n; generation = node.generation; index = p.0 }; pointer = p.1 }) (pointers_in node.body)

-- all pointers of files, in the order of nodes and indexes
unfoldable pub pointers_of : Shape → Graph → List Held
pointers_of shape graph = flat_map (λ n. held_by n (graph n)) (range_with_len 0 shape.nodes)

-- the pointer is none, or names a page of the physical segment
abbrev pub is_physical_name : Shape → Pointer → Bool
is_physical_name shape p = is_none_pointer p || (nat_le (first_physical shape) p.name && nat_lt p.name (shape.blocks * shape.pages))

-- the pointers of all files of a map of pages, in the order of nodes and indexes
abbrev pub held_in : Shape → VirtualMap → List Held
held_in shape pages = pointers_of shape (graph_of shape pages)

-- the committed pointers of an image, in the order of nodes and indexes
abbrev pub committed_pointers : Image → List Held
committed_pointers image = held_in (shape_of_image image) (committed_of image)
