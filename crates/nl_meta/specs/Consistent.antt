-- When a volume is consistent, in words that know no walk: what its pages have to say, who names whom, and that there is room. An image
-- is consistent as the volume of its own pages.
use Rattle.std.specs.Prelude.{◌≡◌, ◌≢◌, ℕ, ◌+◌, ◌-◌, ◌*◌, ◌≤◌, ◌<◌, true, List, length, drop, map, count_by, slice_get, Option, Some, None, option_map, option_and_then, IsTrue, IsSome}
use Rattle.std.specs.Int.{div_ceil}
use Rattle.nl_field.specs.Numbers.{is_legal, shape_for}
use Rattle.nl_field.specs.Page.{Image}
use Rattle.nl_field.specs.Bytes.{all_zero}
use Rattle.nl_field.specs.Members.{Has}
use Rattle.nl_field.specs.SpareRecord.{spare_bytes}
use Rattle.nl_field.specs.Pointers.{indirect_of}
use Rattle.nl_field.specs.EntryRecord.{entry_of}
use Rattle.nl_field.specs.Medium.{Readable, stamp_on, shape_of_image, found}
use Rattle.nl_field.specs.Scan.{without_wear}
use Rattle.nl_field.specs.ScanList.{seen_in, virtual_seen, physical_seen, is_lost_seen, owns_seen, virtual_spare_seen, physical_spare_seen}
use Rattle.nl_field.specs.declared.shape.Shape.{Shape}
use Rattle.nl_field.specs.declared.seen.Seen.{Seen}
use Rattle.nl_field.specs.declared.pointer.Pointer.{Pointer}
use Rattle.nl_field.specs.declared.pointer.Tag.{Tag}
use Rattle.nl_field.specs.declared.spare.SpareRec.{SpareRec}
use Rattle.nl_field.specs.declared.spare.SpareRec.TheVariants.{Virtual, Physical}
use Rattle.nl_field.specs.declared.super_page.SuperRec.{SuperRec}
use Rattle.nl_field.specs.declared.inode.Kind.{Kind}
use Rattle.nl_field.specs.declared.inode.Kind.TheVariants.{Unused, File, Dir}
use Rattle.nl_field.specs.declared.inode.InodeRec.{InodeRec}
use Rattle.nl_field.specs.declared.entry.EntryRec.{EntryRec}
use Rattle.nl_meta.specs.Committed.{VirtualMap, committed_of}
use Rattle.nl_meta.specs.Nodes.{super_of_pages, inode_at, bytes_of_node, bytes_of_place, slots_of, is_physical_name, Held, held_in, committed_pointers}

-- ---- the super page

-- Address 0 spells the volume's own legal numbers.
pub record NumbersRight (shape : Shape) (pages : VirtualMap) (rec : SuperRec) : Type 0 where
  pub spelled : super_of_pages pages ≡ Some rec
  pub same_blocks : rec.blocks ≡ shape.blocks
  pub same_pages : rec.pages ≡ shape.pages
  pub legal : IsTrue (is_legal shape.blocks shape.pages)

-- ---- sequence numbers

-- Each page of the list agrees with the lower ones of its segment.
abbrev pub AllAgree : List Seen → Type 0
AllAgree seen = (s : Seen) → Has seen s → s.agrees ≡ true

-- two pages have the same main bytes, and apart from wear the same record
pub record SamePage (r q : Readable) : Type 0 where
  pub main : r.main ≡ q.main
  pub rec : spare_bytes (without_wear r.rec) ≡ spare_bytes (without_wear q.rec)

-- Pages of one stamp are the same.
abbrev pub StampsRight : List Readable → Type 0
StampsRight pages = (r q : Readable) → Has pages r → Has pages q → stamp_on r ≡ stamp_on q → SamePage r q

-- ---- nodes

-- Node n is used, a file or a directory, and has this record.
pub record IsNode (shape : Shape) (pages : VirtualMap) (n : ℕ) (rec : InodeRec) : Type 0 where
  pub below : n < shape.nodes
  pub spelled : inode_at pages n ≡ Some rec
  pub used : rec.kind ≢ Unused

-- each pointer is none, or names a page of the physical segment
abbrev pub NamesPhysical : Shape → List Pointer → Type 0
NamesPhysical shape ps = (p : Pointer) → Has ps p → IsTrue (is_physical_name shape p)

pub record NodesRight (shape : Shape) (pages : VirtualMap) : Type 0 where
  -- each node's record is spelled
  pub spelled : (n : ℕ) → n < shape.nodes → (rec : InodeRec) × (inode_at pages n ≡ Some rec) × NamesPhysical shape rec.direct
  -- the places behind the last node are zero
  pub rest : (n : ℕ) → shape.nodes ≤ n → n < 16 * shape.inode_pages → IsTrue (all_zero (bytes_of_node pages n))
  -- node 0 is a directory
  pub root : (rec : InodeRec) → inode_at pages 0 ≡ Some rec → rec.kind ≡ Dir

-- ---- addresses

-- An address lies in the pool and has a committed page, which spells pointers where a file has the address.
pub record GoodAddress (shape : Shape) (pages : VirtualMap) (kind : Kind) (a : ℕ) : Type 0 where
  pub from_pool : 67 + shape.inode_pages ≤ a
  pub in_pool : a < shape.vaddrs
  pub bytes : List ℕ
  pub committed : pages a ≡ Some bytes
  pub spelled : kind ≡ File → (ps : List Pointer) × (indirect_of bytes ≡ Some ps) × NamesPhysical shape ps

-- a used node has this address, which is not 0, in this slot
pub record AddressAt (shape : Shape) (pages : VirtualMap) (n slot a : ℕ) : Type 0 where
  pub rec : InodeRec
  pub is_node : IsNode shape pages n rec
  pub in_slot : slice_get (slots_of rec) slot ≡ Some a
  pub not_zero : a ≢ 0

pub record AddressesRight (shape : Shape) (pages : VirtualMap) : Type 0 where
  pub good : (n slot a : ℕ) (at : AddressAt shape pages n slot a) → GoodAddress shape pages at.rec.kind a
  -- no address stands in two slots
  pub one_use : (n slot m slot' a : ℕ) → AddressAt shape pages n slot a → AddressAt shape pages m slot' a → (n ≡ m) × (slot ≡ slot')

-- ---- entries

-- directory d has this entry at place i
pub record EntryAt (shape : Shape) (pages : VirtualMap) (d i : ℕ) (e : EntryRec) : Type 0 where
  pub rec : InodeRec
  pub is_node : IsNode shape pages d rec
  pub is_dir : rec.kind ≡ Dir
  pub below : i < rec.size
  pub spelled : entry_of (bytes_of_place pages rec i) ≡ Some e

-- An entry names a used node but 0, under the node's generation.
pub record GoodEntry (shape : Shape) (pages : VirtualMap) (e : EntryRec) : Type 0 where
  pub no_root : e.ino ≢ 0
  pub target : InodeRec
  pub is_node : IsNode shape pages e.ino target
  pub generation : target.generation ≡ e.generation

-- a chain of entries leads from node 0 to the node
pub data Reached (shape : Shape) (pages : VirtualMap) : ℕ → Type 0 where
  at_root : Reached shape pages 0
  by_entry : (d i : ℕ) (e : EntryRec) → EntryAt shape pages d i e → Reached shape pages d → Reached shape pages e.ino

pub record EntriesRight (shape : Shape) (pages : VirtualMap) : Type 0 where
  -- each place below the size of a directory has an entry, which names a used node but 0 under its generation
  pub spelled : (d : ℕ) (rec : InodeRec) (i : ℕ) → IsNode shape pages d rec → rec.kind ≡ Dir → i < rec.size
      → (e : EntryRec) × EntryAt shape pages d i e × GoodEntry shape pages e
  -- the places behind them are zero
  pub rest : (d : ℕ) (rec : InodeRec) (i : ℕ) → IsNode shape pages d rec → rec.kind ≡ Dir → rec.size ≤ i → i < 64 * div_ceil rec.size 64
      → IsTrue (all_zero (bytes_of_place pages rec i))
  -- names within a directory differ
  pub names_differ : (d i i' : ℕ) (e e' : EntryRec) → EntryAt shape pages d i e → EntryAt shape pages d i' e' → e.name ≡ e'.name → i ≡ i'
  -- each used node but 0 is named by an entry, under its generation
  pub named : (n : ℕ) (rec : InodeRec) → IsNode shape pages n rec → n ≢ 0
      → (d : ℕ) × (i : ℕ) × (e : EntryRec) × EntryAt shape pages d i e × (e.ino ≡ n) × (e.generation ≡ rec.generation)
  -- no used node is named by two entries
  pub one_name : (d i d' i' : ℕ) (e e' : EntryRec) → EntryAt shape pages d i e → EntryAt shape pages d' i' e' → e.ino ≡ e'.ino
      → (d ≡ d') × (i ≡ i')
  -- each used node is reached from node 0
  pub reached : (n : ℕ) (rec : InodeRec) → IsNode shape pages n rec → Reached shape pages n

-- ---- pointers

-- two pointers are the pointer of one node at one index
abbrev pub OnePointer : Held → Held → Type 0
OnePointer h k = (h.tag.ino ≡ k.tag.ino) × (h.tag.index ≡ k.tag.index)

-- Each pointer of a file is below the pages of its size, and has its page, in a sense that the second argument gives.
pub record PointersRight (held : List Held) (HasPage : Held → Type 0) : Type 0 where
  pub below : (h : Held) → Has held h → h.tag.index < div_ceil h.size 4096
  pub there : (h : Held) → Has held h → HasPage h
  -- no two pointers share a stamp
  pub stamps_differ : (h k : Held) → Has held h → Has held k → h.pointer.stamp ≡ k.pointer.stamp → OnePointer h k
  -- no two pointers share a name
  pub names_differ : (h k : Held) → Has held h → Has held k → h.pointer.name ≡ k.pointer.name → OnePointer h k

-- the page is one of that stamp with the tag of node, generation and index
pub record IsPageOf (h : Held) (rec : SpareRec) : Type 0 where
  pub wear : ℕ
  pub record_on : rec ≡ Physical h.tag h.pointer.stamp wear

-- Among these pages one has the pointer's stamp and tag, and each one that has is zero from the file's size on.
pub record IsListed (physicals : List Seen) (h : Held) : Type 0 where
  pub page : Seen
  pub listed : Has physicals page
  pub is_page : IsPageOf h page.rec
  pub behind : (s : Seen) → Has physicals s → IsPageOf h s.rec → s.zeros ≤ h.size - 4096 * h.tag.index

-- ---- metadata

-- The pages are metadata of a tree: nodes, addresses, entries and pointers are right, and each pointer has its page.
pub record TreePages (shape : Shape) (pages : VirtualMap) (HasPage : Held → Type 0) : Type 0 where
  pub nodes : NodesRight shape pages
  pub addresses : AddressesRight shape pages
  pub entries : EntriesRight shape pages
  pub pointers : PointersRight (held_in shape pages) HasPage

-- what the page of a stamp holds: its tag and its bytes
pub record PageOfStamp : Type 0 where
  pub tag : Tag
  pub bytes : List ℕ

-- The page of the pointer's stamp has its tag, and is zero from the file's size on.
pub record PointerIsThere (page_of_stamp : ℕ → Option PageOfStamp) (h : Held) : Type 0 where
  pub bytes : List ℕ
  pub holds : page_of_stamp h.pointer.stamp ≡ Some (record { tag = h.tag; bytes = bytes })
  pub whole : length bytes ≡ 4096
  pub behind : IsTrue (all_zero (drop (h.size - 4096 * h.tag.index) bytes))

-- Pages are metadata of a tree, with the pages of files to which stamps lead, and no medium: so a running volume has them, or a frozen
-- transaction.
pub record RightFor (shape : Shape) (pages : VirtualMap) (page_of_stamp : ℕ → Option PageOfStamp) : Type 0 where
  pub legal : IsTrue (is_legal shape.blocks shape.pages)
  pub numbers : shape ≡ shape_for shape.blocks shape.pages
  pub tree : TreePages shape pages (PointerIsThere page_of_stamp)

-- The committed pages, beside what a scan lists, are metadata of a tree, and pages of one stamp agree.
pub record MetadataListed (shape : Shape) (pages : VirtualMap) (seen : List Seen) : Type 0 where
  pub super_rec : SuperRec
  pub numbers : NumbersRight shape pages super_rec
  pub virtual_stamps : AllAgree (virtual_seen shape seen)
  pub physical_stamps : AllAgree (physical_seen shape seen)
  pub tree : TreePages shape pages (IsListed (physical_seen shape seen))

-- ---- the whole

-- The page that a pointer names has its stamp, or is no readable physical page: no other took it.
abbrev pub OwnNamesListed : Shape → List Seen → List Held → Type 0
OwnNamesListed shape seen held = (h : Held) → Has held h → IsTrue (owns_seen shape seen h.pointer)

-- Each segment has a spare block, and at most 3 pointers for each page of a block are lost.
pub record RoomListed (shape : Shape) (seen : List Seen) (held : List Held) : Type 0 where
  pub virtual_room : IsSome (virtual_spare_seen shape seen)
  pub physical_room : IsSome (physical_spare_seen shape seen (map (λ h. h.pointer.stamp) held))
  pub few_lost : count_by (λ h. is_lost_seen shape seen h.pointer) held ≤ 3 * shape.pages

-- A volume of these numbers with these committed pages and this list of readable pages is consistent.
pub record ConsistentOver (shape : Shape) (pages : VirtualMap) (seen : List Seen) : Type 0 where
  pub metadata : MetadataListed shape pages seen
  pub own_names : OwnNamesListed shape seen (held_in shape pages)
  pub data_fits : length (held_in shape pages) ≤ shape.cap
  pub room : RoomListed shape seen (held_in shape pages)

-- ---- an image, with its own pages and list

abbrev pub MetadataRight : Image → Type 0
MetadataRight image = MetadataListed (shape_of_image image) (committed_of image) (seen_in image)

abbrev pub OwnNames : Image → Type 0
OwnNames image = OwnNamesListed (shape_of_image image) (seen_in image) (committed_pointers image)

abbrev pub ImageHasRoom : Image → Type 0
ImageHasRoom image = RoomListed (shape_of_image image) (seen_in image) (committed_pointers image)

abbrev pub Consistent : Image → Type 0
Consistent image = ConsistentOver (shape_of_image image) (committed_of image) (seen_in image)

-- what the readable physical page of a stamp holds, the least where there are several
-- the tag of a file's page
abbrev pub tag_on : SpareRec → Option Tag
tag_on (Virtual vaddr stamp wear) = None
tag_on (Physical tag stamp wear) = Some tag

abbrev pub of_file : Readable → Option PageOfStamp
of_file r = option_map (λ tag. record { tag = tag; bytes = r.main }) (tag_on r.rec)

unfoldable pub page_on : Image → ℕ → Option PageOfStamp
page_on image stamp = option_and_then of_file (found image stamp)
