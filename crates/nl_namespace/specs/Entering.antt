-- One entry more in a directory, or less, with the record written back and the address of its last page taken or given.
use Rattle.std.specs.Prelude.{◌≡◌, ◌≢◌, ℕ, ◌+◌, ◌%◌, ◌≤◌, ◌<◌, true, false, List, length, Option, Some, None, IsSome}
use Rattle.nl_field.specs.declared.entry.EntryRec.{EntryRec}
use Rattle.nl_field.specs.declared.inode.InodeRec.{InodeRec}
use Rattle.nl_meta.specs.Nodes.{address_of_place, entry_named, inode_at}
use Rattle.nl_meta.specs.Pages.{Pages, page_of}
use Rattle.nl_dir.specs.Changes.{InsertsEntry, RemovesDirectoryEntry}
use Rattle.nl_dir.specs.Directory.{FitsFresh, HasRoomForDirty, IsDirectory, longer, shorter}
use Rattle.nl_inode.specs.Nodes.{AddressBecomes, IsLeastAddress, PutsNode, Spaces, is_free_address, page_of_node}

-- Node n is a directory in memory, with this record, and so many pages may become dirty.
pub record HasDirectory (n : ℕ) (rec : InodeRec) (room : ℕ) (p : Pages) : Type 0 where
  pub node_there : IsSome (page_of p (page_of_node n))
  pub spelled : inode_at (page_of p) n ≡ Some rec
  pub directory : IsDirectory (page_of p) rec
  pub has_room : HasRoomForDirty room p

-- A free address is no page of the directory, and one for a page.
pub record FreeAreNewToDirectory (rec : InodeRec) (p : Pages) (free : Spaces) : Type 0 where
  pub each : (a : ℕ) → is_free_address free a ≡ true → (a ≢ 0) × (a < length p.running)
  pub unused : (a i : ℕ) → is_free_address free a ≡ true → i < rec.size → address_of_place rec i ≢ a

-- An entry fits behind those of a directory.
pub record FitsBehind (n : ℕ) (entry : EntryRec) (p : Pages) (free : Spaces) : Type 0 where
  pub rec : InodeRec
  pub has : HasDirectory n rec 2 p
  pub few : rec.size < 1024
  pub absent : entry_named (page_of p) rec entry.name ≡ None
  pub address : rec.size % 64 ≡ 0 → (a : ℕ) × (is_free_address free a ≡ true)
  pub new : FreeAreNewToDirectory rec p free

-- The least free address is taken, or none.
abbrev pub TakesAddress : Option ℕ → Spaces → Spaces → Type 0
TakesAddress None s t = t ≡ s
TakesAddress (Some a) s t = IsLeastAddress a s × AddressBecomes a false s t

abbrev pub ReturnsAddress : Option ℕ → Spaces → Spaces → Type 0
ReturnsAddress None s t = t ≡ s
ReturnsAddress (Some a) s t = AddressBecomes a true s t

-- The entry stands in the directory, whose record says so.
pub record PutsIn (n : ℕ) (entry : EntryRec) (old new : Pages) (s t : Spaces) : Type 0 where
  pub rec : InodeRec
  pub has : HasDirectory n rec 2 old
  pub fresh : Option ℕ
  pub fits : FitsFresh old rec fresh
  pub few : rec.size < 1024
  pub takes : TakesAddress fresh s t
  pub between : Pages
  pub inserts : InsertsEntry entry fresh rec (longer rec fresh) old between
  pub puts : PutsNode n (longer rec fresh) between new

-- The directory has an entry of the name, and its addresses are of the pool.
pub record HasNamed (n : ℕ) (name : List ℕ) (p : Pages) (free : Spaces) : Type 0 where
  pub rec : InodeRec
  pub has : HasDirectory n rec 3 p
  pub there : IsSome (entry_named (page_of p) rec name)
  pub of_pool : (i : ℕ) → i < rec.size → (free.first ≤ address_of_place rec i) × (address_of_place rec i < free.first + length free.pool)

-- The entry of the name is gone from the directory, whose record says so.
pub record TakesOut (n : ℕ) (name : List ℕ) (old new : Pages) (s t : Spaces) : Type 0 where
  pub rec : InodeRec
  pub has : HasDirectory n rec 3 old
  pub there : IsSome (entry_named (page_of old) rec name)
  pub given : Option ℕ
  pub gives : ReturnsAddress given s t
  pub between : Pages
  pub removes : RemovesDirectoryEntry name given rec (shorter rec) old between
  pub puts : PutsNode n (shorter rec) between new

abbrev pub HasFreeAddress : Spaces → Type 0
HasFreeAddress free = (a : ℕ) × (is_free_address free a ≡ true)
