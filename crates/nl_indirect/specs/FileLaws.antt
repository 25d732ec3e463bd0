-- What it means for a volume that a pointer is stored.
use Rattle.std.specs.Prelude.{◌≡◌, ◌≢◌, ℕ, ◌+◌, ◌/◌, ◌%◌, ◌≤◌, ◌<◌, false, slice_index, Option, Some, IfSome, IsSome, IsTrue}
use Rattle.nl_field.specs.Numbers.{ShapeBounds}
use Rattle.nl_field.specs.Pointers.{is_none_pointer}
use Rattle.nl_field.specs.Spelling.{is_stamp}
use Rattle.nl_field.specs.declared.inode.InodeRec.{InodeRec}
use Rattle.nl_field.specs.declared.inode.Kind.{Kind}
use Rattle.nl_field.specs.declared.inode.Kind.TheVariants.{File}
use Rattle.nl_field.specs.declared.pointer.Pointer.{Pointer}
use Rattle.nl_field.specs.declared.shape.Shape.{Shape}
use Rattle.nl_meta.specs.Committed.{VirtualMap}
use Rattle.nl_meta.specs.Consistent.{AddressAt, AddressesRight, GoodAddress, IsNode}
use Rattle.nl_meta.specs.Nodes.{body_of, inode_at, is_physical_name, pointer_at, slots_of}
use Rattle.nl_meta.specs.Pages.{Pages, page_of}
use Rattle.nl_meta.specs.PointerLists.{ChangesPointer}
use Rattle.nl_meta.specs.Running.{CleanIsStored, running_over}
use Rattle.nl_meta.specs.SlotLaws.{ChangesSlot}
use Rattle.nl_indirect.specs.Ranges.{HasPointers, IsFileRecord, range_of, some_pointer}
use Rattle.nl_indirect.specs.Storing.{DiffersInPage, Stores, or_none}
use Rattle.nl_indirect.specs.declared.answer.Stored.{Stored}
use Rattle.nl_indirect.specs.declared.answer.Stored.TheVariants.{Done, Emptied}

-- Where one page differs, each node of another page has the same record, and each file and directory that has no such address the same
-- pointers and entries.
pub record PageLaws (a : ℕ) (old new : VirtualMap) : Type 0 where
  pub node : (n : ℕ) → 67 + n / 16 ≢ a → inode_at new n ≡ inode_at old n
  pub body : (rec : InodeRec) → ((r : ℕ) → slice_index (slots_of rec) r ≡ a → slice_index (slots_of rec) r ≡ 0) → (kind : Kind)
      → body_of new rec kind ≡ body_of old rec kind

abbrev pub OtherNodes : Type 0
OtherNodes = (a : ℕ) (old new : VirtualMap) → DiffersInPage a old new → PageLaws a old new

-- A call of `store` on a volume of these numbers over this device: the pointer names a page of the physical segment, and a new page is one
-- of the pool.
pub record StoresOver (shape : Shape) (device : VirtualMap) (index : ℕ) (to : Option Pointer) (fresh : Option ℕ) (was is : InodeRec)
    (old new : Pages) (answer : Stored) : Type 0 where
  pub clean : CleanIsStored device old
  pub spelled : IfSome to (λ p. IsTrue (is_stamp p.stamp))
  pub physical : IsTrue (is_physical_name shape (or_none to))
  pub pool : IfSome fresh (λ a. (67 + shape.inode_pages ≤ a) × (a < shape.vaddrs))
  pub stores : Stores index (or_none to) fresh was is old new answer

-- each address of the file is one of the pool, with a page that spells pointers to the physical segment
abbrev pub AddressesGood : Shape → VirtualMap → InodeRec → Type 0
AddressesGood shape pages rec = (r : ℕ) → slice_index (slots_of rec) r ≢ 0 → GoodAddress shape pages File (slice_index (slots_of rec) r)

-- the range of the index has a pointer
pub record HoldsPointer (pages : VirtualMap) (rec : InodeRec) (index : ℕ) : Type 0 where
  pub at : ℕ
  pub high : 8 ≤ at
  pub same : range_of at ≡ range_of index
  pub some : is_none_pointer (pointer_at pages rec at) ≡ false

-- A page is told as given back exactly where the range lost its last pointer.
pub record GivesBackRange (index : ℕ) (was is : InodeRec) (old new : VirtualMap) (answer : Stored) : Type 0 where
  pub emptied : (a : ℕ) → answer ≡ Emptied a → HoldsPointer old was index × (HoldsPointer new is index → ⊥)
  pub done : answer ≡ Done → HoldsPointer old was index → HoldsPointer new is index

-- What was stored is found, the addresses of the file stay good, and a page without pointers is given back.
pub record FileLaws (shape : Shape) (device : VirtualMap) (index : ℕ) (to : Option Pointer) (was is : InodeRec) (old new : Pages)
    (answer : Stored) : Type 0 where
  pub found : some_pointer (pointer_at (running_over device new) is index) ≡ to
  pub good : AddressesGood shape (running_over device old) was → AddressesGood shape (running_over device new) is
  pub given_back : 8 ≤ index → AddressesGood shape (running_over device old) was
      → GivesBackRange index was is (running_over device old) (running_over device new) answer

abbrev pub StoredFile : Type 0
StoredFile =
    (shape : Shape) (device : VirtualMap) (index : ℕ) (to : Option Pointer) (fresh : Option ℕ) (was is : InodeRec) (old new : Pages)
    (answer : Stored)
    → StoresOver shape device index to fresh was is old new answer → FileLaws shape device index to was is old new answer

-- A file of a volume whose addresses are right has such a record and such addresses; and an address that no slot of its node has is none of
-- the record's.
pub record NodeLaws (shape : Shape) (pages : VirtualMap) (n : ℕ) (rec : InodeRec) : Type 0 where
  pub file : IsFileRecord rec
  pub good : AddressesGood shape pages rec
  pub unused : (a : ℕ) → a ≢ 0 → ((slot : ℕ) → AddressAt shape pages n slot a → ⊥) → (r : ℕ) → slice_index (slots_of rec) r ≢ a

abbrev pub FileOfNode : Type 0
FileOfNode =
    (shape : Shape) (pages : VirtualMap) (n : ℕ) (rec : InodeRec) → AddressesRight shape pages → IsNode shape pages n rec → rec.kind ≡ File
    → NodeLaws shape pages n rec

-- A good address whose page is resident can be looked at.
abbrev pub ResidentPointers : Type 0
ResidentPointers =
    (shape : Shape) (device : VirtualMap) (p : Pages) (a : ℕ) → GoodAddress shape (running_over device p) File a → IsSome (page_of p a)
    → HasPointers (page_of p) a

-- A call of `store` for node n of a volume whose addresses are right, where a new page is one that no node has. Afterwards the node has
-- the record that the call left, and every other node the bytes that it had.
pub record StoresAt (shape : Shape) (device : VirtualMap) (n index : ℕ) (to : Option Pointer) (fresh : Option ℕ) (was is : InodeRec)
    (old new : Pages) (answer : Stored) (after : VirtualMap) : Type 0 where
  pub bounds : ShapeBounds shape
  pub right : AddressesRight shape (running_over device old)
  pub is_node : IsNode shape (running_over device old) n was
  pub is_file : was.kind ≡ File
  pub within : index < 4104
  pub over : StoresOver shape device index to fresh was is old new answer
  pub unused : IfSome fresh (λ a. (m slot : ℕ) → AddressAt shape (running_over device old) m slot a → ⊥)
  pub node : inode_at after n ≡ Some is
  pub others : ChangesSlot 256 (67 + n / 16) (n % 16) (running_over device new) after

-- One pointer of one file changed, and no other node.
abbrev pub OnePointerStored : Type 0
OnePointerStored =
    (shape : Shape) (device : VirtualMap) (n index : ℕ) (to : Option Pointer) (fresh : Option ℕ) (was is : InodeRec) (old new : Pages)
    (answer : Stored) (after : VirtualMap)
    → StoresAt shape device n index to fresh was is old new answer after
    → ChangesPointer shape (running_over device old) after n index was is
