-- Where the pointers of a file stand: those of the indexes 0 to 7 in the record of its node, and those of the 256 indexes from
-- 8 + 256 * r on in the page of the record's r-th address.
use Rattle.std.specs.Prelude.{◌≡◌, ◌≢◌, ℕ, ◌-◌, ◌/◌, ◌%◌, ◌<◌, nat_lt, false, if◌then◌else◌, List, slice_index, Option, Some, None, IsSome, IsTrue}
use Rattle.nl_field.specs.Inode.{is_inode}
use Rattle.nl_field.specs.Pointers.{indirect_of, is_none_pointer, pointer_fields}
use Rattle.nl_field.specs.declared.inode.InodeRec.{InodeRec}
use Rattle.nl_field.specs.declared.inode.Kind.TheVariants.{File}
use Rattle.nl_field.specs.declared.pointer.Pointer.{Pointer}
use Rattle.nl_meta.specs.Committed.{VirtualMap}
use Rattle.nl_meta.specs.Nodes.{slot_in, slots_of}

-- the range of an index from 8 on, and its slot in the range's page
abbrev pub range_of : ℕ → ℕ
range_of index = (index - 8) / 256

abbrev pub slot_of : ℕ → ℕ
slot_of index = (index - 8) % 256

-- the address of the page that has the pointer of an index: 0 where the node has it, or the range has no page
abbrev pub address_of : InodeRec → ℕ → ℕ
address_of rec index = if nat_lt index 8 then 0 else slice_index (slots_of rec) (range_of index)

-- the pointer in a slot of a page
abbrev pub pointer_in : List ℕ → ℕ → Pointer
pointer_in bytes i = pointer_fields (slot_in 16 i bytes)

-- the pointer, where it is one
abbrev pub some_pointer : Pointer → Option Pointer
some_pointer p = if is_none_pointer p then None else Some p

-- The address has a page, which spells pointers. So at least one of them is not none.
pub record HasPointers (pages : VirtualMap) (a : ℕ) : Type 0 where
  pub bytes : List ℕ
  pub there : pages a ≡ Some bytes
  pub spelled : IsSome (indirect_of bytes)

-- Where the range of an index has an address, that has such a page.
abbrev pub HasRange : VirtualMap → InodeRec → ℕ → Type 0
HasRange pages rec index = address_of rec index ≢ 0 → HasPointers pages (address_of rec index)

-- The record is a file's, it has a spelling, and no address stands in it twice.
pub record IsFileRecord (rec : InodeRec) : Type 0 where
  pub kind : rec.kind ≡ File
  pub spelled : IsTrue (is_inode rec)
  pub differ : (r s : ℕ) → slice_index (slots_of rec) r ≢ 0 → slice_index (slots_of rec) s ≡ slice_index (slots_of rec) r → s ≡ r

-- a slot of the page other than this one has a pointer
pub record HasOther (bytes : List ℕ) (slot : ℕ) : Type 0 where
  pub at : ℕ
  pub below : at < 256
  pub other : at ≢ slot
  pub some : is_none_pointer (pointer_in bytes at) ≡ false
