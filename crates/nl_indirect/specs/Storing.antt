-- What it means that a pointer is stored at an index of a file.
use Rattle.std.specs.Prelude.{◌≡◌, ◌≢◌, ℕ, ◌+◌, ◌≤◌, ◌<◌, true, List, [], length, slice_index, Option, Some, None, IsSome, unwrap_or}
use Rattle.nl_field.specs.Bytes.{zeros}
use Rattle.nl_field.specs.Pointers.{no_pointer, pointer_bytes}
use Rattle.nl_field.specs.declared.inode.InodeRec.{InodeRec}
use Rattle.nl_field.specs.declared.pointer.Pointer.{Pointer}
use Rattle.nl_meta.specs.Committed.{VirtualMap}
use Rattle.nl_meta.specs.Nodes.{pointer_at, slots_of}
use Rattle.nl_meta.specs.Pages.{Pages, besides_0, has_room, page_of, with_address}
use Rattle.nl_meta.specs.Running.{CleanIsStored, running_over}
use Rattle.nl_meta.specs.SlotLaws.{with_slot}
use Rattle.nl_meta.specs.Steps.{KeepsOtherPages, with_dirty}
use Rattle.nl_indirect.specs.Ranges.{HasRange, IsFileRecord, address_of, range_of, slot_of}
use Rattle.nl_indirect.specs.declared.answer.Stored.{Stored}
use Rattle.nl_indirect.specs.declared.answer.Stored.TheVariants.{Done, Emptied}

-- the pointer that is stored, none where none is
abbrev pub or_none : Option Pointer → Pointer
or_none to = unwrap_or to no_pointer

-- The range of the index gets its first pointer.
pub record BeginsRange (rec : InodeRec) (index : ℕ) (to : Option Pointer) : Type 0 where
  pub in_range : 8 ≤ index
  pub no_page : address_of rec index ≡ 0
  pub pointer : IsSome to

-- The page of this address may become a new page of the file.
pub record IsForNew (p : Pages) (rec : InodeRec) (a : ℕ) : Type 0 where
  pub not_zero : a ≢ 0
  pub inside : a < length p.running
  pub unused : (r : ℕ) → slice_index (slots_of rec) r ≢ a
  pub room : has_room p a ≡ true

-- At most the page of this address differs, and none where it is 0.
abbrev pub DiffersInPage : ℕ → VirtualMap → VirtualMap → Type 0
DiffersInPage a old new = (v : ℕ) → (v ≡ a → v ≡ 0) → new v ≡ old v

-- One index of a file has this pointer, and each other one the pointer that it had. Of the pages at most the one of the index changes.
pub record StoresPointer (index : ℕ) (to : Pointer) (was is : InodeRec) (old new : VirtualMap) : Type 0 where
  pub at : pointer_at new is index ≡ to
  pub others : (i : ℕ) → i ≢ index → pointer_at new is i ≡ pointer_at old was i
  pub pages : DiffersInPage (address_of is index) old new

-- The record stays but for its pointers and addresses, and of these each one of another range stays.
pub record KeepsRecord (index : ℕ) (was is : InodeRec) : Type 0 where
  pub generation : is.generation ≡ was.generation
  pub size : is.size ≡ was.size
  pub addresses : (r : ℕ) → (8 ≤ index → r ≢ range_of index) → slice_index (slots_of is) r ≡ slice_index (slots_of was) r

-- The address has this page in place of what it had, and the page is dirty. Other addresses may have lost theirs for it.
pub record HasNewPage (v : ℕ) (bytes : List ℕ) (old new : Pages) : Type 0 where
  pub page : page_of new v ≡ Some bytes
  pub dirty : new.dirty ≡ with_address v old.dirty
  pub keeps : KeepsOtherPages v old new

-- How the pages change. The page of the index is at address a after the call, and no page has the index where that is 0.
pub record StoresOnePointer (slot : ℕ) (to : Pointer) (fresh : Option ℕ) (a : ℕ) (old new : Pages) : Type 0 where
  -- without a page none changes
  pub same : a ≡ 0 → new ≡ old
  -- a page that was there has the pointer in its slot, and is dirty
  pub written : a ≢ 0 → fresh ≡ None → new ≡ with_dirty old a (with_slot 16 slot (pointer_bytes to) (unwrap_or (page_of old a) []))
  -- a new page has nothing but the pointer
  pub begun : IsSome fresh → HasNewPage a (with_slot 16 slot (pointer_bytes to) (zeros 4096)) old new
  -- no second page becomes dirty
  pub one_more : length (besides_0 new.dirty) ≤ length (besides_0 old.dirty) + 1

-- The range's page is given back exactly where it had one and has none now. Else the range has the page that it had, or the new one.
abbrev pub AnswersStored : ℕ → Option ℕ → InodeRec → InodeRec → Stored → Type 0
AnswersStored index fresh was is Done = address_of is index ≡ unwrap_or fresh (address_of was index)
AnswersStored index fresh was is (Emptied a) = (a ≢ 0) × (address_of was index ≡ a) × (address_of is index ≡ 0)

pub record Stores (index : ℕ) (to : Pointer) (fresh : Option ℕ) (was is : InodeRec) (old new : Pages) (answer : Stored) : Type 0 where
  -- over any device the index has the pointer, and each other index and each other page what it had
  pub pointers : (device : VirtualMap) → CleanIsStored device old
      → StoresPointer index to was is (running_over device old) (running_over device new)
  pub clean : (device : VirtualMap) → CleanIsStored device old → CleanIsStored device new
  -- the record is still a file's
  pub file : IsFileRecord is
  pub record_kept : KeepsRecord index was is
  -- the range's page, where there is one, is resident and has a pointer
  pub range : HasRange (page_of new) is index
  -- the range's page alone was written
  pub pages : StoresOnePointer (slot_of index) to fresh (address_of is index) old new
  -- the answer tells the page that is given back
  pub answered : AnswersStored index fresh was is answer
