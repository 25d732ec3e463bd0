-- What it means that the pointers of a file are taken away from an index on.
use Rattle.std.specs.Prelude.{◌≡◌, ◌≢◌, ◌⊎◌, ℕ, ◌+◌, ◌*◌, ◌≤◌, ◌<◌, true, false, List, [], length, slice_index, Some, unwrap_or}
use Rattle.nl_field.specs.Pointers.{is_none_pointer, no_pointer, pointer_bytes}
use Rattle.nl_field.specs.declared.inode.InodeRec.{InodeRec}
use Rattle.nl_meta.specs.Committed.{VirtualMap}
use Rattle.nl_meta.specs.Nodes.{pointer_at, slot_in, slots_of}
use Rattle.nl_meta.specs.Pages.{Pages, besides_0, page_of}
use Rattle.nl_meta.specs.Running.{CleanIsStored, running_over}
use Rattle.nl_meta.specs.Steps.{with_dirty}
use Rattle.nl_indirect.specs.Ranges.{HasPointers, IsFileRecord, address_of, pointer_in, range_of, slot_of}
use Rattle.nl_indirect.specs.Storing.{DiffersInPage}

-- a slot of the page before this one has a pointer
pub record HasBefore (bytes : List ℕ) (slot : ℕ) : Type 0 where
  pub at : ℕ
  pub before : at < slot
  pub some : is_none_pointer (pointer_in bytes at) ≡ false

-- The slots of a page from one on have no pointer, and those before it the bytes that they had.
pub record CutsSlots (slot : ℕ) (old new : List ℕ) : Type 0 where
  pub whole : length new ≡ length old
  pub kept : (j : ℕ) → j < slot → slot_in 16 j new ≡ slot_in 16 j old
  pub gone : (j : ℕ) → slot ≤ j → j < 256 → slot_in 16 j new ≡ pointer_bytes no_pointer

-- The range of the index has a resident page, which has a pointer before the index.
pub record StaysBefore (p : Pages) (rec : InodeRec) (from : ℕ) : Type 0 where
  pub not_zero : address_of rec from ≢ 0
  pub bytes : List ℕ
  pub there : page_of p (address_of rec from) ≡ Some bytes
  pub before : HasBefore bytes (slot_of from)

-- The range of the index has no pointer before the index, over any device.
abbrev pub NoneBefore : Pages → InodeRec → ℕ → Type 0
NoneBefore p rec from =
    (device : VirtualMap) (i : ℕ) → 8 ≤ i → i < from → range_of i ≡ range_of from
    → is_none_pointer (pointer_at (running_over device p) rec i) ≡ true

-- Each index of a file from one on has no pointer, and each index before it the pointer that it had. Each range that still has a page
-- has a pointer, as it had one before, so a page is the file's no longer where its range lost the last one. Of the pages at most the one
-- of the first index changes.
pub record TakesFrom (from : ℕ) (was is : InodeRec) (old new : VirtualMap) : Type 0 where
  pub gone : (i : ℕ) → from ≤ i → pointer_at new is i ≡ no_pointer
  pub kept : (i : ℕ) → i < from → pointer_at new is i ≡ pointer_at old was i
  pub spelled : (r : ℕ) → slice_index (slots_of is) r ≢ 0 → HasPointers old (slice_index (slots_of is) r)
      → HasPointers new (slice_index (slots_of is) r)
  pub pages : DiffersInPage (address_of is from) old new

-- The ranges behind an index have no page, those before it have the page that they had, and that of the index may have lost it.
pub record CutsAddresses (from : ℕ) (was is : List ℕ) : Type 0 where
  pub behind : (r : ℕ) → from ≤ 8 + 256 * r → slice_index is r ≡ 0
  pub before : (r : ℕ) → 8 + 256 * r + 256 ≤ from → slice_index is r ≡ slice_index was r
  pub either : (r : ℕ) → (slice_index is r ≡ slice_index was r) ⊎ (slice_index is r ≡ 0)

-- How the pages change. The page of the index is at address a after the call, and no page has the index where that is 0.
pub record TruncatesPages (slot : ℕ) (a : ℕ) (old new : Pages) : Type 0 where
  -- without a page none changes
  pub same : a ≡ 0 → new ≡ old
  -- a page that stays was cut, and is dirty
  pub written : a ≢ 0 → (bytes : List ℕ) × CutsSlots slot (unwrap_or (page_of old a) []) bytes × (new ≡ with_dirty old a bytes)
  -- no second page becomes dirty
  pub one_more : length (besides_0 new.dirty) ≤ length (besides_0 old.dirty) + 1

pub record TruncatesPointers (from : ℕ) (was is : InodeRec) (old new : Pages) : Type 0 where
  -- over any device the pointers from the index on are taken away, and each other index and each other page has what it had
  pub pointers : (device : VirtualMap) → CleanIsStored device old
      → TakesFrom from was is (running_over device old) (running_over device new)
  pub clean : (device : VirtualMap) → CleanIsStored device old → CleanIsStored device new
  -- the record is still a file's
  pub file : IsFileRecord is
  pub generation : is.generation ≡ was.generation
  pub size : is.size ≡ was.size
  pub addresses : CutsAddresses from (slots_of was) (slots_of is)
  -- one page at most was written
  pub pages : TruncatesPages (slot_of from) (address_of is from) old new
