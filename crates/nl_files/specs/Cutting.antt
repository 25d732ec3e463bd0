-- What it means that a file is cut to a size.
use Rattle.std.specs.Prelude.{◌≡◌, ◌≢◌, ◌⊎◌, ℕ, ◌+◌, ◌/◌, ◌%◌, ◌≤◌, ◌<◌, true, List, length, slice_index, Option, Some, IfSome, IsSome, IsTrue}
use Rattle.std.specs.Int.{div_ceil}
use Rattle.nl_field.specs.Pointers.{no_pointer}
use Rattle.nl_field.specs.Spelling.{is_stamp}
use Rattle.nl_field.specs.declared.inode.InodeRec.{InodeRec}
use Rattle.nl_field.specs.declared.pointer.Pointer.{Pointer}
use Rattle.nl_meta.specs.Committed.{VirtualMap}
use Rattle.nl_meta.specs.Nodes.{pointer_at, slots_of}
use Rattle.nl_meta.specs.Pages.{Pages, besides_0}
use Rattle.nl_meta.specs.Running.{CleanIsStored, running_over}
use Rattle.nl_meta.specs.Steps.{with_dirty}
use Rattle.nl_inode.specs.Nodes.{Spaces, is_free_address}
use Rattle.nl_indirect.specs.Ranges.{HasPointers, IsFileRecord, address_of}
use Rattle.nl_indirect.specs.Storing.{BeginsRange, DiffersInPage}
use Rattle.nl_indirect.specs.Truncating.{CutsAddresses}

-- Each address of the file is one of the pool.
abbrev pub AreOfPool : Spaces → List ℕ → Type 0
AreOfPool s addresses =
    (r : ℕ) → slice_index addresses r ≢ 0 → (s.first ≤ slice_index addresses r) × (slice_index addresses r < s.first + length s.pool)

-- a is an address that the file had, and has no longer.
pub record LosesAddress (was is : List ℕ) (a : ℕ) : Type 0 where
  pub not_zero : a ≢ 0
  pub at : ℕ
  pub had : slice_index was at ≡ a
  pub gone : slice_index is at ≡ 0

-- The addresses that the file lost are free, and each other address, and each node, is free or not as before.
pub record GivesBackAddresses (was is : List ℕ) (s t : Spaces) : Type 0 where
  pub nodes : t.nodes ≡ s.nodes
  pub first : t.first ≡ s.first
  pub count : length t.pool ≡ length s.pool
  pub given : (a : ℕ) → LosesAddress was is a → is_free_address t a ≡ true
  pub others : (a : ℕ) → (LosesAddress was is a → ⊥) → is_free_address t a ≡ is_free_address s a

-- The page in which a file of this size ends may be replaced by this one: the size is no whole number of pages, and the range of the
-- page's index has a page, as where the index has a pointer.
pub record IsPartial (size : ℕ) (rec : InodeRec) (to : Pointer) : Type 0 where
  pub within : size % 4096 ≢ 0
  pub spelled : IsTrue (is_stamp to.stamp)
  pub page : BeginsRange rec (size / 4096) (Some to) → ⊥

-- Each index wholly behind the size has no pointer; that in which the file ends has the one that is given, if any; and each other index
-- has the pointer that it had. Each range that still has a page has a pointer, as it had one before, so a page is the file's no longer
-- where its range lost the last one. Of the pages at most that of the index in which the file ends changes.
pub record CutsPointers (size : ℕ) (partial : Option Pointer) (was is : InodeRec) (old new : VirtualMap) : Type 0 where
  pub gone : (i : ℕ) → div_ceil size 4096 ≤ i → pointer_at new is i ≡ no_pointer
  pub replaced : IfSome partial (λ p. pointer_at new is (size / 4096) ≡ p)
  pub kept : (i : ℕ) → i < div_ceil size 4096 → (IsSome partial → i ≢ size / 4096) → pointer_at new is i ≡ pointer_at old was i
  pub spelled : (r : ℕ) → slice_index (slots_of is) r ≢ 0 → HasPointers old (slice_index (slots_of is) r)
      → HasPointers new (slice_index (slots_of is) r)
  pub pages : DiffersInPage (address_of is (size / 4096)) old new

-- The page of an address has other bytes, and is dirty.
pub record Rewrites (a : ℕ) (old new : Pages) : Type 0 where
  pub not_zero : a ≢ 0
  pub bytes : List ℕ
  pub page : new ≡ with_dirty old a bytes

pub record Cuts (size : ℕ) (partial : Option Pointer) (was is : InodeRec) (old new : Pages) (s t : Spaces) : Type 0 where
  -- over any device the file has no pointer behind the size, and else what it had, with the one that is given
  pub pointers : (device : VirtualMap) → CleanIsStored device old
      → CutsPointers size partial was is (running_over device old) (running_over device new)
  pub clean : (device : VirtualMap) → CleanIsStored device old → CleanIsStored device new
  -- the record is still a file's, and has the size
  pub file : IsFileRecord is
  pub sized : is.size ≡ size
  pub generation : is.generation ≡ was.generation
  -- the addresses that the file lost are free
  pub addresses : CutsAddresses (div_ceil size 4096) (slots_of was) (slots_of is)
  pub given : GivesBackAddresses (slots_of was) (slots_of is) s t
  -- the page of the index in which the file ends was written, or none was
  pub written : (new ≡ old) ⊎ Rewrites (address_of is (size / 4096)) old new
  pub one_more : length (besides_0 new.dirty) ≤ length (besides_0 old.dirty) + 1
