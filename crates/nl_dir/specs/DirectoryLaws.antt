-- Where a directory of a volume is one, that only its own pages say so, and what the changes mean over a device.
use Rattle.std.specs.Prelude.{◌≡◌, ◌↔◌, ℕ, ◌+◌, ◌<◌, List, length, slice_get, Some, IsSome, IsTrue}
use Rattle.nl_field.specs.Inode.{is_inode}
use Rattle.nl_field.specs.Members.{Has}
use Rattle.nl_field.specs.declared.entry.EntryRec.{EntryRec}
use Rattle.nl_field.specs.declared.inode.InodeRec.{InodeRec}
use Rattle.nl_field.specs.declared.inode.Kind.TheVariants.{Dir}
use Rattle.nl_field.specs.declared.shape.Shape.{Shape}
use Rattle.nl_meta.specs.Committed.{VirtualMap}
use Rattle.nl_meta.specs.Consistent.{AddressesRight, EntriesRight, IsNode}
use Rattle.nl_meta.specs.Nodes.{address_of_place, entries_of_inode, entry_named}
use Rattle.nl_meta.specs.Pages.{Pages, page_of}
use Rattle.nl_meta.specs.Running.{CleanIsStored, running_over}
use Rattle.nl_dir.specs.Changes.{ChangesPages}
use Rattle.nl_dir.specs.Directory.{HasRoomForDirty, IsDirectory, entry_at}

-- A directory of metadata that is right is one.
abbrev pub RightIsDirectory : Type 0
RightIsDirectory =
    (shape : Shape) (pages : VirtualMap) (n : ℕ) (rec : InodeRec) → AddressesRight shape pages → EntriesRight shape pages
    → IsNode shape pages n rec → rec.kind ≡ Dir → IsDirectory pages rec

-- A directory without entries is one, whatever the pages have.
abbrev pub EmptyIsDirectory : Type 0
EmptyIsDirectory = (pages : VirtualMap) (rec : InodeRec) → rec.kind ≡ Dir → IsTrue (is_inode rec) → rec.size ≡ 0 → IsDirectory pages rec

-- Two maps have the same pages of the places of a directory.
abbrev pub SameDirectoryPages : InodeRec → VirtualMap → VirtualMap → Type 0
SameDirectoryPages rec old new = (i : ℕ) → i < rec.size → new (address_of_place rec i) ≡ old (address_of_place rec i)

pub record OwnPages (rec : InodeRec) (old new : VirtualMap) : Type 0 where
  pub directory : IsDirectory old rec → IsDirectory new rec
  pub entries : entries_of_inode new rec ≡ entries_of_inode old rec

-- Only its own pages say what a directory has.
abbrev pub OnlyOwnPages : Type 0
OnlyOwnPages = (rec : InodeRec) (old new : VirtualMap) → SameDirectoryPages rec old new → OwnPages rec old new

-- The list of entries has those of the places, in order, and an entry is in it exactly where it is the one of its name.
pub record ListsEntriesInOrder (pages : VirtualMap) (rec : InodeRec) : Type 0 where
  pub count : length (entries_of_inode pages rec) ≡ rec.size
  pub each : (i : ℕ) → i < rec.size → slice_get (entries_of_inode pages rec) i ≡ entry_at pages rec i
  pub by_name : (e : EntryRec) → Has (entries_of_inode pages rec) e ↔ (entry_named pages rec e.name ≡ Some e)

abbrev pub EntriesInOrder : Type 0
EntriesInOrder = (pages : VirtualMap) (rec : InodeRec) → IsDirectory pages rec → ListsEntriesInOrder pages rec

-- A directory whose pages are resident is one over any device exactly where it is one in memory, with the same entries.
pub record ResidentRuns (device : VirtualMap) (p : Pages) (rec : InodeRec) : Type 0 where
  pub directory : IsDirectory (running_over device p) rec ↔ IsDirectory (page_of p) rec
  pub entries : entries_of_inode (running_over device p) rec ≡ entries_of_inode (page_of p) rec

abbrev pub ResidentIsRunning : Type 0
ResidentIsRunning =
    (device : VirtualMap) (p : Pages) (rec : InodeRec) → ((i : ℕ) → i < rec.size → IsSome (page_of p (address_of_place rec i)))
    → ResidentRuns device p rec

-- ---- what a change of pages means

-- Over a device that has the clean pages, no other address has other bytes, and the device has the clean pages still.
pub record ChangeRuns (changed : List ℕ) (device : VirtualMap) (old new : Pages) : Type 0 where
  pub others : (u : ℕ) → (Has changed u → ⊥) → running_over device new u ≡ running_over device old u
  pub at : (u : ℕ) → Has changed u → running_over device new u ≡ page_of new u
  pub clean : CleanIsStored device new

abbrev pub ChangedPagesRun : Type 0
ChangedPagesRun =
    (changed : List ℕ) (device : VirtualMap) (old new : Pages) → CleanIsStored device old → ChangesPages changed old new
    → ChangeRuns changed device old new

-- Each page that changed takes the room of one at most.
abbrev pub ChangeTakesRoom : Type 0
ChangeTakesRoom =
    (changed : List ℕ) (old new : Pages) (n : ℕ) → ChangesPages changed old new → HasRoomForDirty (n + length changed) old → HasRoomForDirty n new
