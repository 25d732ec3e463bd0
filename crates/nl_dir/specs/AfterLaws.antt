-- What a directory lists after a change, and which addresses its record has.
use Rattle.std.specs.Prelude.{◌≡◌, ◌≢◌, ◌↔◌, ◌⊎◌, ℕ, ◌/◌, ◌<◌, List, slice_get, Option, Some}
use Rattle.nl_field.specs.Members.{Has}
use Rattle.nl_field.specs.declared.entry.EntryRec.{EntryRec}
use Rattle.nl_field.specs.declared.inode.InodeRec.{InodeRec}
use Rattle.nl_meta.specs.Committed.{VirtualMap}
use Rattle.nl_meta.specs.Nodes.{entries_of_inode, slots_of}
use Rattle.nl_meta.specs.Pages.{Pages, page_of}
use Rattle.nl_dir.specs.Changes.{InsertsEntry, RemovesDirectoryEntry}
use Rattle.nl_dir.specs.Directory.{FitsFresh, HasPlaces, IsDirectory, given_up, longer, shorter}

-- Slot k of the record has this address, which is not 0.
abbrev pub HasAddress : InodeRec → ℕ → ℕ → Type 0
HasAddress rec k a = (slice_get (slots_of rec) k ≡ Some a) × (a ≢ 0)

pub record AddressesAfter (rec : InodeRec) : Type 0 where
  -- the fresh one stands behind the others
  pub inserted : (p : Pages) (fresh : Option ℕ) → FitsFresh p rec fresh → rec.size < 1024
      → (k a : ℕ) → HasAddress (longer rec fresh) k a ↔ (HasAddress rec k a ⊎ ((fresh ≡ Some a) × (k ≡ rec.size / 64)))
  -- the one that is given up is gone
  pub removed : 0 < rec.size → (k a : ℕ) → HasAddress (shorter rec) k a ↔ (HasAddress rec k a × (given_up rec ≢ Some a))

abbrev pub AddressesOfChanged : Type 0
AddressesOfChanged = (pages : VirtualMap) (rec : InodeRec) → HasPlaces pages rec → AddressesAfter rec

-- what a directory lists once an entry is inserted
abbrev pub ListsInserted : Type 0
ListsInserted = (entry : EntryRec) (fresh : Option ℕ) (rec after : InodeRec) (old new : Pages) → InsertsEntry entry fresh rec after old new
    → (e : EntryRec) → Has (entries_of_inode (page_of new) after) e ↔ (Has (entries_of_inode (page_of old) rec) e ⊎ (e ≡ entry))

-- what a directory lists once an entry is removed
abbrev pub ListsRemoved : Type 0
ListsRemoved =
    (name : List ℕ) (gone : Option ℕ) (rec after : InodeRec) (old new : Pages) → IsDirectory (page_of old) rec
    → RemovesDirectoryEntry name gone rec after old new
    → (e : EntryRec) → Has (entries_of_inode (page_of new) after) e ↔ (Has (entries_of_inode (page_of old) rec) e × (e.name ≢ name))
