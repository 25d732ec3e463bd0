-- What it means that an entry is inserted, or removed.
use Rattle.std.specs.Prelude.{◌≡◌, ◌≢◌, ℕ, ◌-◌, ◌==◌, if◌then◌else◌, List, [], ◌∷◌, ◌++◌, length, bytes_eq, position, swap_remove, Option, Some, None, IsSome}
use Rattle.nl_field.specs.Members.{Has}
use Rattle.nl_field.specs.declared.entry.EntryRec.{EntryRec}
use Rattle.nl_field.specs.declared.inode.InodeRec.{InodeRec}
use Rattle.nl_meta.specs.Committed.{VirtualMap}
use Rattle.nl_meta.specs.Nodes.{address_of_place, entries_of_inode, entry_named}
use Rattle.nl_meta.specs.Pages.{Pages, page_of, touched, with_address}
use Rattle.nl_dir.specs.Directory.{IsDirectory, given_up, last_alone, longer, shorter}

-- rising addresses with some more
unfoldable pub with_addresses : List ℕ → List ℕ → List ℕ
with_addresses [] dirty = dirty
with_addresses (v ∷ vs) dirty = with_addresses vs (with_address v dirty)

-- The pages of these addresses may differ, and are dirty; every other one is as before, and so is what is frozen.
pub record ChangesPages (changed : List ℕ) (old new : Pages) : Type 0 where
  pub count : length new.running ≡ length old.running
  pub others : (u : ℕ) → (Has changed u → ⊥) → page_of new u ≡ page_of old u
  pub there : (u : ℕ) → Has changed u → IsSome (page_of new u)
  pub dirty : new.dirty ≡ with_addresses changed old.dirty
  pub frozen : new.frozen ≡ old.frozen

-- the addresses touched last, where a new page was given
abbrev pub touched_by : Option ℕ → List ℕ → List ℕ
touched_by None recent = recent
touched_by (Some v) recent = touched v recent

-- Every other name has the entry that it had.
abbrev pub SameNamesBut : List ℕ → VirtualMap → InodeRec → VirtualMap → InodeRec → Type 0
SameNamesBut name old rec new after = (other : List ℕ) → other ≢ name → entry_named new after other ≡ entry_named old rec other

-- The entry stands behind those of the directory; its page alone changes.
pub record InsertsEntry (entry : EntryRec) (fresh : Option ℕ) (rec after : InodeRec) (old new : Pages) : Type 0 where
  pub record_after : after ≡ longer rec fresh
  pub directory : IsDirectory (page_of new) after
  pub entries : entries_of_inode (page_of new) after ≡ entries_of_inode (page_of old) rec ++ entry ∷ []
  pub named : entry_named (page_of new) after entry.name ≡ Some entry
  pub others : SameNamesBut entry.name (page_of old) rec (page_of new) after
  pub pages : ChangesPages (address_of_place after rec.size ∷ []) old new
  pub recent : new.recent ≡ touched_by fresh old.recent

abbrev pub no_entry : EntryRec
no_entry = record { ino = 0; generation = 0; name = [] }

-- the pages that change where the entry at this place is removed: the one that has the place, unless it is the last place, and the one
-- that has the last place, unless it is given up
abbrev pub changed_by_removal : InodeRec → ℕ → List ℕ
changed_by_removal rec at =
    (if at == rec.size - 1 then [] else (address_of_place rec at ∷ [])) ++ (if last_alone rec then [] else (address_of_place rec (rec.size - 1) ∷ []))

-- The last entry stands in the place of the one that had the name, and the directory is one shorter.
pub record RemovesDirectoryEntry (name : List ℕ) (gone : Option ℕ) (rec after : InodeRec) (old new : Pages) : Type 0 where
  pub record_after : after ≡ shorter rec
  pub given : gone ≡ given_up rec
  pub directory : IsDirectory (page_of new) after
  pub place : ℕ
  pub had_name : position (λ e. bytes_eq e.name name) (entries_of_inode (page_of old) rec) ≡ Some place
  pub entries : entries_of_inode (page_of new) after ≡ swap_remove (entries_of_inode (page_of old) rec) place no_entry
  pub named : entry_named (page_of new) after name ≡ None
  pub others : SameNamesBut name (page_of old) rec (page_of new) after
  pub pages : ChangesPages (changed_by_removal rec place) old new
  pub recent : new.recent ≡ old.recent
