-- One slot of a page that changes is one node, one entry or one pointer that changes; and nodes, entries and pointers by number, name and
-- index are those that stand in lists.
use Rattle.std.specs.Prelude.{◌≡◌, ◌≢◌, ◌↔◌, ℕ, ◌+◌, ◌-◌, ◌*◌, ◌/◌, ◌%◌, ◌≤◌, false, List, ◌++◌, length, take, drop, slice_index, slice_index_or, Some}
use Rattle.std.specs.List.{flat_map}
use Rattle.nl_field.specs.Members.{Has}
use Rattle.nl_field.specs.Pointers.{is_none_pointer, no_pointer}
use Rattle.nl_field.specs.declared.entry.EntryRec.{EntryRec}
use Rattle.nl_field.specs.declared.inode.InodeRec.{InodeRec}
use Rattle.nl_field.specs.declared.pointer.Pointer.{Pointer}
use Rattle.nl_meta.specs.Committed.{VirtualMap}
use Rattle.nl_meta.specs.Nodes.{slot_in, slot_at, bytes_of_node, slots_of, address_of_place, bytes_of_place, entries_of_inode, entry_named, pointers_at, pointer_at, pointers_of_inode}

-- the page with its i-th slot replaced
abbrev pub with_slot : ℕ → ℕ → List ℕ → List ℕ → List ℕ
with_slot width i slot bytes = take (width * i) bytes ++ slot ++ drop (width * i + width) bytes

-- Of two maps of pages one has what the other has but in one slot of one address.
pub record ChangesSlot (width v i : ℕ) (old new : VirtualMap) : Type 0 where
  pub others : (u : ℕ) → u ≢ v → new u ≡ old u
  pub slots : (j : ℕ) → j ≢ i → slot_at new width v j ≡ slot_at old width v j

pub record OneSlot : Type 0 where
  -- what is put into a slot is there, and the other slots are as before
  pub put : (width i : ℕ) (slot bytes : List ℕ) → length slot ≡ width → width * i + width ≤ length bytes
      → slot_in width i (with_slot width i slot bytes) ≡ slot
  pub kept : (width i j : ℕ) (slot bytes : List ℕ) → length slot ≡ width → width * i + width ≤ length bytes → j ≢ i
      → slot_in width j (with_slot width i slot bytes) ≡ slot_in width j bytes
  -- a slot at another place is as before
  pub other : (width v i : ℕ) (old new : VirtualMap) → ChangesSlot width v i old new → (u j : ℕ) → (u ≡ v → j ≡ i → ⊥)
      → slot_at new width u j ≡ slot_at old width u j
  -- another node is as before
  pub node : (v i : ℕ) (old new : VirtualMap) → ChangesSlot 256 v i old new → (n : ℕ) → (67 + n / 16 ≡ v → n % 16 ≡ i → ⊥)
      → bytes_of_node new n ≡ bytes_of_node old n
  -- another place of a directory is as before
  pub place : (v i : ℕ) (old new : VirtualMap) → ChangesSlot 64 v i old new → (rec : InodeRec) (k : ℕ)
      → (address_of_place rec k ≡ v → k % 64 ≡ i → ⊥)
      → bytes_of_place new rec k ≡ bytes_of_place old rec k
  -- another pointer is as before
  pub pointer : (v i : ℕ) (old new : VirtualMap) → ChangesSlot 16 v i old new → (rec : InodeRec) (k : ℕ)
      → (8 ≤ k → slice_index (slots_of rec) ((k - 8) / 256) ≡ v → (k - 8) % 256 ≡ i → ⊥) → pointer_at new rec k ≡ pointer_at old rec k

pub record ByIndexAndName : Type 0 where
  -- the pointer at an index is the one that stands there in the list of all
  pub at_index : (pages : VirtualMap) (rec : InodeRec) (i : ℕ) → length rec.direct ≡ 8
      → slice_index_or (rec.direct ++ flat_map (pointers_at pages) (slots_of rec)) i no_pointer ≡ pointer_at pages rec i
  -- a file has a pointer with its index exactly where the one at the index is not none
  pub listed : (pages : VirtualMap) (rec : InodeRec) (i : ℕ) (p : Pointer) → length rec.direct ≡ 8
      → Has (pointers_of_inode pages rec) (i, p) ↔ ((pointer_at pages rec i ≡ p) × (is_none_pointer p ≡ false))
  -- where no name stands twice, the entry of a name is the one that has it
  pub named : (pages : VirtualMap) (rec : InodeRec)
      → ((e f : EntryRec) → Has (entries_of_inode pages rec) e → Has (entries_of_inode pages rec) f → e.name ≡ f.name → e ≡ f)
      → (name : List ℕ) (e : EntryRec) → (entry_named pages rec name ≡ Some e) ↔ (Has (entries_of_inode pages rec) e × (e.name ≡ name))
