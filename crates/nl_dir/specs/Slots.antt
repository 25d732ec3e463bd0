-- What is put into a slot of a page, and how a directory loses its last place.
use Rattle.std.specs.Prelude.{◌≡◌, ◌≢◌, ℕ, ◌-◌, ◌*◌, ◌≤◌, ◌<◌, ◌==◌, Bool, if◌then◌else◌, List, [], ◌∷◌, length, Some, IsTrue}
use Rattle.std.specs.Int.{div_ceil}
use Rattle.nl_field.specs.Bytes.{all_zero, zeros}
use Rattle.nl_field.specs.EntryRecord.{entry_bytes, entry_of}
use Rattle.nl_field.specs.declared.entry.EntryRec.{EntryRec}
use Rattle.nl_field.specs.declared.inode.InodeRec.{InodeRec}
use Rattle.nl_meta.specs.Nodes.{address_of_place, bytes_at, bytes_of_place}
use Rattle.nl_meta.specs.Pages.{Pages, page_of}
use Rattle.nl_meta.specs.SlotLaws.{with_slot}
use Rattle.nl_meta.specs.Steps.{with_admitted, with_dirty}
use Rattle.nl_dir.specs.Changes.{ChangesPages}
use Rattle.nl_dir.specs.Directory.{last_alone, shorter}

-- A slot has these bytes, and its page is dirty.
pub record PutsSlot (v i : ℕ) (bytes : List ℕ) (old new : Pages) : Type 0 where
  pub page : new ≡ with_dirty old v (with_slot 64 i bytes (bytes_at (page_of old) v))
  pub whole : length (bytes_at (page_of old) v) ≡ 4096

-- A slot has this entry, in a page that is new and zero besides, or that keeps its other slots.
pub record PutsEntry (v i : ℕ) (entry : EntryRec) (is_new : Bool) (old new : Pages) : Type 0 where
  pub page : new ≡ with_dirty old v (with_slot 64 i (entry_bytes entry) (if is_new then zeros 4096 else bytes_at (page_of old) v))
  pub whole : length (bytes_at (page_of old) v) ≡ 4096
  pub width : length (entry_bytes entry) ≡ 64
  pub back : entry_of (entry_bytes entry) ≡ Some entry

-- An address is resident and touched.
pub record AdmitsAddress (v : ℕ) (old new : Pages) : Type 0 where
  pub bytes : List ℕ
  pub page : new ≡ with_admitted old v bytes

-- A place has the bytes that the last one has, and every other place what it had.
pub record FillsPlace (place : ℕ) (rec : InodeRec) (old new : Pages) : Type 0 where
  pub at : bytes_of_place (page_of new) rec place ≡ bytes_of_place (page_of old) rec (rec.size - 1)
  pub others : (k : ℕ) → k ≢ place → k < 64 * div_ceil rec.size 64 → bytes_of_place (page_of new) rec k ≡ bytes_of_place (page_of old) rec k
  pub pages : ChangesPages (if place == rec.size - 1 then [] else (address_of_place rec place ∷ [])) old new
  pub recent : new.recent ≡ old.recent

-- The last place is gone: its page is given up, or it is zero.
pub record DropsLast (rec after : InodeRec) (old new : Pages) : Type 0 where
  pub record_after : after ≡ shorter rec
  pub kept : (k : ℕ) → k < rec.size - 1 → bytes_of_place (page_of new) after k ≡ bytes_of_place (page_of old) rec k
  pub rest : (k : ℕ) → rec.size - 1 ≤ k → k < 64 * div_ceil (rec.size - 1) 64 → IsTrue (all_zero (bytes_of_place (page_of new) after k))
  pub pages : ChangesPages (if last_alone rec then [] else (address_of_place rec (rec.size - 1) ∷ [])) old new
  pub recent : new.recent ≡ old.recent
