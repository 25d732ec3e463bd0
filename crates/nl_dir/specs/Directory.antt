-- A directory as its pages have it: entries in places, from the front.
use Rattle.std.specs.Prelude.{◌≡◌, ◌≢◌, ℕ, ◌+◌, ◌-◌, ◌*◌, ◌/◌, ◌%◌, ◌==◌, ◌<◌, ◌≤◌, if◌then◌else◌, Bool, List, length, slice_set, Option, Some, None, IsTrue, IsSome, is_some}
use Rattle.std.specs.Int.{div_ceil}
use Rattle.nl_field.specs.Bytes.{all_zero}
use Rattle.nl_field.specs.EntryRecord.{entry_of}
use Rattle.nl_field.specs.Inode.{is_inode}
use Rattle.nl_field.specs.declared.entry.EntryRec.{EntryRec}
use Rattle.nl_field.specs.declared.inode.InodeRec.{InodeRec}
use Rattle.nl_field.specs.declared.inode.Kind.TheVariants.{Dir}
use Rattle.nl_meta.specs.Committed.{VirtualMap}
use Rattle.nl_meta.specs.Nodes.{address_of_place, bytes_of_place}
use Rattle.nl_meta.specs.Pages.{Pages, besides_0, most}

-- the entry at the i-th place
abbrev pub entry_at : VirtualMap → InodeRec → ℕ → Option EntryRec
entry_at pages rec i = entry_of (bytes_of_place pages rec i)

-- The record is a directory's, and its places have pages, which are zero behind the last entry.
pub record HasPlaces (pages : VirtualMap) (rec : InodeRec) : Type 0 where
  pub is_dir : rec.kind ≡ Dir
  pub spelled : IsTrue (is_inode rec)
  -- each place below the size has a page
  pub there : (i : ℕ) → i < rec.size → IsSome (pages (address_of_place rec i))
  -- no page has two rows of 64 places
  pub one_use : (i j : ℕ) → i < rec.size → j < rec.size → address_of_place rec i ≡ address_of_place rec j → i / 64 ≡ j / 64
  pub rest : (i : ℕ) → rec.size ≤ i → i < 64 * div_ceil rec.size 64 → IsTrue (all_zero (bytes_of_place pages rec i))

-- A directory: its places have pages, and each place below the size has an entry, under names that differ.
pub record IsDirectory (pages : VirtualMap) (rec : InodeRec) : Type 0 where
  pub places : HasPlaces pages rec
  pub entries : (i : ℕ) → i < rec.size → IsSome (entry_at pages rec i)
  pub names_differ : (i j : ℕ) (e f : EntryRec) → i < rec.size → j < rec.size → entry_at pages rec i ≡ Some e
      → entry_at pages rec j ≡ Some f → e.name ≡ f.name → i ≡ j

-- ---- what a change needs

-- There is room for so many more dirty pages.
abbrev pub HasRoomForDirty : ℕ → Pages → Type 0
HasRoomForDirty n p = length (besides_0 p.dirty) + n ≤ most

-- An address for a new page is given exactly where the last page is full; it is not 0, and no page of the directory has it.
pub record FitsFresh (p : Pages) (rec : InodeRec) (fresh : Option ℕ) : Type 0 where
  pub exactly : is_some fresh ≡ (rec.size % 64 == 0)
  pub not_zero : (a : ℕ) → fresh ≡ Some a → a ≢ 0
  pub inside : (a : ℕ) → fresh ≡ Some a → a < length p.running
  pub unused : (a i : ℕ) → fresh ≡ Some a → i < rec.size → address_of_place rec i ≢ a

-- ---- the record of a directory with one entry more, or less

abbrev pub addresses_with : InodeRec → Option ℕ → List ℕ
addresses_with rec None = rec.addresses
addresses_with rec (Some a) = slice_set rec.addresses (rec.size / 64) a

abbrev pub longer : InodeRec → Option ℕ → InodeRec
longer rec fresh = record rec { size = rec.size + 1; addresses = addresses_with rec fresh }

-- the last page has the last entry only
abbrev pub last_alone : InodeRec → Bool
last_alone rec = (rec.size - 1) % 64 == 0

-- the address that is given up with the last place
abbrev pub given_up : InodeRec → Option ℕ
given_up rec = if last_alone rec then Some (address_of_place rec (rec.size - 1)) else None

abbrev pub shorter : InodeRec → InodeRec
shorter rec = record rec { size = rec.size - 1; addresses = if last_alone rec then slice_set rec.addresses ((rec.size - 1) / 64) 0 else rec.addresses }
