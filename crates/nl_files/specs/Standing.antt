-- A file over a device: where its pages of pointers are, and what its pages hold.
use Rattle.std.specs.Prelude.{◌≡◌, ◌≢◌, ◌⊎◌, ℕ, ◌<◌, false, length, slice_index, IsSome}
use Rattle.nl_field.specs.Pointers.{is_none_pointer}
use Rattle.nl_field.specs.Virtual.{map_bytes}
use Rattle.nl_field.specs.declared.inode.InodeRec.{InodeRec}
use Rattle.nl_field.specs.declared.pointer.Tag.{Tag}
use Rattle.nl_iface.specs.Holders.{IsRef, always, wants_tagged}
use Rattle.nl_iface.specs.Names.{Names}
use Rattle.nl_iface.specs.declared.counts.Counts.{Ghosts}
use Rattle.nl_meta.specs.Committed.{VirtualMap}
use Rattle.nl_meta.specs.Nodes.{pointer_at, slots_of}
use Rattle.nl_meta.specs.Pages.{Pages, page_of}
use Rattle.nl_meta.specs.Running.{CleanIsStored, SameRunning, running_over}
use Rattle.nl_meta.specs.Steps.{KeepsOtherPages}
use Rattle.nl_indirect.specs.Ranges.{HasPointers, IsFileRecord}

-- what the device has at each address
abbrev pub device_map : {D : Type 0} → Ghosts D → D → VirtualMap
device_map g s = map_bytes (g.shape s) (g.map s)

-- what the volume has there that runs over it
abbrev pub running_map : {D : Type 0} → Ghosts D → D → Pages → VirtualMap
running_map g s p = running_over (device_map g s) p

-- The page of the address is resident, or the device tells it.
abbrev pub IsAtHand : Type 0 → Pages → ℕ → Type 0
IsAtHand tells p a = tells ⊎ IsSome (page_of p a)

-- The file's record is right, and each of its addresses has a page at hand that spells pointers. So over a device that tells nothing,
-- these pages are resident.
pub record FileIsAtHand {D : Type 0} (g : Ghosts D) (s : D) (rec : InodeRec) (p : Pages) : Type 0 where
  pub count : length p.running ≡ (g.shape s).vaddrs
  pub clean : g.tells → CleanIsStored (device_map g s) p
  pub file : IsFileRecord rec
  pub pages : (r : ℕ) → slice_index (slots_of rec) r ≢ 0 → HasPointers (running_map g s p) (slice_index (slots_of rec) r)
  pub at_hand : (r : ℕ) → slice_index (slots_of rec) r ≢ 0 → IsAtHand g.tells p (slice_index (slots_of rec) r)

-- the tag of a file's page
abbrev pub tag_of : ℕ → InodeRec → ℕ → Tag
tag_of ino rec index = record { ino = ino; generation = rec.generation; index = index }

-- Each pointer of the file leads to a live page of its stamp, with the tag of node, generation and index.
abbrev pub PointersLead : Names → ℕ → InodeRec → VirtualMap → Type 0
PointersLead names ino rec pages =
    (i : ℕ) → i < 4104 → is_none_pointer (pointer_at pages rec i) ≡ false
    → IsRef names always (wants_tagged (tag_of ino rec i, pointer_at pages rec i)) (pointer_at pages rec i).name

-- The pages run on as they did: no address changes where the device tells what it has, and else no page. Each resident page stays.
pub record KeepsRunning {D : Type 0} (g : Ghosts D) (s : D) (old new : Pages) : Type 0 where
  pub count : length new.running ≡ length old.running
  pub dirty : new.dirty ≡ old.dirty
  pub frozen : new.frozen ≡ old.frozen
  pub alike : g.tells → SameRunning (device_map g s) old new
  pub there : (u : ℕ) → g.tells ⊎ (page_of new u ≡ page_of old u)
  pub stays : (u : ℕ) → IsSome (page_of old u) → page_of new u ≡ page_of old u

-- the address is one of the file's
abbrev pub IsOwn : InodeRec → ℕ → Type 0
IsOwn rec u = (u ≢ 0) × ((r : ℕ) × (slice_index (slots_of rec) r ≡ u))

-- A page that became resident is one of the file's.
pub record LoadsOwn (rec : InodeRec) (old new : Pages) : Type 0 where
  pub each : (u : ℕ) → IsSome (page_of new u) → IsSome (page_of old u) ⊎ IsOwn rec u

-- The page of an address was touched, where it is not 0, and each other page stays.
abbrev pub LoadsAt : ℕ → Pages → Pages → Type 0
LoadsAt a old new = (a ≡ 0 → new ≡ old) × (a ≢ 0 → KeepsOtherPages a old new)
