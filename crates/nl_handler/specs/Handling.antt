-- What a callback finds, and what its handling does.
use Rattle.std.specs.Prelude.{◌≡◌, ◌≢◌, ◌⊎◌, ℕ, ◌+◌, ◌/◌, ◌==◌, ◌<◌, Bool, true, false, not, ◌&&◌, if◌then◌else◌, List, length, slice_index, Option, Some, None, IsSome, IsTrue}
use Rattle.std.specs.List.{list_any}
use Rattle.nl_field.specs.Pointers.{is_none_pointer}
use Rattle.nl_field.specs.Spelling.{is_stamp}
use Rattle.nl_field.specs.declared.inode.InodeRec.{InodeRec}
use Rattle.nl_field.specs.declared.inode.Kind.TheVariants.{File}
use Rattle.nl_field.specs.declared.pointer.Pointer.{Pointer}
use Rattle.nl_field.specs.declared.pointer.Tag.{Tag}
use Rattle.nl_field.specs.declared.shape.Shape.{Shape}
use Rattle.nl_flight.specs.Flight.{InFlight, has_stamp}
use Rattle.nl_iface.specs.Calls.{OnlyReads}
use Rattle.nl_iface.specs.declared.counts.Counts.{Ghosts}
use Rattle.nl_indirect.specs.Ranges.{address_of}
use Rattle.nl_meta.specs.Committed.{VirtualMap}
use Rattle.nl_meta.specs.Consistent.{IsNode}
use Rattle.nl_meta.specs.Nodes.{pointer_at, slots_of}
use Rattle.nl_meta.specs.Pages.{Pages, has_room, page_of, with_address}
use Rattle.nl_meta.specs.PointerLists.{ChangesPointer}
use Rattle.nl_meta.specs.Steps.{ChangesRunningPages}
use Rattle.nl_meta_running.specs.FileLaws.{ChangesFileRecord}
use Rattle.nl_meta_running.specs.Running.{PreservesRunning, running_on}
use Rattle.nl_meta_running.specs.declared.answer.Stop.{Stop}
use Rattle.nl_meta_running.specs.declared.answer.Stop.TheVariants as stop
use Rattle.nl_handler.specs.declared.answer.Handled.{Handled}
use Rattle.nl_handler.specs.declared.answer.Handled.TheVariants as handled

-- a pointer of the list has the sequence number
abbrev pub list_has : ℕ → List Pointer → Bool
list_has stamp list = list_any (λ p. p.stamp == stamp) list

-- A page in flight has the sequence number, or a pointer that awaits its free.
abbrev pub IsElsewhere : ℕ → List InFlight → List Pointer → Type 0
IsElsewhere stamp flight freeing = (has_stamp flight stamp ≡ true) ⊎ (list_has stamp freeing ≡ true)

-- The record is a file's, of the tag's generation, and the tag's index is one of a file.
pub record IsTagged (tag : Tag) (rec : InodeRec) : Type 0 where
  pub is_file : rec.kind ≡ File
  pub generation : rec.generation ≡ tag.generation
  pub within : tag.index < 4104

-- The record is that of the tag's node, and tagged as the tag says.
pub record TagsFile (shape : Shape) (pages : VirtualMap) (tag : Tag) (rec : InodeRec) : Type 0 where
  pub is_node : IsNode shape pages tag.ino rec
  pub tagged : IsTagged tag rec

-- the pointer is one, of this sequence number
abbrev pub is_of : ℕ → Pointer → Bool
is_of stamp p = not (is_none_pointer p) && (p.stamp == stamp)

-- The file that the tag names has this record, and at the tag's index a pointer of the sequence number.
pub record HasTagged (shape : Shape) (pages : VirtualMap) (tag : Tag) (stamp : ℕ) (rec : InodeRec) : Type 0 where
  pub file : TagsFile shape pages tag rec
  pub pointer : is_of stamp (pointer_at pages rec tag.index) ≡ true

-- the metadata has the sequence number where the tag says
abbrev pub HoldsTagged : Shape → VirtualMap → Tag → ℕ → Type 0
HoldsTagged shape pages tag stamp = (rec : InodeRec) × HasTagged shape pages tag stamp rec

-- the address of the page that has the pointer: the file's page of the index, or that of its node
abbrev pub page_holding : Tag → InodeRec → ℕ
page_holding tag rec = if address_of rec tag.index == 0 then 67 + tag.ino / 16 else address_of rec tag.index

-- The pointer where the tag says, of the sequence number, has another name. Its file is as before but for that, with the addresses that it
-- had, and so is every other.
pub record RenamesPointer (shape : Shape) (old new : VirtualMap) (tag : Tag) (stamp name : ℕ) : Type 0 where
  pub was : InodeRec
  pub is : InodeRec
  pub had : HasTagged shape old tag stamp was
  pub changes : ChangesFileRecord shape old new tag.ino was is
  pub pointer : ChangesPointer shape old new tag.ino tag.index was is
  pub size : is.size ≡ was.size
  pub addresses : (r : ℕ) → slice_index (slots_of is) r ≡ slice_index (slots_of was) r
  pub spelled : IsTrue (is_stamp stamp)
  pub now : pointer_at new is tag.index ≡ record { name = name; stamp = stamp }

-- The device was only read. One page is dirty that may not have been so, for which there was room, and every other resident page is as
-- it was.
pub record RenamesOn {D : Type 0} (g : Ghosts D) (s : D) (p : Pages) (t : D) (q : Pages) (tag : Tag) (stamp name : ℕ) : Type 0 where
  pub reads : OnlyReads g s t
  pub renames : RenamesPointer (g.shape s) (running_on g s p) (running_on g t q) tag stamp name
  pub room : has_room p (page_holding tag renames.was) ≡ true
  pub count : length q.running ≡ length p.running
  pub frozen : q.frozen ≡ p.frozen
  pub dirty : q.dirty ≡ with_address (page_holding tag renames.was) p.dirty
  pub stays : (v : ℕ) → v ≢ page_holding tag renames.was → IsSome (page_of p v) → page_of q v ≡ page_of p v
  -- pages may have become resident too
  pub pages : ChangesRunningPages p q

-- the page of the pointer, which the metadata has, cannot be made dirty
abbrev pub CannotBeDirty : Shape → VirtualMap → Pages → Tag → ℕ → Type 0
CannotBeDirty shape pages p tag stamp = (rec : InodeRec) × HasTagged shape pages tag stamp rec × (has_room p (page_holding tag rec) ≡ false)

-- How a callback was handled that the metadata may have. Where nothing was renamed, the volume is as it was.
abbrev pub HandlesStored : {D : Type 0} → Ghosts D → D → Pages → D → Pages → Tag → ℕ → ℕ → Handled → Type 0
HandlesStored g s p t q tag stamp name handled.Renamed = RenamesOn g s p t q tag stamp name
HandlesStored g s p t q tag stamp name handled.Gone = (HoldsTagged (g.shape s) (running_on g s p) tag stamp → ⊥) × PreservesRunning g s p t q
HandlesStored g s p t q tag stamp name handled.NoRoom = CannotBeDirty (g.shape s) (running_on g s p) p tag stamp × PreservesRunning g s p t q
HandlesStored g s p t q tag stamp name handled.Fault = PreservesRunning g s p t q
HandlesStored g s p t q tag stamp name (handled.Lost w f) = PreservesRunning g s p t q

-- what ended it early
abbrev pub handled_stop : Handled → Option Stop
handled_stop handled.Renamed = None
handled_stop handled.Gone = None
handled_stop handled.NoRoom = None
handled_stop handled.Fault = Some stop.Fault
handled_stop (handled.Lost w f) = Some (stop.Lost w f)
