-- What a volume gives for the calls of this crate.
use Rattle.std.specs.Prelude.{◌≡◌, ◌≢◌, ℕ, slice_index, map, Option}
use Rattle.nl_field.specs.declared.inode.InodeRec.{InodeRec}
use Rattle.nl_field.specs.declared.pointer.Pointer.{Pointer}
use Rattle.nl_field.specs.declared.shape.Shape.{Shape}
use Rattle.nl_meta.specs.Committed.{VirtualMap}
use Rattle.nl_iface.specs.Calls.{OnlyReads}
use Rattle.nl_iface.specs.declared.counts.Counts.{Ghosts}
use Rattle.nl_meta.specs.Nodes.{pointer_at, pointers_of_inode, slots_of}
use Rattle.nl_meta.specs.Pages.{Pages, page_of}
use Rattle.nl_inode.specs.Nodes.{Spaces}
use Rattle.nl_indirect.specs.FileLaws.{AddressesGood}
use Rattle.nl_indirect.specs.Ranges.{HasPointers, HasRange, IsFileRecord}
use Rattle.nl_files.specs.Cutting.{Cuts}
use Rattle.nl_files.specs.Installing.{Installs}
use Rattle.nl_files.specs.Spans.{pointers_from}
use Rattle.nl_files.specs.Standing.{FileIsAtHand, KeepsRunning, PointersLead, running_map}

-- A file whose addresses are good has a page that spells pointers at each of them.
abbrev pub GoodAddressesHavePages : Type 0
GoodAddressesHavePages =
    (shape : Shape) (pages : VirtualMap) (rec : InodeRec) → AddressesGood shape pages rec
    → (r : ℕ) → slice_index (slots_of rec) r ≢ 0 → HasPointers pages (slice_index (slots_of rec) r)

-- The pointers from index 0 on are those that the file has in the graph of nodes.
abbrev pub AllAreOfNode : Type 0
AllAreOfNode =
    (pages : VirtualMap) (rec : InodeRec) → IsFileRecord rec → pointers_from pages rec 0 ≡ map (λ p. p.1) (pointers_of_inode pages rec)

-- A file stands on, with the pointers that it had, and they still lead.
pub record FilePreserved {D : Type 0} (g : Ghosts D) (s t : D) (rec : InodeRec) (p q : Pages) : Type 0 where
  pub stands : FileIsAtHand g t rec q
  pub pointers : (i : ℕ) → pointer_at (running_map g t q) rec i ≡ pointer_at (running_map g s p) rec i
  pub leads : (ino : ℕ) → PointersLead (g.names s) ino rec (running_map g s p) → PointersLead (g.names t) ino rec (running_map g t q)

-- A file that gets another record stands on over the same device, whatever that tells, and each page index whose pages were resident has
-- its page resident.
pub record FilePreservedWith {D : Type 0} (g : Ghosts D) (s : D) (was is : InodeRec) (p q : Pages) : Type 0 where
  pub stands : FileIsAtHand g s was p → FileIsAtHand g s is q
  pub ranges : (i : ℕ) → HasRange (page_of p) was i → HasRange (page_of q) is i

-- A file stands on with its new record where a pointer is installed in it.
abbrev pub InstallPreservesFile : {D : Type 0} → Ghosts D → Type 0
InstallPreservesFile {D} g =
    (s : D) (index : ℕ) (to : Pointer) (was is : InodeRec) (p q : Pages) (t u : Spaces) → Installs index to was is p q t u
    → FilePreservedWith g s was is p q

-- A file stands on with its new record where it is cut.
abbrev pub CutPreservesFile : {D : Type 0} → Ghosts D → Type 0
CutPreservesFile {D} g =
    (s : D) (size : ℕ) (partial : Option Pointer) (was is : InodeRec) (p q : Pages) (t u : Spaces) → Cuts size partial was is p q t u
    → FilePreservedWith g s was is p q

-- Each file stands on after calls that only read.
abbrev pub FilesArePreserved : {D : Type 0} → Ghosts D → Type 0
FilesArePreserved {D} g =
    (s t : D) (rec : InodeRec) (p q : Pages) → OnlyReads g s t → KeepsRunning g s p q → FileIsAtHand g s rec p → FilePreserved g s t rec p q
