-- What the calls on files mean for the pages in memory as a whole.
use Rattle.std.specs.Prelude.{◌≢◌, ℕ, ◌/◌, ◌≤◌, slice_index, Option}
use Rattle.nl_field.specs.declared.inode.InodeRec.{InodeRec}
use Rattle.nl_field.specs.declared.pointer.Pointer.{Pointer}
use Rattle.nl_iface.specs.declared.counts.Counts.{Ghosts}
use Rattle.nl_inode.specs.Nodes.{Spaces}
use Rattle.nl_meta.specs.Nodes.{slots_of}
use Rattle.nl_meta.specs.PageLaws.{IsApart}
use Rattle.nl_meta.specs.Pages.{Pages, page_of}
use Rattle.nl_meta.specs.Steps.{ChangesRunningPages}
use Rattle.nl_indirect.specs.Ranges.{HasRange}
use Rattle.nl_files.specs.Cutting.{Cuts}
use Rattle.nl_files.specs.Installing.{Installs}
use Rattle.nl_files.specs.Standing.{KeepsRunning, LoadsOwn}

-- The pages change where a file is read whose addresses are none of the journal's.
abbrev pub ReadingChangesPages : {D : Type 0} → Ghosts D → Type 0
ReadingChangesPages {D} g =
    (s : D) (rec : InodeRec) (old new : Pages) → ((r : ℕ) → slice_index (slots_of rec) r ≢ 0 → IsApart (slice_index (slots_of rec) r))
    → KeepsRunning g s old new → LoadsOwn rec old new → ChangesRunningPages old new

-- No page is lost where a pointer is installed, with free addresses that are none of the journal's.
abbrev pub InstallingChangesPages : Type 0
InstallingChangesPages =
    (index : ℕ) (to : Pointer) (was is : InodeRec) (old new : Pages) (s t : Spaces) → HasRange (page_of old) was index → 67 ≤ s.first
    → Installs index to was is old new s t
    → ChangesRunningPages old new

-- No page is lost where a file is cut.
abbrev pub CuttingChangesPages : Type 0
CuttingChangesPages =
    (size : ℕ) (partial : Option Pointer) (was is : InodeRec) (old new : Pages) (s t : Spaces) → HasRange (page_of old) was (size / 4096)
    → Cuts size partial was is old new s t
    → ChangesRunningPages old new
