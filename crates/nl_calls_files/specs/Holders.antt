-- Who holds live pages once a file took a page that was in flight, or was cut.
use Rattle.std.specs.Int.{div_ceil}
use Rattle.std.specs.Prelude.{◌≡◌, ◌≢◌, ℕ, ◌+◌, ◌/◌, ◌%◌, false, is_some, if◌then◌else◌, List, [], ◌++◌, length, Option, Some, None, IfSome}
use Rattle.nl_field.specs.Pointers.{is_none_pointer}
use Rattle.nl_field.specs.declared.inode.InodeRec.{InodeRec}
use Rattle.nl_field.specs.declared.pointer.Pointer.{Pointer}
use Rattle.nl_field.specs.declared.pointer.Tag.{Tag}
use Rattle.nl_iface.specs.Device.{IsVolumeShape}
use Rattle.nl_iface.specs.Holders.{tagged}
use Rattle.nl_iface.specs.declared.counts.Counts.{Ghosts}
use Rattle.nl_inode.specs.Nodes.{Spaces}
use Rattle.nl_meta.specs.Committed.{VirtualMap}
use Rattle.nl_meta.specs.Nodes.{pointer_at}
use Rattle.nl_meta.specs.Pages.{Pages}
use Rattle.nl_journal.specs.Progress.{Progress}
use Rattle.nl_spec_holders.specs.Lists.{ListLoses}
use Rattle.nl_meta_running.specs.Running.{running_on}
use Rattle.nl_files.specs.CutRuns.{CutsOn}
use Rattle.nl_files.specs.InstalledRuns.{InstallsOn}
use Rattle.nl_files.specs.Spans.{as_list, pointers_from}
use Rattle.nl_files.specs.Standing.{tag_of}
use Rattle.nl_journal_commit.specs.Holding.{running_holders}
use Rattle.nl_journal_commit.specs.Standing.{IsJournaled}
use Rattle.nl_spec_commits.specs.Held.{IsHeldVolume}

-- The volume is held over the same device, with these pages in memory: those in flight are these, and these await their free behind the
-- others. As many pages are held as before.
pub record KeepsVolumeHeld {D : Type 0} (g : Ghosts D) (s : D) (p : Progress) (old now : Pages) (flight later : List (Tag × Pointer)) (freeing : List Pointer) (leaving : ℕ)
    (gone : List Pointer) : Type 0 where
  pub held : IsHeldVolume g s p now later (freeing ++ gone) leaving
  pub as_many : length (running_holders g s now) + length later + length (freeing ++ gone)
      ≡ length (running_holders g s old) + length flight + length freeing

-- A page in flight is installed in a file: the one that the index had awaits its free.
abbrev pub InstallingHolds : {D : Type 0} → Ghosts D → Type 0
InstallingHolds {D} g =
    (s : D) (p : Progress) (flight later : List (Tag × Pointer)) (freeing : List Pointer) (n index size : ℕ) (to : Pointer)
    (was is : InodeRec) (old new written : Pages) (f t : Spaces) (leaving : ℕ)
    → IsVolumeShape (g.shape s) → IsJournaled g s p old → IsHeldVolume g s p old flight freeing leaving
    → InstallsOn g s n index to size was is old new written f t
    → ListLoses tagged (tag_of n was index, to) flight later
    → KeepsVolumeHeld g s p old written flight later freeing leaving (as_list (pointer_at (running_on g s old) was index))

-- what a cut takes from a file: the pointers wholly behind the size, and that of the index in which the file ends where another one comes
abbrev pub cut_off : VirtualMap → InodeRec → ℕ → Option Pointer → List Pointer
cut_off pages was size partial =
    pointers_from pages was (div_ceil size 4096) ++ (if is_some partial then as_list (pointer_at pages was (size / 4096)) else [])

-- the pages in flight lose the one that comes, if any does
abbrev pub LosesGiven : Tag → Option Pointer → List (Tag × Pointer) → List (Tag × Pointer) → Type 0
LosesGiven tag None flight later = later ≡ flight
LosesGiven tag (Some to) flight later = ListLoses tagged (tag, to) flight later

-- A file is cut, and the page in which it ends may be another one that was in flight: what the file lost awaits its free.
abbrev pub CuttingHolds : {D : Type 0} → Ghosts D → Type 0
CuttingHolds {D} g =
    (s : D) (p : Progress) (flight later : List (Tag × Pointer)) (freeing : List Pointer) (n size : ℕ) (partial : Option Pointer)
    (was is : InodeRec) (old new written : Pages) (f t : Spaces) (leaving : ℕ)
    → IsVolumeShape (g.shape s) → IsJournaled g s p old → IsHeldVolume g s p old flight freeing leaving
    → CutsOn g s n size partial was is old new written f t
    → IfSome partial (λ to. (size % 4096 ≢ 0) × (is_none_pointer to ≡ false)) → LosesGiven (tag_of n was (size / 4096)) partial flight later
    → KeepsVolumeHeld g s p old written flight later freeing leaving (cut_off (running_on g s old) was size partial)
