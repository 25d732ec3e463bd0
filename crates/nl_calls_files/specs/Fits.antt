-- What a volume that runs gives for the calls on one of its files.
use Rattle.std.specs.Prelude.{◌≡◌, ℕ, ◌<◌, List, length}
use Rattle.nl_field.specs.declared.inode.InodeRec.{InodeRec}
use Rattle.nl_field.specs.declared.inode.Kind.TheVariants.{File}
use Rattle.nl_field.specs.declared.pointer.Pointer.{Pointer}
use Rattle.nl_field.specs.declared.pointer.Tag.{Tag}
use Rattle.nl_iface.specs.Calls.{OnlyReads}
use Rattle.nl_iface.specs.Device.{IsVolumeShape}
use Rattle.nl_iface.specs.declared.counts.Counts.{Ghosts}
use Rattle.nl_inode.specs.FreeLaws.{PoolIsFree}
use Rattle.nl_inode.specs.Nodes.{Spaces}
use Rattle.nl_meta.specs.Nodes.{slots_of}
use Rattle.nl_meta.specs.Pages.{Pages, besides_0, most}
use Rattle.nl_journal.specs.Progress.{Progress}
use Rattle.nl_meta_running.specs.Running.{IsNodeOf, RunningIsRight, PreservesRunning, running_on}
use Rattle.nl_files.specs.Cutting.{AreOfPool}
use Rattle.nl_files.specs.Installing.{FreeAreNewToFile}
use Rattle.nl_files.specs.Standing.{FileIsAtHand, KeepsRunning, LoadsOwn, PointersLead}
use Rattle.nl_spec_commits.specs.Held.{IsHeldVolume}

-- node n is a file and has this record
pub record IsFileOf {D : Type 0} (g : Ghosts D) (s : D) (pages : Pages) (n : ℕ) (rec : InodeRec) : Type 0 where
  pub is_node : IsNodeOf g s pages n rec
  pub is_file : rec.kind ≡ File

-- The addresses of a file have pages at hand that spell pointers.
abbrev pub FilesAreAtHand : {D : Type 0} → Ghosts D → Type 0
FilesAreAtHand {D} g = (s : D) (pages : Pages) (n : ℕ) (rec : InodeRec) → RunningIsRight g s pages → IsFileOf g s pages n rec → FileIsAtHand g s rec pages

-- The pointers of a file lead, where each live page is held.
abbrev pub FilesLead : {D : Type 0} → Ghosts D → Type 0
FilesLead {D} g =
    (s : D) (p : Progress) (pages : Pages) (flight : List (Tag × Pointer)) (freeing : List Pointer) (n : ℕ) (rec : InodeRec) (leaving : ℕ)
    → RunningIsRight g s pages → IsHeldVolume g s p pages flight freeing leaving
    → IsFileOf g s pages n rec → PointersLead (g.names s) n rec (running_on g s pages)

-- A call that only reads the file leaves the volume as it was.
abbrev pub FilesReadRun : {D : Type 0} → Ghosts D → Type 0
FilesReadRun {D} g =
    (s t : D) (old new : Pages) (n : ℕ) (rec : InodeRec) → RunningIsRight g s old → IsFileOf g s old n rec → OnlyReads g s t
    → KeepsRunning g s old new → LoadsOwn rec old new → PreservesRunning g s old t new

-- The addresses of a file are of the pool.
abbrev pub FilesOfPool : {D : Type 0} → Ghosts D → Type 0
FilesOfPool {D} g =
    (s : D) (pages : Pages) (spaces : Spaces) (n : ℕ) (rec : InodeRec) → IsVolumeShape (g.shape s) → RunningIsRight g s pages
    → IsFileOf g s pages n rec → PoolIsFree (g.shape s) (running_on g s pages) spaces
    → length spaces.pool ≡ (g.shape s).meta → AreOfPool spaces (slots_of rec)

-- Each free address may become a new page of a file, where one more page may be dirty.
abbrev pub FreeFilePages : {D : Type 0} → Ghosts D → Type 0
FreeFilePages {D} g =
    (s : D) (pages : Pages) (spaces : Spaces) (n : ℕ) (rec : InodeRec) → IsVolumeShape (g.shape s) → RunningIsRight g s pages
    → IsFileOf g s pages n rec → PoolIsFree (g.shape s) (running_on g s pages) spaces
    → length spaces.pool ≡ (g.shape s).meta → length (besides_0 pages.dirty) < most → FreeAreNewToFile spaces pages rec
