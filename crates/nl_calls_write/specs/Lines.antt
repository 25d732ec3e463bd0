-- A worker's pages in flight for a call that writes.
use Rattle.std.specs.Prelude.{◌≡◌, ℕ, ◌<◌, ◌≤◌, true, length, map, Option, Some}
use Rattle.nl_field.specs.declared.inode.InodeRec.{InodeRec}
use Rattle.nl_field.specs.declared.pointer.Pointer.{Pointer}
use Rattle.nl_field.specs.declared.pointer.Tag.{Tag}
use Rattle.nl_tree.specs.Represents.{node_reached}
use Rattle.nl_tree.specs.Tree.{Tree}
use Rattle.nl_tree.specs.declared.call.Call.{Call}
use Rattle.nl_core_callbacks.specs.Handled.{nameless_line}
use Rattle.nl_flight.specs.Flight.{of_worker}
use Rattle.nl_iface.specs.declared.counts.Counts.{Ghosts}
use Rattle.nl_meta.specs.Consistent.{PageOfStamp}
use Rattle.nl_spec_commits.specs.DeviceLaws.{Extends}
use Rattle.nl_core.specs.Goes.{PreservesVolume}
use Rattle.nl_core.specs.Programming.{HasLineOrNone, with_page}
use Rattle.nl_core.specs.Trees.{CoreRepresentsTree}
use Rattle.nl_core.specs.declared.state.Core.{Core}
use Rattle.nl_calls_files.specs.Fits.{IsFileOf}
use Rattle.nl_calls_bytes.specs.Ranges.{IsWriting, path_of}
use Rattle.nl_calls_bytes.specs.InFlight.{AreOfCall, AreWritten, is_flying}
use Rattle.nl_calls_steps.specs.Lines.{worker_pages}
use Rattle.nl_calls_steps.specs.Finding.{IsSomeFile, nodes_of}
use Rattle.nl_calls_steps.specs.Calls.{OtherLinesStay}
use Rattle.nl_calls_write.specs.Making.{content_at}

-- The core runs as the tree, and the worker's pages are as the call leaves them.
pub record RepresentsWith {D : Type 0} (g : Ghosts D) (v : Core D) (worker : ℕ) (call : Call) (page_of_stamp : ℕ → Option PageOfStamp) (tree : Tree) : Type 0 where
  pub pages : ℕ → Option PageOfStamp
  pub extends : Extends page_of_stamp pages
  pub runs : CoreRepresentsTree g v pages tree
  pub written : AreWritten pages (content_at tree call) call (worker_pages v worker)

-- Where the core ran as a tree and the worker's pages were as the call leaves them, they are still.
abbrev pub KeepsWritten : {D : Type 0} → Ghosts D → ℕ → Call → Core D → Core D → Type 0
KeepsWritten g worker call old new =
    g.tells → (page_of_stamp : ℕ → Option PageOfStamp) (tree : Tree) → CoreRepresentsTree g old page_of_stamp tree
    → AreWritten page_of_stamp (content_at tree call) call (worker_pages old worker)
    → RepresentsWith g new worker call page_of_stamp tree

-- while the medium tells its contents, the core runs as some tree, and the worker's pages are as the call leaves them
abbrev pub RepresentsWritten : {D : Type 0} → Ghosts D → ℕ → Call → Core D → Type 0
RepresentsWritten g worker call v =
    g.tells → (page_of_stamp : ℕ → Option PageOfStamp) × (tree : Tree) × RepresentsWith g v worker call page_of_stamp tree

-- the node is a file, and the worker's pages are those of the call for it
abbrev pub IsLineOfCall : {D : Type 0} → Ghosts D → Core D → ℕ → ℕ → Call → Type 0
IsLineOfCall g v n worker call =
    (rec : InodeRec) × IsFileOf g v.device v.meta n rec × AreOfCall n rec.generation call (worker_pages v worker)

-- The worker's pages are those of the call, as it leaves them in a file of this generation, or none: all else stays.
pub record KeepsLine {D : Type 0} (g : Ghosts D) (n generation worker line : ℕ) (call : Call) (old new : Core D) : Type 0 where
  pub goes : PreservesVolume g 0 old new
  pub stopped : new.stopped ≡ old.stopped
  pub pages : AreOfCall n generation call (worker_pages new worker)
  pub written : RepresentsWritten g worker call new
  pub has_line : HasLineOrNone new.flight worker line
  pub few : (w : ℕ) → length (of_worker new.flight w).pages ≤ 16
  pub others : OtherLinesStay worker old.flight new.flight

-- What holds before pages of a call are put in flight for a worker's line: the volume can be written, and the path of the call leads to the
-- file.
pub record CanPut {D : Type 0} (g : Ghosts D) (v : Core D) (worker line : ℕ) (call : Call) (n : ℕ) : Type 0 where
  pub writes : v.stopped ≡ 0
  pub known : worker < 8
  pub some : 0 < line
  pub has_line : HasLineOrNone v.flight worker line
  pub writing : IsWriting call
  pub leads : node_reached (nodes_of g v) 0 (path_of call) ≡ Some n
  pub file : IsSomeFile g v n

-- The core went on, and at most pages of the call were put in flight for the worker.
pub record PutsOn {D : Type 0} (g : Ghosts D) (most worker : ℕ) (call : Call) (old new : Core D) : Type 0 where
  pub goes : PreservesVolume g most old new
  pub written : KeepsWritten g worker call old new
  pub others : OtherLinesStay worker old.flight new.flight

-- One page of this tag is in flight behind the others of the worker's line, which are those of before but for the names of their pages.
pub record AddsFlightPage {D : Type 0} (worker line : ℕ) (tag : Tag) (old new : Core D) : Type 0 where
  pub at : Pointer
  pub flight : map nameless_line new.flight ≡ map nameless_line (with_page old.flight worker line tag at)
  pub stamp : 1 ≤ at.stamp

-- The worker's pages are those of the call on. A page of this index is among them, and for each index of before one is.
pub record HasIndex {D : Type 0} (n generation worker line : ℕ) (call : Call) (index : ℕ) (old new : Core D) : Type 0 where
  pub pages : AreOfCall n generation call (worker_pages new worker)
  pub here : is_flying (worker_pages new worker) index ≡ true
  pub stay : (i : ℕ) → is_flying (worker_pages old worker) i ≡ true → is_flying (worker_pages new worker) i ≡ true
  pub has_line : HasLineOrNone new.flight worker line
