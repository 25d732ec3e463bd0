-- A volume that runs over a device runs on, where a file is cut and the record of its node written back.
use Rattle.std.specs.Prelude.{◌≡◌, ◌≢◌, ℕ, ◌/◌, ◌<◌, ◌≤◌, Option, IfSome, IsSome, IsTrue}
use Rattle.std.specs.Int.{div_ceil}
use Rattle.nl_field.specs.Numbers.{ShapeBounds}
use Rattle.nl_field.specs.Pointers.{no_pointer}
use Rattle.nl_field.specs.declared.inode.InodeRec.{InodeRec}
use Rattle.nl_field.specs.declared.inode.Kind.TheVariants.{File}
use Rattle.nl_field.specs.declared.pointer.Pointer.{Pointer}
use Rattle.nl_field.specs.declared.shape.Shape.{Shape}
use Rattle.nl_iface.specs.Device.{IsVolumeShape}
use Rattle.nl_iface.specs.declared.counts.Counts.{Ghosts}
use Rattle.nl_inode.specs.FreeLaws.{NodesAreFree, PoolIsFree}
use Rattle.nl_inode.specs.Nodes.{PutsNode, Spaces, page_of_node}
use Rattle.nl_indirect.specs.Ranges.{HasRange}
use Rattle.nl_meta.specs.Committed.{VirtualMap}
use Rattle.nl_meta.specs.Consistent.{IsNode}
use Rattle.nl_meta.specs.Nodes.{graph_of, is_physical_name, pointer_at}
use Rattle.nl_meta.specs.Pages.{Pages, page_of}
use Rattle.nl_meta.specs.Running.{CleanIsStored, running_over}
use Rattle.nl_meta.specs.Steps.{ChangesRunningPages}
use Rattle.nl_meta_running.specs.FileLaws.{ChangesFileRecord, IsRight}
use Rattle.nl_meta_running.specs.Running.{IsNodeOf, RunningIsRight, running_on}
use Rattle.nl_files.specs.Cutting.{Cuts}

-- File n of a volume that is right is cut, over this device, and its record is written back. The pages that have the record and the pointer
-- of the index in which the file ends are resident, and a pointer that is given names a page of the physical segment.
pub record WritesCut (shape : Shape) (device : VirtualMap) (n size : ℕ) (partial : Option Pointer) (was is : InodeRec)
    (old new written : Pages) (s t : Spaces) : Type 0 where
  pub bounds : ShapeBounds shape
  pub right : IsRight shape (running_over device old)
  pub is_node : IsNode shape (running_over device old) n was
  pub is_file : was.kind ≡ File
  pub clean : CleanIsStored device old
  pub physical : IfSome partial (λ p. IsTrue (is_physical_name shape p))
  pub there : IsSome (page_of old (page_of_node n))
  pub range : HasRange (page_of old) was (size / 4096)
  pub cuts : Cuts size partial was is old new s t
  pub puts : PutsNode n is new written

-- All is right again. Of the file each index wholly behind the size has no pointer, that in which it ends the one that is given, if any,
-- and each other index what it had; every other node has what it had. What is free stays exactly what no node has.
pub record CutIsWritten (shape : Shape) (n size : ℕ) (partial : Option Pointer) (was is : InodeRec) (before after : VirtualMap)
    (s t : Spaces) : Type 0 where
  pub changes : ChangesFileRecord shape before after n was is
  pub right : IsRight shape after
  pub others : (k : ℕ) → k ≢ n → graph_of shape after k ≡ graph_of shape before k
  pub gone : (i : ℕ) → div_ceil size 4096 ≤ i → pointer_at after is i ≡ no_pointer
  pub replaced : IfSome partial (λ p. pointer_at after is (size / 4096) ≡ p)
  pub kept : (i : ℕ) → i < div_ceil size 4096 → (IsSome partial → i ≢ size / 4096) → pointer_at after is i ≡ pointer_at before was i
  pub nodes : NodesAreFree shape before s → NodesAreFree shape after t
  pub pool : PoolIsFree shape before s → PoolIsFree shape after t

abbrev pub OneCutIsWritten : Type 0
OneCutIsWritten =
    (shape : Shape) (device : VirtualMap) (n size : ℕ) (partial : Option Pointer) (was is : InodeRec) (old new written : Pages)
    (s t : Spaces)
    → WritesCut shape device n size partial was is old new written s t
    → CutIsWritten shape n size partial was is (running_over device old) (running_over device written) s t

-- ---- over a device that may tell nothing

pub record CutsOn {D : Type 0} (g : Ghosts D) (s : D) (n size : ℕ) (partial : Option Pointer) (was is : InodeRec) (old new written : Pages)
    (f t : Spaces) : Type 0 where
  pub is_node : IsNodeOf g s old n was
  pub is_file : was.kind ≡ File
  pub physical : IfSome partial (λ p. IsTrue (is_physical_name (g.shape s) p))
  pub there : IsSome (page_of old (page_of_node n))
  pub range : HasRange (page_of old) was (size / 4096)
  pub cuts : Cuts size partial was is old new f t
  pub puts : PutsNode n is new written

-- A volume runs, with the file so cut, and no page was lost.
pub record RunsCut {D : Type 0} (g : Ghosts D) (s : D) (n size : ℕ) (partial : Option Pointer) (was is : InodeRec) (old written : Pages)
    (f t : Spaces) : Type 0 where
  pub runs : RunningIsRight g s written
  pub cut : CutIsWritten (g.shape s) n size partial was is (running_on g s old) (running_on g s written) f t
  pub pages : ChangesRunningPages old written

abbrev pub CutRuns : {D : Type 0} → Ghosts D → Type 0
CutRuns {D} g =
    (s : D) (n size : ℕ) (partial : Option Pointer) (was is : InodeRec) (old new written : Pages) (f t : Spaces) → IsVolumeShape (g.shape s)
    → RunningIsRight g s old
    → CutsOn g s n size partial was is old new written f t → RunsCut g s n size partial was is old written f t
