-- A volume that runs over a device runs on, where a pointer is installed in a file and its record written back.
use Rattle.std.specs.Prelude.{◌≡◌, ℕ, ◌<◌, length, IsSome, IsTrue}
use Rattle.nl_field.specs.Spelling.{is_stamp}
use Rattle.nl_field.specs.declared.inode.InodeRec.{InodeRec}
use Rattle.nl_field.specs.declared.inode.Kind.TheVariants.{File}
use Rattle.nl_field.specs.declared.pointer.Pointer.{Pointer}
use Rattle.nl_iface.specs.Device.{IsVolumeShape}
use Rattle.nl_iface.specs.declared.counts.Counts.{Ghosts}
use Rattle.nl_inode.specs.FreeLaws.{PoolIsFree}
use Rattle.nl_inode.specs.Nodes.{PutsNode, Spaces, page_of_node}
use Rattle.nl_indirect.specs.Ranges.{HasRange}
use Rattle.nl_meta.specs.Nodes.{is_physical_name}
use Rattle.nl_meta.specs.Pages.{Pages, page_of}
use Rattle.nl_meta.specs.Steps.{ChangesRunningPages}
use Rattle.nl_meta_running.specs.Running.{IsNodeOf, RunningIsRight, running_on}
use Rattle.nl_files.specs.InstallLaws.{FileIsInstalled}
use Rattle.nl_files.specs.Installing.{Installs}

-- A pointer to the physical segment is installed in file n, and the record is written back with this size. The pages that have the record
-- and the pointer are resident.
pub record InstallsOn {D : Type 0} (g : Ghosts D) (s : D) (n index : ℕ) (to : Pointer) (size : ℕ) (was is : InodeRec)
    (old new written : Pages) (f t : Spaces) : Type 0 where
  pub is_node : IsNodeOf g s old n was
  pub is_file : was.kind ≡ File
  pub within : index < 4104
  pub spelled : IsTrue (is_stamp to.stamp)
  pub physical : IsTrue (is_physical_name (g.shape s) to)
  pub there : IsSome (page_of old (page_of_node n))
  pub range : HasRange (page_of old) was index
  pub count : length f.pool ≡ (g.shape s).meta
  pub free : PoolIsFree (g.shape s) (running_on g s old) f
  pub installs : Installs index to was is old new f t
  pub puts : PutsNode n (record is { size = size }) new written

-- A volume runs, with the pointer so installed in the file, and no page was lost.
pub record RunsInstalled {D : Type 0} (g : Ghosts D) (s : D) (n index : ℕ) (to : Pointer) (was is : InodeRec) (old written : Pages)
    (f t : Spaces) : Type 0 where
  pub runs : RunningIsRight g s written
  pub installed : FileIsInstalled (g.shape s) n index to was is (running_on g s old) (running_on g s written) f t
  pub pages : ChangesRunningPages old written

abbrev pub InstalledRuns : {D : Type 0} → Ghosts D → Type 0
InstalledRuns {D} g =
    (s : D) (n index : ℕ) (to : Pointer) (size : ℕ) (was is : InodeRec) (old new written : Pages) (f t : Spaces) → IsVolumeShape (g.shape s)
    → RunningIsRight g s old
    → InstallsOn g s n index to size was is old new written f t
    → RunsInstalled g s n index to was (record is { size = size }) old written f t
