-- What it means for a volume that a pointer is installed in a file, and the record of its node written back.
use Rattle.std.specs.Prelude.{◌≡◌, ◌≢◌, ℕ, ◌<◌, length, IsSome, IsTrue}
use Rattle.nl_field.specs.Numbers.{ShapeBounds}
use Rattle.nl_field.specs.Spelling.{is_stamp}
use Rattle.nl_field.specs.declared.inode.InodeRec.{InodeRec}
use Rattle.nl_field.specs.declared.inode.Kind.TheVariants.{File}
use Rattle.nl_field.specs.declared.pointer.Pointer.{Pointer}
use Rattle.nl_field.specs.declared.shape.Shape.{Shape}
use Rattle.nl_meta.specs.Committed.{VirtualMap}
use Rattle.nl_meta.specs.Consistent.{IsNode}
use Rattle.nl_meta.specs.Nodes.{graph_of, is_physical_name, pointer_at}
use Rattle.nl_meta.specs.Pages.{Pages, page_of}
use Rattle.nl_meta.specs.PointerLists.{ChangesPointer}
use Rattle.nl_meta.specs.Running.{CleanIsStored, running_over}
use Rattle.nl_inode.specs.FreeLaws.{NodesAreFree, PoolIsFree}
use Rattle.nl_inode.specs.Nodes.{PutsNode, Spaces, page_of_node}
use Rattle.nl_indirect.specs.Ranges.{HasRange}
use Rattle.nl_meta_running.specs.FileLaws.{ChangesFileRecord, IsRight}
use Rattle.nl_files.specs.Installing.{Installs}

-- A pointer to the physical segment is installed in file n of a volume that is right, over this device, and the record is written back with
-- this size. The pages that have the record and the pointer are resident.
pub record InstallsAt (shape : Shape) (device : VirtualMap) (n index : ℕ) (to : Pointer) (size : ℕ) (was is : InodeRec)
    (old new written : Pages) (s t : Spaces) : Type 0 where
  pub bounds : ShapeBounds shape
  pub right : IsRight shape (running_over device old)
  pub is_node : IsNode shape (running_over device old) n was
  pub is_file : was.kind ≡ File
  pub within : index < 4104
  pub clean : CleanIsStored device old
  pub spelled : IsTrue (is_stamp to.stamp)
  pub physical : IsTrue (is_physical_name shape to)
  pub there : IsSome (page_of old (page_of_node n))
  pub range : HasRange (page_of old) was index
  pub count : length s.pool ≡ shape.meta
  pub free : PoolIsFree shape (running_over device old) s
  pub installs : Installs index to was is old new s t
  pub puts : PutsNode n (record is { size = size }) new written

-- All is right again, the file has the pointer and else what it had, and every other node what it had. What is free is exactly what no
-- node has.
pub record FileIsInstalled (shape : Shape) (n index : ℕ) (to : Pointer) (was is : InodeRec) (before after : VirtualMap)
    (s t : Spaces) : Type 0 where
  pub changes : ChangesFileRecord shape before after n was is
  pub right : IsRight shape after
  pub others : (k : ℕ) → k ≢ n → graph_of shape after k ≡ graph_of shape before k
  pub pointer : ChangesPointer shape before after n index was is
  pub now : pointer_at after is index ≡ to
  pub nodes : NodesAreFree shape before s → NodesAreFree shape after t
  pub pool : PoolIsFree shape after t

abbrev pub OneFileIsInstalled : Type 0
OneFileIsInstalled =
    (shape : Shape) (device : VirtualMap) (n index : ℕ) (to : Pointer) (size : ℕ) (was is : InodeRec) (old new written : Pages)
    (s t : Spaces)
    → InstallsAt shape device n index to size was is old new written s t
    → FileIsInstalled shape n index to was (record is { size = size }) (running_over device old) (running_over device written) s t
