-- What it means for a volume that a file is cut.
use Rattle.std.specs.Prelude.{◌≡◌, ◌≢◌, ℕ, ◌+◌, ◌/◌, ◌%◌, Option, Some}
use Rattle.nl_field.specs.Numbers.{ShapeBounds}
use Rattle.nl_field.specs.declared.inode.InodeRec.{InodeRec}
use Rattle.nl_field.specs.declared.inode.Kind.TheVariants.{File}
use Rattle.nl_field.specs.declared.pointer.Pointer.{Pointer}
use Rattle.nl_field.specs.declared.shape.Shape.{Shape}
use Rattle.nl_meta.specs.Committed.{VirtualMap}
use Rattle.nl_meta.specs.Consistent.{AddressesRight, IsNode}
use Rattle.nl_meta.specs.Nodes.{graph_of, inode_at, pointer_at}
use Rattle.nl_meta.specs.Pages.{Pages}
use Rattle.nl_meta.specs.PointerLists.{IsFile}
use Rattle.nl_meta.specs.Running.{CleanIsStored, running_over}
use Rattle.nl_meta.specs.SlotLaws.{ChangesSlot}
use Rattle.nl_inode.specs.FreeLaws.{PoolIsFree}
use Rattle.nl_inode.specs.Nodes.{Spaces}
use Rattle.nl_files.specs.Cutting.{Cuts}

-- A cut of node n of a volume whose addresses are right. Afterwards the node has the record that the call left, and every other node the
-- bytes that it had.
pub record CutsAt (shape : Shape) (device : VirtualMap) (n size : ℕ) (partial : Option Pointer) (was is : InodeRec) (old new : Pages)
    (s t : Spaces) (after : VirtualMap) : Type 0 where
  pub bounds : ShapeBounds shape
  pub right : AddressesRight shape (running_over device old)
  pub is_node : IsNode shape (running_over device old) n was
  pub is_file : was.kind ≡ File
  pub clean : CleanIsStored device old
  pub cuts : Cuts size partial was is old new s t
  pub node : inode_at after n ≡ Some is
  pub others : ChangesSlot 256 (67 + n / 16) (n % 16) (running_over device new) after

-- The file has the pointers that the cut left, and every other node of the graph what it had. What is free of the pool stays exactly what
-- no used node has.
pub record FileIsCut (shape : Shape) (n : ℕ) (was is : InodeRec) (before cut after : VirtualMap) (s t : Spaces) : Type 0 where
  pub file_before : IsFile shape before n was
  pub file_after : IsFile shape after n is
  pub pointers : (i : ℕ) → pointer_at after is i ≡ pointer_at cut is i
  pub other_nodes : (k : ℕ) → k ≢ n → graph_of shape after k ≡ graph_of shape before k
  pub free : PoolIsFree shape before s → PoolIsFree shape after t

abbrev pub OneFileIsCut : Type 0
OneFileIsCut =
    (shape : Shape) (device : VirtualMap) (n size : ℕ) (partial : Option Pointer) (was is : InodeRec) (old new : Pages) (s t : Spaces)
    (after : VirtualMap)
    → CutsAt shape device n size partial was is old new s t after
    → FileIsCut shape n was is (running_over device old) (running_over device new) after s t
