-- A file is cut, and the record of its node is written back.
use Rattle.std.specs.Prelude.{ℕ, Option}
use Rattle.nl_field.specs.declared.inode.InodeRec.{InodeRec}
use Rattle.nl_field.specs.declared.pointer.Pointer.{Pointer}
use Rattle.nl_inode.specs.Nodes.{PutsNode, Spaces}
use Rattle.nl_meta.specs.Pages.{Pages}
use Rattle.nl_files.specs.Cutting.{Cuts}

-- The file is cut to the size, and the node's page has the record.
pub record CutsTo (n size : ℕ) (partial : Option Pointer) (was is : InodeRec) (old new : Pages) (s t : Spaces) : Type 0 where
  pub between : Pages
  pub cuts : Cuts size partial was is old between s t
  pub puts : PutsNode n is between new
