-- A file takes a pointer at an index, and the record of its node is written back.
use Rattle.std.specs.Prelude.{◌≡◌, ℕ, ◌+◌, ◌<◌, ◌==◌, nat_lt, if◌then◌else◌, length}
use Rattle.nl_field.specs.declared.inode.InodeRec.{InodeRec}
use Rattle.nl_field.specs.declared.pointer.Pointer.{Pointer}
use Rattle.nl_inode.specs.Nodes.{PutsNode, Spaces, page_of_node}
use Rattle.nl_indirect.specs.Ranges.{address_of}
use Rattle.nl_meta.specs.Pages.{Pages, besides_0, is_dirty, most}
use Rattle.nl_files.specs.Installing.{Installs}

-- how many pages become dirty where the page of an address does
abbrev pub clean_at : Pages → ℕ → ℕ
clean_at pages address = if is_dirty pages address then 0 else 1

-- how many pages become dirty where the page with the pointer of an index does: one for a new page of pointers, and none where the node has
-- the pointer
abbrev pub clean_of : Pages → InodeRec → ℕ → ℕ
clean_of pages rec index = if nat_lt index 8 then 0 else if address_of rec index == 0 then 1 else clean_at pages (address_of rec index)

-- The page of the node and that of the pointer may become dirty, and one more.
abbrev pub HasRoomToTake : Pages → InodeRec → ℕ → ℕ → Type 0
HasRoomToTake pages rec n index = length (besides_0 pages.dirty) + clean_at pages (page_of_node n) + clean_of pages rec index < most

-- The index has the pointer, the file has the size, and the node's page has the record.
pub record TakesPage (n index : ℕ) (to : Pointer) (size : ℕ) (was is : InodeRec) (old new : Pages) (s t : Spaces) : Type 0 where
  pub installed : InodeRec
  pub between : Pages
  pub installs : Installs index to was installed old between s t
  pub sized : is ≡ record installed { size = size }
  pub puts : PutsNode n is between new
