-- What is done to the pages in memory.
use Rattle.std.specs.Prelude.{◌≡◌, ◌≢◌, None, IsSome, false}
use Rattle.nl_field.specs.Pointers.{is_none_pointer}
use Rattle.nl_field.specs.declared.inode.InodeRec.{InodeRec}
use Rattle.nl_field.specs.declared.pointer.Pointer.{Pointer}
use Rattle.nl_field.specs.declared.pointer.Tag.{Tag}
use Rattle.nl_indirect.specs.Ranges.{HasRange, IsFileRecord, address_of}
use Rattle.nl_indirect.specs.Storing.{Stores}
use Rattle.nl_indirect.specs.declared.answer.Stored.TheVariants.{Done}
use Rattle.nl_inode.specs.Nodes.{PutsNode, page_of_node}
use Rattle.nl_meta.specs.Nodes.{pointer_at}
use Rattle.nl_meta.specs.Pages.{Pages, page_of}

-- The page of the node is resident, and so is the page that has the pointer where the tag says; there is a pointer.
pub record TaggedPointerIsResident (p : Pages) (tag : Tag) (rec : InodeRec) : Type 0 where
  pub node : IsSome (page_of p (page_of_node tag.ino))
  pub file : IsFileRecord rec
  pub range : HasRange (page_of p) rec tag.index
  pub some : is_none_pointer (pointer_at (page_of p) rec tag.index) ≡ false

-- The pointer is stored at the index, and the record is written back where it has the pointer itself.
pub record RenamesIn (tag : Tag) (to : Pointer) (was : InodeRec) (old new : Pages) : Type 0 where
  pub is : InodeRec
  pub stored : Pages
  pub stores : Stores tag.index to None was is old stored Done
  pub direct : address_of was tag.index ≡ 0 → PutsNode tag.ino is stored new
  pub indirect : address_of was tag.index ≢ 0 → new ≡ stored
