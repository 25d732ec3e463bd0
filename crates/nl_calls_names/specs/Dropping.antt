-- A node without a name becomes unused, and what it had is free again.
use Rattle.std.specs.Prelude.{◌≡◌, ℕ, true, [], replicate, Some}
use Rattle.nl_field.specs.Bytes.{zeros}
use Rattle.nl_field.specs.Pointers.{no_pointer}
use Rattle.nl_field.specs.declared.inode.InodeRec.{InodeRec}
use Rattle.nl_field.specs.declared.inode.Kind.TheVariants.{Unused}
use Rattle.nl_files.specs.Cutting.{AreOfPool, GivesBackAddresses}
use Rattle.nl_inode.specs.Nodes.{NodeBecomes, PutsNode, Spaces}
use Rattle.nl_meta.specs.Nodes.{inode_at, slots_of}
use Rattle.nl_meta.specs.Pages.{Pages, page_of}

-- an unused node: it has nothing but its generation
abbrev pub unused_as : ℕ → InodeRec
unused_as generation = record { kind = Unused; generation = generation; size = 0; direct = replicate 8 no_pointer; addresses = zeros 16 }

-- the addresses of the node are of the pool
abbrev pub HasOfPool : ℕ → Pages → Spaces → Type 0
HasOfPool n pages s = (rec : InodeRec) → inode_at (page_of pages) n ≡ Some rec → AreOfPool s (slots_of rec)

-- The node is unused, of its last generation. Its addresses and its number are free, and all else is free or not as before.
pub record DropsNode (n : ℕ) (old new : Pages) (s t : Spaces) : Type 0 where
  pub rec : InodeRec
  pub was : inode_at (page_of old) n ≡ Some rec
  pub puts : PutsNode n (unused_as rec.generation) old new
  pub between : Spaces
  pub addresses : GivesBackAddresses (slots_of rec) [] s between
  pub number : NodeBecomes n true between t
