-- A free node under a new name.
use Rattle.std.specs.Prelude.{◌≡◌, ◌≢◌, ℕ, ◌+◌, ◌%◌, ◌^◌, ◌<◌, false, List, length, IsSome, None, Some}
use Rattle.nl_field.specs.FileContent.{empty_file}
use Rattle.nl_field.specs.declared.entry.EntryRec.{EntryRec}
use Rattle.nl_field.specs.declared.inode.InodeRec.{InodeRec}
use Rattle.nl_field.specs.declared.inode.Kind.{Kind}
use Rattle.nl_field.specs.declared.inode.Kind.TheVariants.{Dir, File, Unused}
use Rattle.nl_meta.specs.Nodes.{address_of_place, entry_named, inode_at}
use Rattle.nl_meta.specs.Pages.{Pages, page_of}
use Rattle.nl_inode.specs.Free.{IsLeastFreeNumber}
use Rattle.nl_inode.specs.Nodes.{NodeBecomes, PutsNode, Spaces, page_of_node, taken_as}
use Rattle.nl_tree.specs.Tree.{Node, directory, file}
use Rattle.nl_namespace.specs.Entering.{FreeAreNewToDirectory, HasDirectory, HasFreeAddress, PutsIn}

-- a new directory, or a file
abbrev pub empty_node : Kind → Node
empty_node Dir = directory
empty_node File = file empty_file
empty_node Unused = file empty_file

-- Node m is free, its page is resident, and it is no page of directory n, in which the name fits.
pub record FitsNew (n m : ℕ) (name : List ℕ) (p : Pages) (free : Spaces) : Type 0 where
  pub rec : InodeRec
  pub has : HasDirectory n rec 3 p
  pub node_there : IsSome (page_of p (page_of_node m))
  pub node_spelled : IsSome (inode_at (page_of p) m)
  pub below : m < length free.nodes
  pub other : n ≢ m
  pub apart : (i : ℕ) → i < rec.size → address_of_place rec i ≢ page_of_node m
  pub few : rec.size < 1024
  pub absent : entry_named (page_of p) rec name ≡ None
  pub address : rec.size % 64 ≡ 0 → HasFreeAddress free
  pub new : FreeAreNewToDirectory rec p free

-- Node m, which was free, has an empty record of the generation after its last one, and the name in directory n.
pub record MakesIn (n m : ℕ) (kind : Kind) (name : List ℕ) (old new : Pages) (s t : Spaces) : Type 0 where
  pub was : InodeRec
  pub had : inode_at (page_of old) m ≡ Some was
  pub between : Pages
  pub free : Spaces
  pub node : PutsNode m (taken_as kind was.generation) old between
  pub taken : NodeBecomes m false s free
  pub entry : EntryRec
  pub is_entry : (entry.ino ≡ m) × (entry.generation ≡ (was.generation + 1) % 2 ^ 32) × (entry.name ≡ name)
  pub puts : PutsIn n entry between new free t

-- The node is the least free one, and a directory of so many entries has room for it.
pub record HasRoomForNode (free : Spaces) (count m : ℕ) : Type 0 where
  pub least : IsLeastFreeNumber m free.nodes
  pub few : count < 1024
  pub address : count % 64 ≡ 0 → HasFreeAddress free
