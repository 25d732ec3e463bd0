-- What it means for a volume that one of its files changes.
use Rattle.std.specs.Prelude.{◌≡◌, ◌≢◌, ℕ, ◌*◌, ◌<◌, Some}
use Rattle.nl_field.specs.Numbers.{ShapeBounds}
use Rattle.nl_field.specs.declared.inode.InodeRec.{InodeRec}
use Rattle.nl_field.specs.declared.inode.Kind.TheVariants.{File}
use Rattle.nl_field.specs.declared.shape.Shape.{Shape}
use Rattle.nl_meta.specs.Committed.{VirtualMap}
use Rattle.nl_meta.specs.Consistent.{AddressAt, AddressesRight, EntriesRight, GoodAddress, IsNode, NamesPhysical, NodesRight}
use Rattle.nl_meta.specs.Nodes.{bytes_of_node, graph_of, inode_at}

-- Nodes, addresses and entries of the map are right.
pub record IsRight (shape : Shape) (pages : VirtualMap) : Type 0 where
  pub nodes : NodesRight shape pages
  pub addresses : AddressesRight shape pages
  pub entries : EntriesRight shape pages

-- Node n has another record, which is still a file's of its generation.
pub record ChangesFileRecord (shape : Shape) (old new : VirtualMap) (n : ℕ) (was is : InodeRec) : Type 0 where
  pub node_before : IsNode shape old n was
  pub file_before : was.kind ≡ File
  pub node_after : inode_at new n ≡ Some is
  pub file_after : is.kind ≡ File
  pub generation : is.generation ≡ was.generation
  pub direct : NamesPhysical shape is.direct
  -- each other node, and each place for one, has the bytes that it had
  pub others : (m : ℕ) → m ≢ n → m < 16 * shape.inode_pages → bytes_of_node new m ≡ bytes_of_node old m
  -- each address of another node has its page
  pub pages : (m slot a : ℕ) → m ≢ n → AddressAt shape old m slot a → new a ≡ old a
  -- the addresses of the file are good, no two are the same, and none is another node's
  pub good : (slot a : ℕ) → AddressAt shape new n slot a → GoodAddress shape new File a
  pub one_use : (slot slot' a : ℕ) → AddressAt shape new n slot a → AddressAt shape new n slot' a → slot ≡ slot'
  pub apart : (slot a m slot' : ℕ) → AddressAt shape new n slot a → AddressAt shape old m slot' a → m ≡ n

-- All is right again, and every other node has what it had.
pub record StaysRight (shape : Shape) (old new : VirtualMap) (n : ℕ) : Type 0 where
  pub right : IsRight shape new
  pub others : (k : ℕ) → k ≢ n → graph_of shape new k ≡ graph_of shape old k

abbrev pub OneFileChanges : Type 0
OneFileChanges =
    (shape : Shape) (old new : VirtualMap) (n : ℕ) (was is : InodeRec) → ShapeBounds shape → IsRight shape old
    → ChangesFileRecord shape old new n was is → StaysRight shape old new n
