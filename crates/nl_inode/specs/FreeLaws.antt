-- What is free stays exactly what the pages do not use, where a node or an address is taken and used, or no longer used and given.
use Rattle.std.specs.Prelude.{◌≡◌, ◌≢◌, ◌↔◌, ℕ, ◌+◌, ◌≤◌, ◌<◌, ◌%◌, true, false, Some}
use Rattle.nl_field.specs.declared.inode.InodeRec.{InodeRec}
use Rattle.nl_field.specs.declared.inode.Kind.TheVariants.{Unused}
use Rattle.nl_field.specs.declared.shape.Shape.{Shape}
use Rattle.nl_meta.specs.Committed.{VirtualMap}
use Rattle.nl_meta.specs.Consistent.{AddressAt, IsNode}
use Rattle.nl_meta.specs.Nodes.{inode_at}
use Rattle.nl_meta.specs.SlotLaws.{ChangesSlot}
use Rattle.nl_inode.specs.Nodes.{AddressBecomes, NodeBecomes, Spaces, is_free_address, is_free_node, page_of_node}

-- The free numbers of nodes are those that no used node has.
pub record NodesAreFree (shape : Shape) (pages : VirtualMap) (s : Spaces) : Type 0 where
  pub each : (n : ℕ) → n < shape.nodes → (is_free_node s n ≡ true) ↔ ((rec : InodeRec) → IsNode shape pages n rec → ⊥)

-- a used node has the address
abbrev pub UsesAddress : Shape → VirtualMap → ℕ → Type 0
UsesAddress shape pages a = (n : ℕ) × (slot : ℕ) × AddressAt shape pages n slot a

-- The free addresses of the pool are those that no used node has.
pub record PoolIsFree (shape : Shape) (pages : VirtualMap) (s : Spaces) : Type 0 where
  pub first : s.first ≡ 67 + shape.inode_pages
  pub each : (a : ℕ) → s.first ≤ a → a < shape.vaddrs → (is_free_address s a ≡ true) ↔ (UsesAddress shape pages a → ⊥)

-- Of two maps of pages one has this record at a node, and the same bytes of every other node.
pub record NodeIs (n : ℕ) (rec : InodeRec) (old new : VirtualMap) : Type 0 where
  pub at : inode_at new n ≡ Some rec
  pub others : ChangesSlot 256 (page_of_node n) (n % 16) old new

-- Every other address is used as before.
abbrev pub UsesOthers : Shape → ℕ → VirtualMap → VirtualMap → Type 0
UsesOthers shape a old new = (b : ℕ) → b ≢ a → UsesAddress shape new b ↔ UsesAddress shape old b

pub record FreeLaws (shape : Shape) (old new : VirtualMap) (s t : Spaces) : Type 0 where
  -- a node was taken and is used
  pub node_taken : (n : ℕ) (rec : InodeRec) → NodesAreFree shape old s → NodeBecomes n false s t → NodeIs n rec old new → rec.kind ≢ Unused
      → NodesAreFree shape new t
  -- a node is used no longer and was given
  pub node_given : (n : ℕ) (rec : InodeRec) → NodesAreFree shape old s → NodeBecomes n true s t → NodeIs n rec old new → rec.kind ≡ Unused
      → NodesAreFree shape new t
  -- a used node has another record
  pub node_changed : (n : ℕ) (rec : InodeRec) → NodesAreFree shape old s → is_free_node s n ≡ false → NodeIs n rec old new
      → rec.kind ≢ Unused → NodesAreFree shape new s
  pub address_taken : (a : ℕ) → PoolIsFree shape old s → s.first ≤ a → AddressBecomes a false s t → UsesOthers shape a old new
      → UsesAddress shape new a → PoolIsFree shape new t
  pub address_given : (a : ℕ) → PoolIsFree shape old s → s.first ≤ a → AddressBecomes a true s t → UsesOthers shape a old new
      → (UsesAddress shape new a → ⊥) → PoolIsFree shape new t

abbrev pub FreeIsUnused : Type 0
FreeIsUnused = (shape : Shape) (old new : VirtualMap) (s t : Spaces) → FreeLaws shape old new s t
