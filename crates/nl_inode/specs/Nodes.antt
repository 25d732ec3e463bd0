-- The nodes of the running pages, and which numbers and which addresses of the pool are free.
use Rattle.std.specs.Prelude.{◌≡◌, ◌↔◌, ℕ, ◌+◌, ◌-◌, ◌/◌, ◌%◌, ◌^◌, ◌<◌, ◌≤◌, nat_le, Bool, true, false, ◌&&◌, List, [], replicate, Some, unwrap_or}
use Rattle.nl_field.specs.Bytes.{zeros}
use Rattle.nl_field.specs.Inode.{inode_bytes}
use Rattle.nl_field.specs.Pointers.{no_pointer}
use Rattle.nl_field.specs.declared.inode.InodeRec.{InodeRec}
use Rattle.nl_field.specs.declared.inode.Kind.{Kind}
use Rattle.nl_field.specs.declared.shape.Shape.{Shape}
use Rattle.nl_meta.specs.Committed.{VirtualMap}
use Rattle.nl_meta.specs.Consistent.{AddressAt, IsNode}
use Rattle.nl_meta.specs.Nodes.{inode_at}
use Rattle.nl_meta.specs.Pages.{Pages, page_of}
use Rattle.nl_meta.specs.SlotLaws.{ChangesSlot, with_slot}
use Rattle.nl_meta.specs.Steps.{with_dirty}
use Rattle.nl_inode.specs.Free.{Becomes, is_free}

-- ---- records

-- the address of the page that has a node
abbrev pub page_of_node : ℕ → ℕ
page_of_node n = 67 + n / 16

-- The node has this record, and its page is dirty; each other node, and each other page, has the bytes that it had.
pub record PutsNode (n : ℕ) (rec : InodeRec) (old new : Pages) : Type 0 where
  pub node : inode_at (page_of new) n ≡ Some rec
  pub others : ChangesSlot 256 (page_of_node n) (n % 16) (page_of old) (page_of new)
  pub page : new ≡ with_dirty old (page_of_node n) (with_slot 256 (n % 16) (inode_bytes rec) (unwrap_or (page_of old (page_of_node n)) []))

-- A node as it is taken: its generation is one more than before, and 2 ^ 32 - 1 is followed by 0.
abbrev pub taken_as : Kind → ℕ → InodeRec
taken_as kind generation =
    record { kind = kind; generation = (generation + 1) % 2 ^ 32; size = 0; direct = replicate 8 no_pointer; addresses = zeros 16 }

-- ---- what is free

-- which numbers of nodes are free, and which addresses, from the first of the pool on
pub record Spaces : Type 0 where
  pub nodes : List Bool
  pub first : ℕ
  pub pool : List Bool

abbrev pub is_free_node : Spaces → ℕ → Bool
is_free_node s n = is_free s.nodes n

abbrev pub is_free_address : Spaces → ℕ → Bool
is_free_address s a = nat_le s.first a && is_free s.pool (a - s.first)

-- a is a free address, and no lesser one is.
pub record IsLeastAddress (a : ℕ) (s : Spaces) : Type 0 where
  pub free_itself : is_free_address s a ≡ true
  pub least : (b : ℕ) → b < a → is_free_address s b ≡ false

-- A node is free or not from now on; every other one, and each address, as before.
pub record NodeBecomes (n : ℕ) (b : Bool) (old new : Spaces) : Type 0 where
  pub nodes : Becomes n b old.nodes new.nodes
  pub first : new.first ≡ old.first
  pub pool : new.pool ≡ old.pool

-- An address is free or not from now on; every other one, and each node, as before.
pub record AddressBecomes (a : ℕ) (b : Bool) (old new : Spaces) : Type 0 where
  pub nodes : new.nodes ≡ old.nodes
  pub first : new.first ≡ old.first
  pub pool : Becomes (a - old.first) b old.pool new.pool

-- What is free is exactly what the pages do not use.
pub record AreFree (shape : Shape) (pages : VirtualMap) (s : Spaces) : Type 0 where
  pub nodes : (n : ℕ) → n < shape.nodes → (is_free_node s n ≡ true) ↔ ((rec : InodeRec) → IsNode shape pages n rec → ⊥)
  pub pool : (a : ℕ) → 67 + shape.inode_pages ≤ a → a < shape.vaddrs
      → (is_free_address s a ≡ true) ↔ ((n slot : ℕ) → AddressAt shape pages n slot a → ⊥)
