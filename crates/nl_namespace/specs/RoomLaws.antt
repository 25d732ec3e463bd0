-- What it means that nothing is free: all of the volume is used. So where a call has no room, the charges of the tree are at their limits.
use Rattle.std.specs.Prelude.{ℕ, ◌+◌, ◌≤◌, ◌<◌}
use Rattle.nl_field.specs.declared.inode.InodeRec.{InodeRec}
use Rattle.nl_field.specs.declared.shape.Shape.{Shape}
use Rattle.nl_inode.specs.Free.{NoneFree}
use Rattle.nl_inode.specs.FreeLaws.{NodesAreFree, PoolIsFree, UsesAddress}
use Rattle.nl_inode.specs.Nodes.{Spaces}
use Rattle.nl_meta.specs.Committed.{VirtualMap}
use Rattle.nl_meta.specs.Consistent.{IsNode, NodesRight}

-- Where no number is free each node is used, and where no address is free each address of the pool is.
pub record IsCrowded (shape : Shape) (pages : VirtualMap) (free : Spaces) : Type 0 where
  pub nodes : NoneFree free.nodes → (n : ℕ) → n < shape.nodes → (rec : InodeRec) × IsNode shape pages n rec
  pub pool : NoneFree free.pool → (a : ℕ) → 67 + shape.inode_pages ≤ a → a < shape.vaddrs → UsesAddress shape pages a

abbrev pub NoneFreeIsCrowded : Type 0
NoneFreeIsCrowded =
    (shape : Shape) (pages : VirtualMap) (free : Spaces) → NodesRight shape pages → NodesAreFree shape pages free
    → PoolIsFree shape pages free → IsCrowded shape pages free
