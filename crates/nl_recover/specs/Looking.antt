-- Where a walk looks: two maps of pages that are alike there have one first fault.
use Rattle.std.specs.Prelude.{◌≡◌, ℕ, ◌+◌, ◌<◌, ◌≤◌, List}
use Rattle.nl_field.specs.Numbers.{ShapeBounds}
use Rattle.nl_field.specs.declared.seen.Seen.{Seen}
use Rattle.nl_field.specs.declared.shape.Shape.{Shape}
use Rattle.nl_meta.specs.Committed.{VirtualMap}
use Rattle.nl_meta.specs.Consistent.{AddressAt}
use Rattle.nl_meta.specs.Walk.{walk_over}
use Rattle.nl_recover.specs.Loading.{IsTableAddress}

pub record LooksAlike (shape : Shape) (old new : VirtualMap) : Type 0 where
  -- the super page and the pages of nodes
  pub tables : (u : ℕ) → IsTableAddress shape u → new u ≡ old u
  -- the addresses of used nodes that lie in the pool
  pub slots : (n slot a : ℕ) → AddressAt shape old n slot a → 67 + shape.inode_pages ≤ a → a < shape.vaddrs → new a ≡ old a

abbrev pub WalksAlike : Type 0
WalksAlike =
    (shape : Shape) (old new : VirtualMap) (seen : List Seen) → ShapeBounds shape → LooksAlike shape old new
    → walk_over shape new seen ≡ walk_over shape old seen
