-- What is free, as a walk comes to the nodes.
use Rattle.std.specs.Prelude.{◌≡◌, ℕ, ◌+◌, ◌-◌, ◌==◌, ◌<◌, ◌≤◌, Bool, not, ◌&&◌, if◌then◌else◌, List, [], length, Option, Some, None}
use Rattle.std.specs.List.{list_any}
use Rattle.nl_field.specs.declared.inode.InodeRec.{InodeRec}
use Rattle.nl_field.specs.declared.shape.Shape.{Shape}
use Rattle.nl_inode.specs.Free.{is_free}
use Rattle.nl_inode.specs.Nodes.{Spaces}
use Rattle.nl_meta.specs.Walk.{is_used_kind}

-- the numbers and addresses are those of a volume
pub record SpacesOf (shape : Shape) (s : Spaces) : Type 0 where
  pub nodes : length s.nodes ≡ shape.nodes
  pub first : s.first ≡ 67 + shape.inode_pages
  pub pool : s.first + length s.pool ≡ shape.vaddrs

-- Each of these addresses is in use from now on, and nothing else changes.
pub record TakesAddresses (shape : Shape) (addresses : List ℕ) (old new : Spaces) : Type 0 where
  pub spaces : SpacesOf shape new
  pub nodes : new.nodes ≡ old.nodes
  pub each : (a : ℕ) → 67 + shape.inode_pages ≤ a → a < shape.vaddrs
      → is_free new.pool (a - (67 + shape.inode_pages))
      ≡ (is_free old.pool (a - (67 + shape.inode_pages)) && not (list_any (λ b. b == a) addresses))

-- A node is in use from now on where it is a used one, and each of these addresses; nothing else changes.
pub record TakesNode (shape : Shape) (n : ℕ) (used : Bool) (addresses : List ℕ) (old new : Spaces) : Type 0 where
  pub spaces : SpacesOf shape new
  pub nodes : (m : ℕ) → m < shape.nodes → is_free new.nodes m ≡ (is_free old.nodes m && not (m == n && used))
  pub each : (a : ℕ) → 67 + shape.inode_pages ≤ a → a < shape.vaddrs
      → is_free new.pool (a - (67 + shape.inode_pages))
      ≡ (is_free old.pool (a - (67 + shape.inode_pages)) && not (list_any (λ b. b == a) addresses))

-- the addresses of a used node
abbrev pub taken_by : Option InodeRec → List ℕ
taken_by None = []
taken_by (Some rec) = if is_used_kind rec.kind then rec.addresses else []
