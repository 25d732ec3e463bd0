-- A device that nothing was written to.
use Rattle.std.specs.Prelude.{◌≡◌, ℕ, ◌+◌, ◌*◌, None}
use Rattle.nl_field.specs.declared.shape.Shape.{Shape}
use Rattle.nl_iface.specs.declared.counts.Counts.{Ghosts}

-- The device has the numbers of the volume. No address was written and no number is in use, and all pages of the physical segment but
-- one block's can be written under new numbers.
pub record IsFreshDevice {D : Type 0} (g : Ghosts D) (shape : Shape) (d : D) : Type 0 where
  pub same_shape : g.shape d ≡ shape
  pub stamps : (v : ℕ) → g.stamps d v ≡ None
  pub live : (n : ℕ) → (g.names d).live n ≡ None
  pub room : (g.names d).space.room + shape.pages ≡ shape.pblocks * shape.pages
  pub next : g.next_stamp d ≡ 1
  pub spare : g.keeps_spare d
