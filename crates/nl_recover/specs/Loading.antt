-- What it means that pages of a device become resident.
use Rattle.std.specs.Prelude.{◌≡◌, ◌⊎◌, ℕ, ◌+◌, ◌<◌, ◌≤◌, length, IsSome}
use Rattle.nl_field.specs.declared.shape.Shape.{Shape}
use Rattle.nl_meta.specs.Committed.{VirtualMap}
use Rattle.nl_meta.specs.PageLaws.{IsApart}
use Rattle.nl_meta.specs.Pages.{Pages, page_of}
use Rattle.nl_meta.specs.Running.{running_over}

-- Pages of a device that has these bytes were made resident, none of them the journal's. Each page that was there stays, and nothing else
-- changes.
pub record LoadsMetadata (tells : Type 0) (stored : VirtualMap) (old new : Pages) : Type 0 where
  pub count : length new.running ≡ length old.running
  pub dirty : new.dirty ≡ old.dirty
  pub frozen : new.frozen ≡ old.frozen
  pub kept : (u : ℕ) → IsSome (page_of old u) → page_of new u ≡ page_of old u
  pub each : (u : ℕ) → (page_of new u ≡ page_of old u) ⊎ (tells → page_of new u ≡ running_over stored old u)
  pub apart : (u : ℕ) → IsSome (page_of new u) → IsSome (page_of old u) ⊎ IsApart u

-- What the address has is resident, where it has anything.
abbrev pub Settled : Type 0 → VirtualMap → Pages → Pages → ℕ → Type 0
Settled tells stored old new u = tells → page_of new u ≡ running_over stored old u

-- the super page and the pages of nodes
abbrev pub IsTableAddress : Shape → ℕ → Type 0
IsTableAddress shape u = (u ≡ 0) ⊎ ((67 ≤ u) × (u < 67 + shape.inode_pages))

-- an address of the pool
abbrev pub IsPoolAddress : Shape → ℕ → Type 0
IsPoolAddress shape a = (67 + shape.inode_pages ≤ a) × (a < shape.vaddrs)
