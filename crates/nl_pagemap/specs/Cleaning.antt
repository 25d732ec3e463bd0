-- What a cleaning of a page-mapped device does.
use Rattle.std.specs.Prelude.{◌≡◌, ◌⊎◌, ℕ, ◌+◌, ◌<◌, ◌≤◌, None}
use Rattle.nl_iface.specs.Space.{Space}
use Rattle.nl_pagemap.specs.Mapped.{Mapped, in_use, named_at, page_live, untried_in, untried_of}
use Rattle.nl_pagemap.specs.declared.pagemap.Pagemap.{Pagemap}
use Rattle.nl_vseg.specs.Places.{map_of}

-- The block is one of the physical segment, and each of its pages was tried since it was erased last.
pub record IsFull (s : Mapped) (block : ℕ) : Type 0 where
  pub from : s.shape.vblocks ≤ block
  pub below : block < s.shape.blocks
  pub full : untried_of s.shape s.untried block ≡ 0

-- And one of them is not in use.
pub record CanBeCleaned (s : Mapped) (block : ℕ) : Type 0 where
  pub full : IsFull s block
  pub dead : in_use s block < s.shape.pages

-- Of the blocks that can be cleaned none has fewer pages in use.
pub record IsCleanedFirst (s : Mapped) (block : ℕ) : Type 0 where
  pub can : CanBeCleaned s block
  pub fewest : (other : ℕ) → CanBeCleaned s other → in_use s block ≤ in_use s other

-- The block was cleaned that is cleaned first. As many pages more can be tried as it had dead ones.
abbrev pub CleansFirst : Mapped → Mapped → Type 0
CleansFirst s t = (block : ℕ) × IsCleanedFirst s block × (untried_in t + in_use s block ≡ untried_in s + s.shape.pages)

-- The block was cleaned that is cleaned first. As many pages more can be tried as it had dead ones. As long as one block's pages are kept
-- back, there is so much more room.
pub record GainsDead (s t : Mapped) : Type 0 where
  pub block : ℕ
  pub chosen : IsCleanedFirst s block
  pub untried : untried_in t + in_use s block ≡ untried_in s + s.shape.pages
  pub room : s.shape.pages ≤ untried_in s → t.room + in_use s block ≡ s.room + s.shape.pages

-- The addresses have what they had, and so have the numbers in use. What is stored under a number that is not in use may be gone.
pub record KeepsNumbers (tells : Type 0) (s t : Mapped) : Type 0 where
  pub shape : t.shape ≡ s.shape
  pub vseg : t.vseg ≡ s.vseg
  pub next : t.next ≡ s.next
  pub count : t.count ≡ s.count
  pub live : (n : ℕ) → page_live t.table n ≡ page_live s.table n
  pub map : tells → (v : ℕ) → map_of t.vseg.places t.image v ≡ map_of s.vseg.places s.image v
  pub stored : tells → (n : ℕ) → (named_at t n ≡ named_at s n) ⊎ ((page_live s.table n ≡ None) × (named_at t n ≡ None))

-- As many pages were copied as the block has fewer in use.
abbrev pub CopiesFrom : ℕ → Mapped → Mapped → Type 0
CopiesFrom block s t = untried_in t + in_use s block ≡ untried_in s + in_use t block

-- the numbers of the space are the same, but for the room and the blocks that it fills
abbrev pub ChangesRoom : Space → Space → Type 0
ChangesRoom s t = t ≡ record s { room = t.room; free = t.free }

-- the medium that a device has and gives back
abbrev pub medium_of : {M : Type 0} → Pagemap M → M
medium_of d = d.media
