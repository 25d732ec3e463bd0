-- When a memory is in order.
use Rattle.std.specs.Prelude.{◌≡◌, ℕ, ◌+◌, ◌*◌, ◌/◌, ◌<◌, ◌≤◌, List, length, replicate, Option, Some, None}
use Rattle.nl_field.specs.Medium.{first_physical}
use Rattle.nl_field.specs.Numbers.{ShapeBounds}
use Rattle.nl_field.specs.declared.shape.Shape.{Shape}
use Rattle.nl_iface.specs.Device.{IsVolumeShape}
use Rattle.nl_testkit_still.specs.Still.{label_at, stamp_at}
use Rattle.nl_testkit_still.specs.declared.still.Label.{Label}
use Rattle.nl_testkit_still.specs.declared.still.Still.{Still}

-- what was written on a page below this one, one from the first on, under a stamp below this one
pub record IsLabel (first given next p : ℕ) (l : Label) : Type 0 where
  pub from : first ≤ p
  pub below : p < given
  pub some : 1 ≤ l.stamp
  pub stamp : l.stamp < next

-- The lists have their lengths. Pages were written from the first of the segment on, no two under one stamp, and a live page is one of
-- them; those that can be written are the others but the last block.
pub record IsStill (s : Still) : Type 0 where
  pub volume : IsVolumeShape s.shape
  pub bounds : ShapeBounds s.shape
  pub labels : length s.labels.items ≡ s.shape.blocks * s.shape.pages
  pub live : length s.live.items ≡ s.shape.blocks * s.shape.pages
  pub pages : length s.pages.items ≡ s.shape.blocks * s.shape.pages
  pub stamps : length s.stamps.items ≡ s.shape.vaddrs
  pub values : length s.values.items ≡ s.shape.vaddrs
  pub written : (p : ℕ) (l : Label) → label_at s.labels.items p ≡ Some l → IsLabel (first_physical s.shape) s.given s.next p l
  pub differ : (p q : ℕ) (a b : Label) → label_at s.labels.items p ≡ Some a → label_at s.labels.items q ≡ Some b → a.stamp ≡ b.stamp → p ≡ q
  pub holds : (p : ℕ) (l : Label) → label_at s.live.items p ≡ Some l → label_at s.labels.items p ≡ Some l
  pub from : first_physical s.shape ≤ s.given
  pub room : s.given + s.room + s.shape.pages ≡ s.shape.blocks * s.shape.pages
  pub free : s.free ≡ 1 + s.room / s.shape.pages
  pub some : 1 ≤ s.next
  pub addresses : (v t : ℕ) → stamp_at s.stamps.items v ≡ Some t → t < s.next

-- nothing is written
pub record IsFreshStill (numbers : Shape) (s : Still) : Type 0 where
  pub shape : s.shape ≡ numbers
  pub labels : s.labels.items ≡ replicate (numbers.blocks * numbers.pages) None
  pub live : s.live.items ≡ replicate (numbers.blocks * numbers.pages) None
  pub stamps : s.stamps.items ≡ replicate numbers.vaddrs None
  pub next : s.next ≡ 1
  pub clock : s.clock ≡ 0
  pub failed : s.failed ≡ 0
