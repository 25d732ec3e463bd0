-- When the tables of a page-mapped device stand.
use Rattle.std.specs.Prelude.{◌≡◌, ℕ, ◌+◌, ◌-◌, ◌*◌, ◌/◌, ◌^◌, ◌<◌, ◌≤◌, List, length, true, Some}
use Rattle.nl_field.specs.Medium.{first_physical}
use Rattle.nl_field.specs.Numbers.{ShapeBounds}
use Rattle.nl_field.specs.Page.{Image, erased, page_at}
use Rattle.nl_field.specs.declared.shape.Shape.{Shape}
use Rattle.nl_iface.specs.Device.{IsVolumeShape}
use Rattle.nl_nand.specs.declared.geometry.Geometry.{Geometry}
use Rattle.nl_pagemap.specs.Mapped.{Mapped, live_among, untried_in, untried_of}
use Rattle.nl_pagemap_names.specs.Table.{IsTable, Table, entry_at}
use Rattle.nl_pagemap_names.specs.Untried.{used_in}
use Rattle.nl_pagemap_names.specs.declared.entry.Entry.{Entry}
use Rattle.nl_pseg_pages.specs.Pages.{main_of, shown_by}
use Rattle.nl_vseg.specs.Places.{AreBelow, stamp_for}
use Rattle.nl_vseg.specs.Segment.{IsSegmentOf, Segment, is_taken_as_erased}

-- The virtual segment is the first blocks of the medium, with the addresses of the volume.
pub record HasAddresses (shape : Shape) (vseg : Segment) : Type 0 where
  pub pages : vseg.pages ≡ shape.pages
  pub bound : vseg.bound ≡ shape.vblocks * shape.pages
  pub addresses : length vseg.places ≡ shape.vaddrs
  pub below : AreBelow vseg.bound vseg.places
  pub within : (p : ℕ) → is_taken_as_erased vseg p ≡ true → p < vseg.bound

-- The table has an entry for each page of the medium. Its numbers are those of the physical segment, but for the last block.
pub record HasNumbers (shape : Shape) (t : Table) : Type 0 where
  pub table : IsTable t
  pub count : length t.entries ≡ shape.blocks * shape.pages
  pub first : t.first ≡ first_physical shape
  pub last : t.last + shape.pages ≡ shape.blocks * shape.pages

-- Each block of the physical segment has its count of pages that were not tried. Its numbers in use are no more than its other pages.
pub record HasBlocks (shape : Shape) (untried : List ℕ) (t : Table) : Type 0 where
  pub count : length untried ≡ shape.pblocks
  pub few : (block : ℕ) → shape.vblocks ≤ block → block < shape.blocks
      → used_in shape.pages t block + untried_of shape untried block ≤ shape.pages

-- A number was given to a page of the segment that was tried, under a stamp below the next.
pub record IsEntry (shape : Shape) (untried : List ℕ) (last next n : ℕ) (e : Entry) : Type 0 where
  pub from : first_physical shape ≤ n
  pub below : n < last
  pub page_from : first_physical shape ≤ e.page
  pub page_below : e.page < shape.blocks * shape.pages
  pub tried : e.page + untried_of shape untried (e.page / shape.pages) < e.page / shape.pages * shape.pages + shape.pages
  pub some : 1 ≤ e.stamp
  pub stamp : e.stamp < next

-- The image is one of the virtual segment, the page of each entry shows its owner and its stamp, and the pages of the physical segment
-- that were not tried are erased.
pub record IsOnImage (shape : Shape) (untried : List ℕ) (image : Image) (vseg : Segment) (t : Table) : Type 0 where
  pub virtual_is : IsSegmentOf image vseg
  pub holds : (n : ℕ) (e : Entry) → entry_at t n ≡ Some e
      → shown_by (page_at image e.page) ≡ Some (e.tag, e.stamp, main_of (page_at image e.page))
  pub blank : (p : ℕ) → first_physical shape ≤ p
      → p / shape.pages * shape.pages + shape.pages ≤ p + untried_of shape untried (p / shape.pages) → page_at image p ≡ erased

-- The tables fit the volume and each other, no two numbers were last given one stamp, one block's pages are kept back of those that were
-- not tried, and a medium that tells its contents holds what the tables say.
pub record IsMapped (tells : Type 0) (geometry : Geometry) (s : Mapped) : Type 0 where
  pub volume : IsVolumeShape s.shape
  pub bounds : ShapeBounds s.shape
  pub blocks : geometry.blocks ≡ s.shape.blocks
  pub pages : geometry.pages ≡ s.shape.pages
  pub virtual : HasAddresses s.shape s.vseg
  pub numbers : HasNumbers s.shape s.table
  pub counts : HasBlocks s.shape s.untried s.table
  pub entries : (n : ℕ) (e : Entry) → entry_at s.table n ≡ Some e → IsEntry s.shape s.untried s.table.last s.next n e
  pub differ : (n m : ℕ) (d e : Entry) → entry_at s.table n ≡ Some d → entry_at s.table m ≡ Some e → d.stamp ≡ e.stamp → n ≡ m
  pub room : s.room ≡ untried_in s - s.shape.pages
  pub free : s.free ≡ 1 + s.room / s.shape.pages
  pub count : s.count ≡ live_among s.shape s.table
  pub some : 1 ≤ s.next
  pub most : s.next ≤ 2 ^ 63
  pub addresses : (v t : ℕ) → stamp_for s.vseg.places v ≡ Some t → t < s.next
  pub medium : tells → IsOnImage s.shape s.untried s.image s.vseg s.table
