-- What a virtual segment is to those who use it: the map of its addresses, and which pages it takes as erased.
use Rattle.std.specs.Prelude.{◌≡◌, ℕ, ◌+◌, ◌*◌, ◌≤◌, Bool, true, false, List, length, slice_index_or, Option}
use Rattle.nl_field.specs.Page.{Image, erased, page_at}
use Rattle.nl_nand.specs.declared.geometry.Geometry.{Geometry}
use Rattle.nl_vseg.specs.Places.{PlacesShow, IsUnmapped}
use Rattle.nl_vseg.specs.declared.place.Place.{Place}

-- The place of each address; the pages of a block, and the number behind the last page of the segment; how many pages can be
-- programmed before the segment cleans; for each page, whether the segment takes it as erased; how often each block was
-- erased, as its pages record it; the next page of the block that is written to, and how many from it on are not used in that block;
-- for each block, whether it is erased before use. The pages and the blocks of the segment are the first ones of the medium.
pub record Segment : Type 0 where
  pub places : List (Option Place)
  pub pages : ℕ
  pub bound : ℕ
  pub room : ℕ
  pub blank : List Bool
  pub wears : List ℕ
  pub next : ℕ
  pub left : ℕ
  pub soiled : List Bool

-- the segment takes the page of this number as erased
abbrev pub is_taken_as_erased : Segment → ℕ → Bool
is_taken_as_erased seg p = slice_index_or seg.blank p false

-- the block of this number is erased before use, where none of its pages is in use
abbrev pub is_erased_first : Segment → ℕ → Bool
is_erased_first seg block = slice_index_or seg.soiled block false

-- how often the block of this number was erased
abbrev pub wear_of : Segment → ℕ → ℕ
wear_of seg block = slice_index_or seg.wears block 0

-- some block holds no page of the map
pub record SegmentHasUnmapped (seg : Segment) : Type 0 where
  pub block : ℕ
  pub within : block * seg.pages + seg.pages ≤ seg.bound
  pub unmapped : IsUnmapped seg.pages seg.places block

-- two segments have as many addresses, as many pages, and blocks of as many pages
pub record SameSize (old new : Segment) : Type 0 where
  pub addresses : length new.places ≡ length old.places
  pub same_pages : new.pages ≡ old.pages
  pub same_bound : new.bound ≡ old.bound

-- the medium has blocks of as many pages, and at least as many pages
pub record FitsSegment (geometry : Geometry) (seg : Segment) : Type 0 where
  pub same_pages : geometry.pages ≡ seg.pages
  pub within : seg.bound ≤ geometry.blocks * geometry.pages

-- The image is one of this segment: the page of each place shows the address and its number, and what the segment takes as
-- erased is erased.
pub record IsSegmentOf (image : Image) (seg : Segment) : Type 0 where
  pub holds : PlacesShow image seg.places
  pub erased_is : (p : ℕ) → is_taken_as_erased seg p ≡ true → page_at image p ≡ erased
