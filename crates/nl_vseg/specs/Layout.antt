-- What a virtual segment keeps: the place of each address, the table of its blocks, and which pages can be programmed next.
use Rattle.std.specs.Prelude.{◌≡◌, ◌⊎◌, ℕ, ◌+◌, ◌-◌, ◌*◌, ◌/◌, ◌^◌, ◌<◌, ◌≤◌, nat_le, nat_lt, Bool, true, false, cond, not, ◌&&◌, ◌||◌, List, length, map, slice_index_or, Option, Some, IsTrue}
use Rattle.nl_field.specs.Page.{Image, erased, page_at}
use Rattle.nl_field.specs.Spelling.{is_stamp}
use Rattle.std.specs.List.{range_with_len}
use Rattle.nl_blocks.specs.Table.{Table, block_at, is_free, free_count, wear_of}
use Rattle.nl_vseg.specs.Places.{PlacesShow, IsUnmapped, place_of}
use Rattle.nl_vseg.specs.Segment.{Segment}
use Rattle.nl_vseg.specs.declared.place.Place.{Place}

-- The place of each address, the table of its blocks, which of them are erased before use, and the active block with the
-- number of its pages that are used. The first block of the segment is number 0.
pub record Layout : Type 0 where
  pub places : List (Option Place)
  pub table : Table
  pub soiled : List Bool
  pub active : ℕ
  pub used : ℕ

-- the same segment where each page of the active block is used
abbrev pub closed : Layout → Layout
closed seg = record seg { used = seg.table.size }

-- the number behind the last page
abbrev pub bound : Layout → ℕ
bound seg = length seg.table.blocks * seg.table.size

abbrev pub is_soiled : Layout → ℕ → Bool
is_soiled seg block = slice_index_or seg.soiled block false

abbrev pub block_is_free : Table → ℕ → Bool
block_is_free table block = is_free (block_at table block)

-- some block holds no page of the map
pub record LayoutHasUnmapped (seg : Layout) : Type 0 where
  pub block : ℕ
  pub within : block < length seg.table.blocks
  pub unmapped : IsUnmapped seg.table.size seg.places block

-- two segments have as many addresses, and as many blocks of as many pages
pub record SameLayoutShape (old new : Layout) : Type 0 where
  pub addresses : length new.places ≡ length old.places
  pub blocks : length new.table.blocks ≡ length old.table.blocks
  pub pages : new.table.size ≡ old.table.size

-- how many pages can be programmed before the segment cleans: those of the active block that are not used, and those of
-- the Free blocks but one
abbrev pub room : Layout → ℕ
room seg = cond (nat_le 1 (free_count seg.table)) ((seg.table.size - seg.used) + (free_count seg.table - 1) * seg.table.size) 0

-- the page is one of the active block that is not used
abbrev pub IsNextOfActive : Layout → ℕ → Type 0
IsNextOfActive seg p = (seg.active * seg.table.size + seg.used ≤ p) × (p < seg.active * seg.table.size + seg.table.size)

-- The segment takes the page as erased: it is one of the active block that is not used, or one of a Free block that was not
-- told to be soiled.
abbrev pub LayoutTakesAsErased : Layout → ℕ → Type 0
LayoutTakesAsErased seg p =
    (p < bound seg)
    × (IsNextOfActive seg p ⊎ ((block_is_free seg.table (p / seg.table.size) ≡ true) × (is_soiled seg (p / seg.table.size) ≡ false)))

-- whether a page is taken as erased, as a test
unfoldable pub takes_as_erased : Layout → ℕ → Bool
takes_as_erased seg p = nat_lt p (bound seg)
    && ((nat_le (seg.active * seg.table.size + seg.used) p && nat_lt p (seg.active * seg.table.size + seg.table.size))
    || (block_is_free seg.table (p / seg.table.size) && not (is_soiled seg (p / seg.table.size))))

-- the choice for each page
unfoldable pub blanks : Layout → List Bool
blanks seg = map (takes_as_erased seg) (range_with_len 0 (bound seg))

-- the wear of each block
unfoldable pub wears_of : Table → List ℕ
wears_of table = map wear_of table.blocks

-- what users see of it
abbrev pub shown : Layout → Segment
shown seg = record {
  places = seg.places;
  pages = seg.table.size;
  bound = bound seg;
  room = room seg;
  blank = blanks seg;
  wears = wears_of seg.table;
  next = seg.active * seg.table.size + seg.used;
  left = seg.table.size - seg.used;
  soiled = seg.soiled;
}

-- The image is one of this segment: each place holds its address, and what the segment takes as erased is erased.
pub record IsLayoutOf (image : Image) (seg : Layout) : Type 0 where
  pub holds : PlacesShow image seg.places
  pub blank : (p : ℕ) → LayoutTakesAsErased seg p → page_at image p ≡ erased

-- A place is below the bound, and not one of the next pages of the active block.
pub record IsPlace (pages bound active used : ℕ) (place : Place) : Type 0 where
  pub within : place.page < bound
  pub behind : (place.page < active * pages + used) ⊎ (active * pages + pages ≤ place.page)
  pub spelled : IsTrue (is_stamp place.stamp)

-- each place is one
pub record ArePlaces (pages bound active used : ℕ) (places : List (Option Place)) : Type 0 where
  pub each : (v : ℕ) (place : Place) → place_of places v ≡ Some place → IsPlace pages bound active used place

-- each place is in a block that is not Free
abbrev pub AreInUse : Table → List (Option Place) → Type 0
AreInUse table places = (v : ℕ) (place : Place) → place_of places v ≡ Some place → block_is_free table (place.page / table.size) ≡ false

-- What holds of every segment. The addresses fill four blocks less than there are.
pub record IsLayout (seg : Layout) : Type 0 where
  pub first : seg.table.first ≡ 0
  pub some : 0 < seg.table.size
  pub numbers : length seg.table.blocks * seg.table.size < 2 ^ 32
  pub marks : length seg.soiled ≡ length seg.table.blocks
  pub few : length seg.places + 4 * seg.table.size ≤ length seg.table.blocks * seg.table.size
  pub active_is : seg.active < length seg.table.blocks
  pub used_fits : seg.used ≤ seg.table.size
  pub taken : seg.used < seg.table.size → block_is_free seg.table seg.active ≡ false
  pub places_are : ArePlaces seg.table.size (length seg.table.blocks * seg.table.size) seg.active seg.used seg.places
  pub in_use : AreInUse seg.table seg.places
