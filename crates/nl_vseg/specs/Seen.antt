-- How the state of a virtual segment is seen, and which states are formed.
use Rattle.std.specs.Prelude.{◌≡◌, ◌≤◌, length}
use Rattle.nl_nand.specs.declared.geometry.Geometry.{Geometry}
use Rattle.nl_vseg.specs.Layout.{Layout, IsLayout, shown}
use Rattle.nl_vseg.specs.Segment.{Segment}
use Rattle.nl_vseg.specs.Used.{OpenBlocksAreRisen, used_of}
use Rattle.nl_vseg.specs.declared.state.State.{State}

abbrev pub seen : State → Layout
seen s = record { places = s.places.items; table = s.blocks; soiled = s.soiled.items; active = s.active; used = used_of s.blocks s.active }

-- what users see of a state
abbrev pub segment_of : State → Segment
segment_of s = shown (seen s)

-- what holds of every state
pub record IsVirtualFormed (s : State) : Type 0 where
  pub segment : IsLayout (seen s)
  pub rising : OpenBlocksAreRisen s.blocks
  pub copies : length s.copies.items ≡ length s.places.items
  pub targets : length s.targets.items ≡ s.blocks.size

-- the medium has the pages of the segment's blocks, and at least as many blocks
pub record FitsLayout (geometry : Geometry) (seg : Layout) : Type 0 where
  pub pages : geometry.pages ≡ seg.table.size
  pub blocks : length seg.table.blocks ≤ geometry.blocks
