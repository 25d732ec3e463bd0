-- What the calls that make room need, and what they leave.
use Rattle.std.specs.Prelude.{◌≡◌, ℕ, ◌<◌, List, Option, true, false}
use Rattle.nl_field.specs.declared.answers.VirtualWrite.{VirtualWrite}
use Rattle.nl_nand.specs.declared.nand.Nand.{Ghosts}
use Rattle.nl_vseg.specs.Answers.{IsLostWrite, LosesPlaceStamp}
use Rattle.nl_vseg.specs.Copying.{SetsFree, SameFreeBlocks}
use Rattle.nl_vseg.specs.Effects.{CallIsCounted, KeepsMap}
use Rattle.nl_vseg.specs.Layout.{IsLayoutOf, SameLayoutShape, block_is_free, bound, wears_of}
use Rattle.nl_vseg.specs.Operations.{Operates, snapshot}
use Rattle.nl_vseg.specs.Places.{IsUnmapped, map_of, stamp_for}
use Rattle.nl_vseg.specs.Seen.{seen, FitsLayout, IsVirtualFormed}
use Rattle.nl_vseg.specs.Used.{IsClosed}
use Rattle.nl_vseg.specs.declared.place.Place.{Place}
use Rattle.nl_vseg.specs.declared.state.State.{State}

-- The state stands on the medium: the medium has the pages of its blocks, and where it tells its contents they are of its segment.
pub record IsStateOfMedium {M : Type 0} (g : Ghosts M) (s : State) (medium : M) : Type 0 where
  pub formed : IsVirtualFormed s
  pub fits : FitsLayout (g.geometry medium) (seen s)
  pub segment : g.tells → IsLayoutOf (g.contents medium) (seen s)

-- The state stands on the medium after the call, with as many addresses and blocks. Each address has its number and its value, also
-- after a stop. The medium was programmed and erased as the wears tell, has its numbers, and counts what failed.
pub record KeepsValues {M : Type 0} (g : Ghosts M) (failed : Type 0) (s t : State) (old new : M) : Type 0 where
  pub stands : IsStateOfMedium g t new
  pub shape : SameLayoutShape (seen s) (seen t)
  pub stamps : (v : ℕ) → stamp_for t.places.items v ≡ stamp_for s.places.items v
  pub map : g.tells → KeepsMap g.clock g.contents g.left s.blocks.size (bound (seen s)) (map_of s.places.items (g.contents old))
      (map_of t.places.items (g.contents new)) old new
  pub operates : Operates g.tells s.blocks.size (snapshot (wears_of s.blocks) (g.clock old) (g.contents old))
      (snapshot (wears_of t.blocks) (g.clock new) (g.contents new))
  pub geometry : g.geometry new ≡ g.geometry old
  pub counts : CallIsCounted g.clock g.read_faults g.write_faults old new failed

-- Lost tells the number of an address and another one that was found. It is never answered where the medium tells its contents.
pub record LosesUntold (told : Type 0) (places : List (Option Place)) (answer : VirtualWrite) : Type 0 where
  pub lost : LosesPlaceStamp places answer
  pub kept : told → IsLostWrite answer → ⊥

-- The block is Free, and none of its pages can be programmed next. The places, the active block and the other blocks stay.
pub record FreesBlock (block : ℕ) (s t : State) : Type 0 where
  pub same_places : t.places.items ≡ s.places.items
  pub same_active : t.active ≡ s.active
  pub used : IsClosed block s.blocks t.blocks
  pub states : SetsFree block true s.blocks t.blocks

-- The block that was active is Free, and no page can be programmed next. The places stay.
pub record GivesBackActive (s t : State) : Type 0 where
  pub same_places : t.places.items ≡ s.places.items
  pub closed : (seen t).used ≡ t.blocks.size
  pub states : SetsFree s.active true s.blocks t.blocks

-- A block that was Free is the active one, and none of its pages is used.
pub record OpensActiveBlock (s t : State) : Type 0 where
  pub taken : SetsFree t.active false s.blocks t.blocks
  pub begins : (seen t).used ≡ 0
  pub was_free : block_is_free s.blocks t.active ≡ true

-- The victim holds no page of the map, the active block took what it held and has pages left, and the same blocks are Free.
pub record Vacates (victim : ℕ) (s t : State) : Type 0 where
  pub unmapped : IsUnmapped t.blocks.size t.places.items victim
  pub states : SameFreeBlocks s.blocks t.blocks
  pub same_active : t.active ≡ s.active
  pub left : (seen t).used < t.blocks.size
