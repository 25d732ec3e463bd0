-- What the write of an address does to the segment and to its medium.
use Rattle.std.specs.Prelude.{◌≡◌, ℕ, ◌+◌, ◌<◌, List, true}
use Rattle.nl_field.specs.CrashStates.{Earlier}
use Rattle.nl_nand.specs.declared.nand.Nand.{Ghosts}
use Rattle.nl_vseg.specs.Effects.{CallIsCounted, BlockIsProgrammed}
use Rattle.nl_vseg.specs.Operations.{Operates, snapshot}
use Rattle.nl_vseg.specs.Places.{AreBelow}
use Rattle.nl_vseg.specs.Segment.{IsSegmentOf, SegmentHasUnmapped, SameSize, Segment, is_taken_as_erased, wear_of}
use Rattle.nl_vseg.specs.Storing.{WritesStamp, WritesValue}

-- Once the write is done the address has the value and the others have theirs; else each has its own. A stop leaves the one or the
-- other. The medium was programmed and erased as the wears tell, has its numbers, and counts what finished and what failed.
pub record WritesValueAt {M : Type 0} (g : Ghosts M) (v s : ℕ) (main : List ℕ) (done failed : Type 0) (seg now : Segment)
    (old new : M) : Type 0 where
  pub stamps : WritesStamp v s done seg.places now.places
  pub value : g.tells → WritesValue g.clock g.write_faults g.contents g.left v s main done seg now old new
  pub operates : Operates g.tells seg.pages (snapshot seg.wears (g.clock old) (g.contents old))
      (snapshot now.wears (g.clock new) (g.contents new))
  pub geometry : g.geometry new ≡ g.geometry old
  pub ticks : done → Earlier (g.clock old) (g.clock new)
  pub counts : CallIsCounted g.clock g.read_faults g.write_faults old new failed

-- No block was cleaned: one page was programmed, in a block that was erased first where it had to be.
pub record WritesDirectly {M : Type 0} (g : Ghosts M) (v s : ℕ) (main : List ℕ) (seg now : Segment) (old new : M) : Type 0 where
  pub less : now.room + 1 ≡ seg.room
  pub programmed : g.tells → (block : ℕ)
      × BlockIsProgrammed seg.pages seg.bound block v s (wear_of now block) main (g.contents old) (g.contents new)

-- The segment still serves: it has as many addresses and pages, its places and what it takes as erased are pages of its own, some block
-- holds no page of the map, and the medium is one of the segment.
pub record StillServes {M : Type 0} (g : Ghosts M) (seg now : Segment) (medium : M) : Type 0 where
  pub spare : SegmentHasUnmapped now
  pub numbers : SameSize seg now
  pub below : AreBelow now.bound now.places
  pub within : (p : ℕ) → is_taken_as_erased now p ≡ true → p < now.bound
  pub segment : g.tells → IsSegmentOf (g.contents medium) now
