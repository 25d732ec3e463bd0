-- What the calls of an opening do to a segment.
use Rattle.std.specs.Prelude.{◌≡◌, ℕ, ◌+◌, ◌*◌, ◌/◌, ◌<◌, ◌≤◌, true, false, cond, [], replicate, slice_set, Some, None}
use Rattle.nl_field.specs.Page.{Image}
use Rattle.nl_field.specs.declared.shape.Shape.{Shape}
use Rattle.nl_pseg.specs.Segment.{CanSpareBlock, InSegment, IsClean, IsNextToProgram, IsNextCopy, KeepsBlock, Physical, TakenAsErased, erasures, is_free, is_kept, is_waiting, room, soiled}
use Rattle.nl_pseg.specs.Space.{IsWhole}
use Rattle.nl_pseg.specs.Steps.{SameRange}
use Rattle.nl_pseg.specs.declared.held.Held.{Held}

-- A segment of this shape of which nothing was used: every block is Free, no page is live, there is no pair, no victim is in hand,
-- and every page is taken as erased.
pub record IsNewSegment (shape : Shape) (seg : Physical) : Type 0 where
  pub first : seg.first ≡ shape.vblocks
  pub blocks : seg.blocks ≡ shape.blocks
  pub pages : seg.size ≡ shape.pages
  pub live : seg.held ≡ replicate (shape.blocks * shape.pages) None
  pub pairs : seg.pairs ≡ []
  pub pair_room : seg.pair_room ≡ 4 * shape.pages
  pub free : seg.free ≡ shape.pblocks
  pub each : (block : ℕ) → seg.first ≤ block → block < seg.blocks → is_free seg block ≡ true
  pub left : seg.left ≡ 0
  pub copies : seg.copy_left ≡ 0
  pub room : room seg + shape.pages ≡ shape.pblocks * shape.pages
  pub victim : seg.victim ≡ None
  pub wears : (block : ℕ) → erasures seg block ≡ 0
  pub erased : (page : ℕ) → InSegment seg page → TakenAsErased seg page
  pub clean : IsClean seg
  pub kept : KeepsBlock seg
  pub whole : IsWhole seg
  pub spare : (image : Image) → CanSpareBlock image seg

-- The page holds this, and nothing more is programmed in its block.
pub record LoadsPage (page : ℕ) (h : Held) (old new : Physical) : Type 0 where
  pub range : SameRange old new
  pub held : new.held ≡ slice_set old.held page (Some h)
  pub victim : new.victim ≡ old.victim
  pub here : is_free new (page / old.size) ≡ false
  pub free : new.free + cond (is_free old (page / old.size)) 1 0 ≡ old.free
  pub others : (block : ℕ) → (block ≡ page / old.size → ⊥)
      → (is_free new block ≡ is_free old block) × (is_kept new block ≡ is_kept old block)
  pub left : new.left ≤ old.left
  pub same_soiled : new.soiled ≡ old.soiled
  pub wears : (block : ℕ) → erasures new block ≡ erasures old block
  pub next : (p : ℕ) → IsNextToProgram new p → IsNextToProgram old p
  pub copies : (p : ℕ) → IsNextCopy new p → IsNextCopy old p
  pub erased : (p : ℕ) → TakenAsErased new p → TakenAsErased old p × (p / old.size ≡ page / old.size → ⊥)
  pub still : (p : ℕ) → TakenAsErased old p → (p / old.size ≡ page / old.size → ⊥) → TakenAsErased new p

-- The block does not read as erased, and was erased so often. Nothing more is programmed in it; else the segment is as it was.
pub record Soils (block wear : ℕ) (old new : Physical) : Type 0 where
  pub range : SameRange old new
  pub held : new.held ≡ old.held
  pub pairs : (new.pairs ≡ old.pairs) × (new.pair_room ≡ old.pair_room)
  pub victim : new.victim ≡ old.victim
  pub free : new.free ≡ old.free
  pub same : (other : ℕ) → (is_free new other ≡ is_free old other) × (is_kept new other ≡ is_kept old other)
  pub waits : (other : ℕ) → is_waiting new other ≡ is_waiting old other
  pub left : new.left ≤ old.left
  pub told : soiled new block ≡ Some wear
  pub others_told : (other : ℕ) → (other ≡ block → ⊥) → soiled new other ≡ soiled old other
  pub worn : erasures new block ≡ wear
  pub others_worn : (other : ℕ) → (other ≡ block → ⊥) → erasures new other ≡ erasures old other
  pub next : (p : ℕ) → IsNextToProgram new p → IsNextToProgram old p
  pub copies : (p : ℕ) → IsNextCopy new p → IsNextCopy old p × (p / old.size ≡ block → ⊥)
  pub erased : (p : ℕ) → TakenAsErased new p → TakenAsErased old p × (p / old.size ≡ block → ⊥)
  pub still : (p : ℕ) → TakenAsErased old p → (p / old.size ≡ block → ⊥) → TakenAsErased new p

-- Every block is Free, and no page is left in one that was written to. A block that was in use is erased before use. Where every
-- block was Free, nothing changed.
pub record GivesAllBack (old new : Physical) : Type 0 where
  pub range : SameRange old new
  pub held : new.held ≡ old.held
  pub pairs : (new.pairs ≡ old.pairs) × (new.pair_room ≡ old.pair_room)
  pub victim : new.victim ≡ old.victim
  pub free : new.first + new.free ≡ new.blocks
  pub each : (block : ℕ) → old.first ≤ block → block < old.blocks → (is_free new block ≡ true) × (is_kept new block ≡ true)
  pub left : new.left ≡ 0
  pub copies : new.copy_left ≡ 0
  pub told : (block : ℕ) → old.first ≤ block → block < old.blocks → is_free old block ≡ false → soiled new block ≡ Some (erasures old block)
  pub wears : (block : ℕ) → old.first ≤ block → block < old.blocks → erasures new block ≡ erasures old block
  pub others : (block : ℕ) → is_free old block ≡ true → (soiled new block ≡ soiled old block) × (erasures new block ≡ erasures old block)
  pub erased : (p : ℕ) → TakenAsErased new p → TakenAsErased old p
  pub same : old.first + old.free ≡ old.blocks → new ≡ old
