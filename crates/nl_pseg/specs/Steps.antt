-- What the steps of a call do to the table of blocks and to the segment.
use Rattle.std.specs.Prelude.{◌≡◌, ◌⊎◌, ℕ, ◌+◌, ◌*◌, ◌/◌, ◌<◌, ◌≤◌, ◌==◌, if◌then◌else◌, true, false, cond, List, length, slice_set, Option, Some, None}
use Rattle.nl_field.specs.CrashStates.{LeavesOnly}
use Rattle.nl_field.specs.Live.{resolve}
use Rattle.nl_field.specs.Page.{Image, Page, erased, page_at}
use Rattle.nl_field.specs.declared.answers.Named.{Named}
use Rattle.nl_field.specs.declared.pointer.Pointer.{Pointer}
use Rattle.nl_field.specs.declared.pointer.Tag.{Tag}
use Rattle.nl_nand.specs.declared.answers.WriteAnswer.{WriteAnswer}
use Rattle.nl_nand.specs.declared.answers.WriteAnswer.TheVariants as wrote
use Rattle.nl_blocks.specs.Table.{Table, HasBlock, block_at}
use Rattle.nl_pseg.specs.Answers.{IfPlaced, IsWriteFault, IsPlaced}
use Rattle.nl_pseg.specs.Effects.{PreservesSegment}
use Rattle.nl_pseg.specs.Segment.{InSegment, Physical, IsClean, IsDead, IsNextToProgram, IsNextCopy, IsPhysicalOf, NeedsNoErase, IsSpent, IsUnspent, KeepsBlock, SameNames, SameBlocksAndPages, TakenAsErased, erasures, is_free, is_kept, is_soiled, is_waiting, soiled, without_target, names_another_free, IsOldName, CountsErases}
use Rattle.nl_pseg.specs.Space.{gain_of, landing, left_in_victim, waiting}
use Rattle.nl_pseg.specs.Seen.{IsTied}
use Rattle.nl_pseg_blocks.specs.Uses.{IsPut, SetsUse, aside_state, use_at, use_in}
use Rattle.nl_pseg.specs.declared.held.Held.{Held}
use Rattle.nl_pseg.specs.Kept.{Kept}
use Rattle.nl_pseg.specs.Tries.{GivesNoOther, SpendsTried}

-- two segments have the same blocks and pages
pub record SameRange (old new : Physical) : Type 0 where
  pub range_first : new.first ≡ old.first
  pub range_blocks : new.blocks ≡ old.blocks
  pub range_size : new.size ≡ old.size

-- nothing more is programmed in this block, and the pages of another one that are programmed next are the same
pub record ClosesBlock (block : ℕ) (old new : Kept) : Type 0 where
  pub active : new.active ≡ old.active
  pub target : new.target ≡ old.target
  pub used : ((block ≡ old.active) × (new.used ≡ old.blocks.size)) ⊎ ((block ≡ old.active → ⊥) × (new.used ≡ old.used))
  pub filled : ((block ≡ old.target) × (new.filled ≡ old.blocks.size)) ⊎ ((block ≡ old.target → ⊥) × (new.filled ≡ old.filled))

-- The block is set aside for one old name more, where it is one of the table.
pub record IsAside (block : ℕ) (old new : Kept) : Type 0 where
  pub same : new ≡ record old { blocks = new.blocks; used = new.used; filled = new.filled }
  pub idle : ClosesBlock block old new
  pub put : IsPut block (aside_state (block_at old.blocks block).state) old.blocks new.blocks

-- The name leads to this page. Nothing more is programmed in the block of the name, which waits for it where it was Free.
pub record LeadsFrom (name page : ℕ) (old new : Physical) : Type 0 where
  pub range : SameRange old new
  pub held : new.held ≡ old.held
  pub leads : resolve new.pairs name ≡ page
  pub ways : (other : ℕ) → (other ≡ name → ⊥) → resolve new.pairs other ≡ resolve old.pairs other
  pub olds : (other : ℕ) → IsOldName new other → (other ≡ name) ⊎ IsOldName old other
  pub more : (length new.pairs ≡ length old.pairs + 1) × (new.pair_room + 1 ≡ old.pair_room)
  pub victim : new.victim ≡ old.victim
  pub kept : (block : ℕ) → is_kept new block ≡ is_kept old block
  pub wears : (block : ℕ) → erasures new block ≡ erasures old block
  pub frees : (block : ℕ) → (block ≡ name / old.size → ⊥) → is_free new block ≡ is_free old block
  pub here : is_free new (name / old.size) ≡ false
  pub free : new.free + cond (is_free old (name / old.size)) 1 0 ≡ old.free
  pub soiled : new.soiled ≡ old.soiled
  pub left : new.left ≤ old.left
  pub next : (p : ℕ) → IsNextToProgram new p → IsNextToProgram old p
  pub still : (p : ℕ) → IsNextToProgram old p → (p / old.size ≡ name / old.size → ⊥) → IsNextToProgram new p
  pub copies : (p : ℕ) → IsNextCopy new p → IsNextCopy old p

-- The page holds what the pointer and the owner say. Nothing more is programmed in its block, nor in that of the pointer's name where
-- this is another page: then the name leads to the page, and a block of it that was Free waits.
pub record LoadsHeldPage (page : ℕ) (at : Pointer) (tag : Tag) (old new : Physical) : Type 0 where
  pub held : new.held ≡ slice_set old.held page (Some (record { tag = tag; stamp = at.stamp }))
  pub leads : resolve new.pairs at.name ≡ page
  pub ways : (name : ℕ) → (name ≡ at.name → ⊥) → resolve new.pairs name ≡ resolve old.pairs name
  pub pairs : at.name ≡ page → new.pairs ≡ old.pairs
  pub olds : (name : ℕ) → IsOldName new name → (name ≡ at.name) ⊎ IsOldName old name
  pub more : (at.name ≡ page → ⊥) → (length new.pairs ≡ length old.pairs + 1) × (new.pair_room + 1 ≡ old.pair_room)
  pub range : SameRange old new
  pub victim : new.victim ≡ old.victim
  pub here : is_free new (page / old.size) ≡ false
  pub name_here : (at.name ≡ page → ⊥) → is_free new (at.name / old.size) ≡ false
  pub free : new.free + cond (is_free old (page / old.size)) 1 0 + cond (names_another_free old page at.name) 1 0 ≡ old.free
  pub left : new.left ≤ old.left
  pub others : (block : ℕ) → (block ≡ page / old.size → ⊥)
      → (is_kept new block ≡ is_kept old block) × ((block ≡ at.name / old.size → ⊥) → is_free new block ≡ is_free old block)
  pub same_soiled : (block : ℕ) → soiled new block ≡ soiled old block
  pub wears : (block : ℕ) → erasures new block ≡ erasures old block
  pub erased : (p : ℕ) → TakenAsErased new p → TakenAsErased old p × (p / old.size ≡ page / old.size → ⊥)
  pub still : (p : ℕ) → TakenAsErased old p → (p / old.size ≡ page / old.size → ⊥)
      → (IsNextToProgram old p → p / old.size ≡ at.name / old.size → ⊥) → TakenAsErased new p
  pub copies : (p : ℕ) → IsNextCopy new p → IsNextCopy old p

-- A block was taken that was Free, where the block that was written to is full, and no page of it is used.
pub record IsTaking (s : Kept) (block : ℕ) : Type 0 where
  pub table : Table
  pub wear : ℕ
  pub tied : IsTied (record s { blocks = table })
  pub restated : SetsUse block false wear table s.blocks
  pub had : HasBlock table block
  pub was_free : (use_in table block).is_free ≡ true
  pub full : s.blocks.size ≤ s.used

-- A block is Free, and no page is given out. Where it was in use, it is erased before use.
pub record IsGivenBack (block : ℕ) (old new : Physical) : Type 0 where
  pub range : SameRange old new
  pub held : new.held ≡ old.held
  pub names : (new.pairs ≡ old.pairs) × (new.pair_room ≡ old.pair_room)
  pub victim : new.victim ≡ old.victim
  pub left : new.left ≤ old.left
  pub here : is_free new block ≡ true
  pub told : is_free old block ≡ false → soiled new block ≡ Some (erasures old block)
  pub wear : erasures new block ≡ erasures old block
  pub others : (other : ℕ) → (other ≡ block → ⊥) → use_at new.first new.uses other ≡ use_at old.first old.uses other
  pub others_soiled : (other : ℕ) → (other ≡ block → ⊥) → soiled new other ≡ soiled old other
  pub erased : (p : ℕ) → TakenAsErased new p → TakenAsErased old p
  pub same : is_free old block ≡ true → new ≡ old

-- Names are gone: a block that waited for them may be Free. No page is given out.
pub record NamesGoneFromSegment (old new : Physical) : Type 0 where
  pub range : SameRange old new
  pub next : (new.next ≡ old.next) × (new.left ≡ old.left)
  pub copies : (new.copy_next ≡ old.copy_next) × (new.copy_left ≡ old.copy_left)
  pub victim : new.victim ≡ old.victim
  pub same_soiled : (block : ℕ) → soiled new block ≡ soiled old block
  pub kept : (block : ℕ) → is_kept new block ≡ is_kept old block
  pub wears : (block : ℕ) → erasures new block ≡ erasures old block
  pub frees : (block : ℕ) → is_free old block ≡ true → is_free new block ≡ true
  pub others : (block : ℕ) → is_kept old block ≡ false → is_free new block ≡ false
  pub more : old.free ≤ new.free
  pub blocks : new.free + waiting new ≡ old.free + waiting old
  pub gone : (name : ℕ) → IsOldName new name → IsOldName old name
  pub fewer : length new.pairs ≤ length old.pairs

-- A page is live no longer, and no name leads to it any more.
pub record EndsPage (page : ℕ) (old new : Physical) : Type 0 where
  pub within : InSegment old page
  pub gone : NamesGoneFromSegment old new
  pub pairs : new.pairs ≡ without_target page old.pairs
  pub held : new.held ≡ slice_set old.held page None

-- every block is Free
abbrev pub AllFree : Physical → Type 0
AllFree seg = (block : ℕ) → seg.first ≤ block → block < seg.blocks → is_free seg block ≡ true

-- each block below the end is Free now, and one that was not is to be erased before use
pub record AreGivenBack (end : ℕ) (old new : Physical) : Type 0 where
  pub range : SameRange old new
  pub held : new.held ≡ old.held
  pub names : (new.pairs ≡ old.pairs) × (new.pair_room ≡ old.pair_room)
  pub victim : new.victim ≡ old.victim
  pub left : new.left ≤ old.left
  pub each : (block : ℕ) → old.first ≤ block → block < end → is_free new block ≡ true
  pub told : (block : ℕ) → old.first ≤ block → block < end → is_free old block ≡ false → soiled new block ≡ Some (erasures old block)
  pub wears : (block : ℕ) → old.first ≤ block → block < end → erasures new block ≡ erasures old block
  pub later : (block : ℕ) → end ≤ block → use_at new.first new.uses block ≡ use_at old.first old.uses block
  pub later_soiled : (block : ℕ) → end ≤ block → soiled new block ≡ soiled old block
  pub free_before : (block : ℕ) → is_free old block ≡ true
      → (soiled new block ≡ soiled old block) × (erasures new block ≡ erasures old block)
  pub erased : (p : ℕ) → TakenAsErased new p → TakenAsErased old p
  pub same : AllFree old → new ≡ old

-- the next page was used: it holds this
pub record UsesNextPage (x : Option Held) (old new : Physical) : Type 0 where
  pub pages : SameBlocksAndPages old new
  pub held : new.held ≡ slice_set old.held old.next x
  pub next : new.next ≡ old.next + 1
  pub left : new.left + 1 ≡ old.left
  pub free : new.free ≡ old.free
  pub uses : (block : ℕ) → use_at new.first new.uses block ≡ use_at old.first old.uses block
  pub soiled : new.soiled ≡ old.soiled
  pub names : SameNames old new

-- the segment where this block is written to, and no page of it is used
abbrev pub opened_at : Physical → ℕ → Physical
opened_at seg block = record seg { next = block * seg.size; left = seg.size; soiled = slice_set seg.soiled block None }

-- A Free block is written to now, where none was before.
pub record OpensFreeBlock (block : ℕ) (old new : Physical) : Type 0 where
  pub pages : SameBlocksAndPages old new
  pub held : new.held ≡ old.held
  pub full : old.left ≡ 0
  pub was_free : is_free old block ≡ true
  pub was_kept : is_kept old block ≡ true
  pub next : new.next ≡ block * old.size
  pub left : new.left ≡ old.size
  pub free : new.free + 1 ≡ old.free
  pub some : 1 ≤ new.free
  pub kept : KeepsBlock new
  pub here : is_free new block ≡ false
  pub in_use : is_kept new block ≡ false
  pub others : (other : ℕ) → (other ≡ block → ⊥) → use_at new.first new.uses other ≡ use_at old.first old.uses other
  pub soiled : new.soiled ≡ slice_set old.soiled block None
  pub wears : CountsErases old new
  pub names : SameNames old new

-- What was done to have a page to program: nothing where there was one, else a Free block is written to. Where it failed, no page
-- was given out.
abbrev pub OpensForProgram : WriteAnswer → Physical → Physical → Type 0
OpensForProgram wrote.Done old new = ((0 < old.left) × (new ≡ old)) ⊎ ((block : ℕ) × OpensFreeBlock block old new)
OpensForProgram wrote.Failed old new = SameBlocksAndPages old new × (new.held ≡ old.held) × IsUnspent old new × (NeedsNoErase old → ⊥) × SameNames old new

-- What was done to the medium to have a page to program: the page that is programmed next is erased, and only pages of its block
-- have changed, where that had to be erased.
pub record OpeningOn {M : Type 0} (clock : M → ℕ) (contents : M → Image) (left : M → ℕ → Image → Type 0) (answer : WriteAnswer)
    (seg seg_new : Physical) (old new : M) : Type 0 where
  pub segment : IsPhysicalOf (contents new) seg_new
  pub keeps : PreservesSegment seg (contents old) (contents new)
  pub crash : LeavesOnly clock left old new (λ m c. PreservesSegment seg (contents old) c)
  pub others : answer ≡ wrote.Done → (p : ℕ) → (page_at (contents new) p ≡ page_at (contents old) p)
      ⊎ ((p / seg.size ≡ seg_new.next / seg.size) × (is_free seg (seg_new.next / seg.size) ≡ true)
      × (is_soiled seg (seg_new.next / seg.size) ≡ true) × (page_at (contents new) p ≡ erased))

-- No Free block was taken, and a page that was placed is one of those that were programmed next; or another block is Free.
abbrev pub LeavesFree : Named → Physical → Physical → Type 0
LeavesFree answer old new =
    ((new.free ≡ old.free) × ((p : ℕ) → IsNextToProgram new p → IsNextToProgram old p) × IfPlaced answer (λ at. IsNextToProgram old at.name)) ⊎ (1 ≤ new.free)

-- what placing a page does to the segment, where it then has these live pages
pub record Placing (stamp : ℕ) (now : Pointer → List (Option Held)) (answer : Named) (old new : Physical) : Type 0 where
  pub pages : SameBlocksAndPages old new
  pub placed : IfPlaced answer (λ at. IsDead old at.name × (at.stamp ≡ stamp))
  pub held : IfPlaced answer (λ at. new.held ≡ now at)
  pub same : (IsPlaced answer → ⊥) → new.held ≡ old.held
  pub spent : IsPlaced answer → IsSpent old new
  pub failed : IsWriteFault answer → IsSpent old new ⊎ (IsUnspent old new × (NeedsNoErase old → ⊥))
  pub tried : SpendsTried answer old new
  pub clean : IsClean old → IsClean new
  pub waits : (block : ℕ) → is_waiting new block ≡ is_waiting old block
  pub frees : LeavesFree answer old new
  pub kept : KeepsBlock old → KeepsBlock new
  pub wears : CountsErases old new
  pub names : SameNames old new

-- What writing over a live page does to the segment: where a page was placed, the other one is live no longer.
pub record WritesOver (place stamp : ℕ) (now : Pointer → List (Option Held)) (answer : Named) (old new : Physical) : Type 0 where
  pub mid : Physical
  pub placing : Placing stamp now answer old mid
  pub ended : IsPlaced answer → EndsPage place mid new
  pub none : (IsPlaced answer → ⊥) → new ≡ mid

-- one page was programmed, and no other changed
pub record IsAlone (page : ℕ) (value : Page) (old new : Image) : Type 0 where
  pub has : page_at new page ≡ value
  pub others : (p : ℕ) → (p ≡ page → ⊥) → page_at new p ≡ page_at old p

-- A block was taken for copies that was Free, where the one before it is full, and no page of it is used.
pub record IsTargeted (s : Kept) (block : ℕ) : Type 0 where
  pub table : Table
  pub wear : ℕ
  pub tied : IsTied (record s { blocks = table })
  pub restated : SetsUse block false wear table s.blocks
  pub had : HasBlock table block
  pub was_free : (use_in table block).is_free ≡ true
  pub full : s.blocks.size ≤ s.filled

-- the segment where copies are programmed in this block, and no page of it is used
abbrev pub aimed_at : Physical → ℕ → Physical
aimed_at seg block = record seg { copy_next = block * seg.size; copy_left = seg.size; soiled = slice_set seg.soiled block None }

-- A Free block may take copies now: as many copies find a page.
pub record IsReadied (old new : Physical) : Type 0 where
  pub pages : SameBlocksAndPages old new
  pub held : new.held ≡ old.held
  pub pairs : new.pairs ≡ old.pairs
  pub pair_room : new.pair_room ≡ old.pair_room
  pub victim : new.victim ≡ old.victim
  pub next : (new.next ≡ old.next) × (new.left ≡ old.left)
  pub waits : waiting new ≡ waiting old
  pub left : left_in_victim new ≡ left_in_victim old
  pub gain : gain_of new ≡ gain_of old
  pub lands : landing new ≡ landing old
  pub frees : (block : ℕ) → is_free new block ≡ true → is_free old block ≡ true
  pub wears : CountsErases old new
  pub fewer : new.free ≤ old.free
  pub most : old.free ≤ new.free + 1
  pub clean : IsClean old → IsClean new
  pub first : ((new.copy_next ≡ old.copy_next) × (new.copy_left ≡ old.copy_left))
      ⊎ ((old.copy_left ≡ 0) × (is_free old (new.copy_next / old.size) ≡ true))
  pub others : GivesNoOther old new

-- What was done to the medium to have a page for a copy: the page that the next copy is programmed on is erased, and only pages of
-- its block have changed, where that had to be erased.
pub record ReadiedOn {M : Type 0} (clock : M → ℕ) (contents : M → Image) (left : M → ℕ → Image → Type 0) (answer : WriteAnswer)
    (seg seg_new : Physical) (old new : M) : Type 0 where
  pub segment : IsPhysicalOf (contents new) seg_new
  pub keeps : PreservesSegment seg (contents old) (contents new)
  pub crash : LeavesOnly clock left old new (λ m c. PreservesSegment seg (contents old) c)
  pub others : answer ≡ wrote.Done → (p : ℕ) → (page_at (contents new) p ≡ page_at (contents old) p)
      ⊎ ((p / seg.size ≡ seg_new.copy_next / seg.size) × (is_free seg (seg_new.copy_next / seg.size) ≡ true)
      × (is_soiled seg (seg_new.copy_next / seg.size) ≡ true) × (page_at (contents new) p ≡ erased))

-- The next page for copies was used: it holds this.
pub record IsCopyUsed (x : Option Held) (old new : Physical) : Type 0 where
  pub pages : SameBlocksAndPages old new
  pub held : new.held ≡ slice_set old.held old.copy_next x
  pub next : (new.next ≡ old.next) × (new.left ≡ old.left)
  pub copy_next : new.copy_next ≡ old.copy_next + 1
  pub copy_left : new.copy_left + 1 ≡ old.copy_left
  pub free : new.free ≡ old.free
  pub uses : (block : ℕ) → use_at new.first new.uses block ≡ use_at old.first old.uses block
  pub soiled : new.soiled ≡ old.soiled
  pub pairs : new.pairs ≡ old.pairs
  pub pair_room : new.pair_room ≡ old.pair_room
  pub victim : new.victim ≡ old.victim
  pub waits : waiting new ≡ waiting old
  pub left : left_in_victim new ≡ left_in_victim old
  pub gain : gain_of new ≡ gain_of old

-- A live page of the victim is dead, and what led to it leads to the other page, under its number too.
pub record IsLed (before after : ℕ) (old new : Physical) : Type 0 where
  pub pages : SameBlocksAndPages old new
  pub held : new.held ≡ slice_set old.held before None
  pub next : (new.next ≡ old.next) × (new.left ≡ old.left)
  pub copies : (new.copy_next ≡ old.copy_next) × (new.copy_left ≡ old.copy_left)
  pub free : new.free ≡ old.free
  pub uses : (block : ℕ) → use_at new.first new.uses block ≡ use_at old.first old.uses block
  pub soiled : new.soiled ≡ old.soiled
  pub ways : (name : ℕ) → resolve new.pairs name ≡ (if resolve old.pairs name == before then after else resolve old.pairs name)
  pub own : IsOldName new before
  pub names : (name : ℕ) → IsOldName new name → (name ≡ before) ⊎ IsOldName old name
  pub pairs : length new.pairs ≡ length old.pairs + 1
  pub pair_room : new.pair_room + 1 ≡ old.pair_room
  pub victim : new.victim ≡ old.victim
  pub waits : waiting new ≡ waiting old
  pub left : left_in_victim new + 1 ≡ left_in_victim old
  pub gain : gain_of new ≡ gain_of old + 1
