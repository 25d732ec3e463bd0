-- A page that was tried, for a name or for a copy, is not given out again before its block is erased.
use Rattle.std.specs.Prelude.{◌≡◌, ◌⊎◌, ℕ, ◌/◌, ◌<◌, true, false}
use Rattle.nl_field.specs.declared.answers.Named.{Named}
use Rattle.nl_pseg.specs.Answers.{IfPlaced, IsWriteFault}
use Rattle.nl_pseg.specs.Cleaning.{IfMoved}
use Rattle.nl_pseg.specs.Segment.{Physical, IsClean, IsNextCopy, IsUnspent, NeedsNoErase, TakenAsErased, is_free, is_soiled}
use Rattle.nl_pseg.specs.declared.cleaned.Copied.{Copied}

-- the segment takes the page as erased: it can be given out next, for a name or for a copy
abbrev pub CanBeGiven : Physical → ℕ → Type 0
CanBeGiven seg page = TakenAsErased seg page ⊎ IsNextCopy seg page

-- the block was Free and to be erased before use, and was erased since
abbrev pub WasErased : Physical → Physical → ℕ → Type 0
WasErased old new block = (is_free old block ≡ true) × (is_soiled old block ≡ true) × (is_soiled new block ≡ false)

-- what can be given out could be given out before, or lies in a block that was erased since
abbrev pub GivesNoOther : Physical → Physical → Type 0
GivesNoOther old new = (page : ℕ) → CanBeGiven new page → CanBeGiven old page ⊎ WasErased old new (page / old.size)

-- the page for the next copy is programmed with no erase before it
abbrev pub CopyNeedsNoErase : Physical → Type 0
CopyNeedsNoErase seg = (0 < seg.copy_left) ⊎ IsClean seg

-- The page was tried for a name, and cannot be given out any more. It was the next one of the block that is written to, or where
-- that was full it is one of a Free block.
pub record TriesForName (page : ℕ) (old new : Physical) : Type 0 where
  pub first : ((0 < old.left) × (page ≡ old.next)) ⊎ ((old.left ≡ 0) × (is_free old (page / old.size) ≡ true))
  pub spent : CanBeGiven new page → ⊥

-- The page was tried for a copy, and cannot be given out any more. It was the next one of the block for copies, or where that was
-- full it is one of a Free block.
pub record TriesForCopy (page : ℕ) (old new : Physical) : Type 0 where
  pub first : ((0 < old.copy_left) × (page ≡ old.copy_next)) ⊎ ((old.copy_left ≡ 0) × (is_free old (page / old.size) ≡ true))
  pub spent : CanBeGiven new page → ⊥

-- A write spends the page that it tried, which it named or whose program failed. Only where a block was to be erased first it may
-- have failed before it tried one.
pub record SpendsTried (answer : Named) (old new : Physical) : Type 0 where
  pub placed : IfPlaced answer (λ at. TriesForName at.name old new)
  pub failed : IsWriteFault answer → ((page : ℕ) × TriesForName page old new) ⊎ (IsUnspent old new × (NeedsNoErase old → ⊥))
  pub others : GivesNoOther old new

-- A move spends the page that it tried: that of the copy, or one whose program failed, where the medium had a `fault` at a program
-- or an erase. Only where a block was to be erased first it may have failed before it tried one.
pub record SpendsTriedCopy (answer : Copied) (fault : Type 0) (old new : Physical) : Type 0 where
  pub moved : IfMoved answer (λ before after h. TriesForCopy after old new)
  pub failed : fault → ((page : ℕ) × TriesForCopy page old new) ⊎ (IsUnspent old new × (CopyNeedsNoErase old → ⊥))
  pub others : GivesNoOther old new
