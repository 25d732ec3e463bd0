-- A page that was tried is not taken as erased before its block is erased.
use Rattle.std.specs.Prelude.{◌≡◌, ◌⊎◌, ℕ, ◌+◌, ◌*◌, ◌/◌, ◌<◌, true, false}
use Rattle.nl_field.specs.declared.answers.VirtualWrite.{VirtualWrite}
use Rattle.nl_field.specs.declared.answers.VirtualWrite.TheVariants as write
use Rattle.nl_vseg.specs.Layout.{Layout, LayoutTakesAsErased, is_soiled}
use Rattle.nl_vseg.specs.Segment.{Segment, is_erased_first, is_taken_as_erased}

-- What is taken as erased was taken so before, or lies in a block that was to be erased first, and is not any more.
abbrev pub TakesNoOther : Layout → Layout → Type 0
TakesNoOther old new = (page : ℕ) → LayoutTakesAsErased new page → LayoutTakesAsErased old page
    ⊎ ((is_soiled old (page / old.table.size) ≡ true) × (is_soiled new (page / old.table.size) ≡ false))

-- The next page of the active block was tried, and is taken as erased no longer. Nothing else is taken so that was not.
pub record SpendsNext (old new : Layout) : Type 0 where
  pub spent : LayoutTakesAsErased new (old.active * old.table.size + old.used) → ⊥
  pub others : (page : ℕ) → LayoutTakesAsErased new page → LayoutTakesAsErased old page
  pub same_soiled : new.soiled ≡ old.soiled

-- The active block has a page that is not used: it had one and nothing changed, or a Free block is the active one now. Where that
-- did not come to pass the active block was full, and some block was to be erased first.
pub record OpensNext (answer : VirtualWrite) (old new : Layout) : Type 0 where
  pub done : answer ≡ write.Done → ((old.used < old.table.size) × (new ≡ old)) ⊎ ((old.used ≡ old.table.size) × (new.used < new.table.size))
  pub failed : (answer ≡ write.Done → ⊥) → (old.used ≡ old.table.size) × ((block : ℕ) × (is_soiled old block ≡ true))
  pub others : TakesNoOther old new
  pub same_size : new.table.size ≡ old.table.size

-- the block was to be erased before use, and was erased since
abbrev pub BlockWasErased : Segment → Segment → ℕ → Type 0
BlockWasErased seg now block = (is_erased_first seg block ≡ true) × (is_erased_first now block ≡ false)

-- The page was tried, and is taken as erased no longer. It was the next one of the block that is written to, or where that was full
-- one that was taken as erased, or one of a block that was erased first.
pub record TriesPage (page : ℕ) (seg now : Segment) : Type 0 where
  pub first : ((0 < seg.left) × (page ≡ seg.next))
      ⊎ ((seg.left ≡ 0) × ((is_taken_as_erased seg page ≡ true) ⊎ BlockWasErased seg now (page / seg.pages)))
  pub spent : is_taken_as_erased now page ≡ false

-- A write that cleans nothing spends the page that it tried, whether or not that failed. Only where the block that is written to is
-- full, and some block was to be erased first, it may have failed before it tried one.
pub record SpendsTriedPage (done : Type 0) (seg now : Segment) : Type 0 where
  pub tried : ((page : ℕ) × TriesPage page seg now)
      ⊎ ((done → ⊥) × (seg.left ≡ 0) × ((block : ℕ) × (is_erased_first seg block ≡ true)))
  pub others : (page : ℕ) → is_taken_as_erased now page ≡ true
      → (is_taken_as_erased seg page ≡ true) ⊎ BlockWasErased seg now (page / seg.pages)
