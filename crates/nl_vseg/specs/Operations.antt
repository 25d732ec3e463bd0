-- The programs and erases of a call, and what they make of the wear of the blocks.
use Rattle.std.specs.Prelude.{◌≡◌, ℕ, ◌+◌, ◌*◌, ◌/◌, List, [], ◌∷◌, slice_index_or, slice_set}
use Rattle.nl_field.specs.Page.{Image, erased, written}
use Rattle.nl_blocks.specs.Table.{worn}
use Rattle.nl_nand.specs.Nand.{OperationLeaves, ticked}
use Rattle.nl_nand.specs.declared.answers.WriteAnswer.{WriteAnswer}
use Rattle.nl_nand.specs.declared.answers.WriteAnswer.TheVariants as write
use Rattle.nl_vseg.specs.Pages.{page_with}

-- a program of a page with an address, a number and main bytes, or an erase of a block, and what it answered
pub data Operation : Type 0 where
  Program : (page address stamp : ℕ) → List ℕ → WriteAnswer → Operation
  Erase : ℕ → WriteAnswer → Operation

-- how often each block was erased, and the clock and the pages of the medium then
pub record Snapshot : Type 0 where
  pub wears : List ℕ
  pub clock : ℕ
  pub image : Image

abbrev pub snapshot : List ℕ → ℕ → Image → Snapshot
snapshot wears clock image = record { wears = wears; clock = clock; image = image }

abbrev pub wear_in : List ℕ → ℕ → ℕ
wear_in wears block = slice_index_or wears block 0

-- the wear after an erase: one more where it finished, and as it was where it failed
abbrev pub wears_after : WriteAnswer → ℕ → List ℕ → List ℕ
wears_after write.Done block wears = slice_set wears block (worn (wear_in wears block))
wears_after write.Failed block wears = wears

-- A program, which writes the wear of its block and leaves the wears.
pub record ProgramsInSnapshot (told : Type 0) (pages page address stamp : ℕ) (main : List ℕ) (answer : WriteAnswer)
    (old new : Snapshot) : Type 0 where
  pub same_wears : new.wears ≡ old.wears
  pub ticks : new.clock ≡ ticked old.clock answer
  pub leaves : told → OperationLeaves page (page + 1)
      (written (page_with main address stamp (wear_in old.wears (page / pages)))) old.image answer new.image

-- An erase of a block, after which its wear is one more, where it finished.
pub record ErasesInSnapshot (told : Type 0) (pages block : ℕ) (answer : WriteAnswer) (old new : Snapshot) : Type 0 where
  pub wears_then : new.wears ≡ wears_after answer block old.wears
  pub ticks : new.clock ≡ ticked old.clock answer
  pub leaves : told → OperationLeaves (block * pages) (block * pages + pages) erased old.image answer new.image

abbrev pub DoesOperation : Type 0 → ℕ → Operation → Snapshot → Snapshot → Type 0
DoesOperation told pages (Program page address stamp main answer) old new = ProgramsInSnapshot told pages page address stamp main answer old new
DoesOperation told pages (Erase block answer) old new = ErasesInSnapshot told pages block answer old new

-- one operation after the other
unfoldable pub DoesEach : Type 0 → ℕ → List Operation → Snapshot → Snapshot → Type 0
DoesEach told pages [] old new = new ≡ old
DoesEach told pages (o ∷ os) old new = (middle : Snapshot) × (DoesOperation told pages o old middle × DoesEach told pages os middle new)

-- The call did some programs and erases, and nothing else to the medium and the wear. The contents are spoken of where the
-- medium tells them.
pub record Operates (told : Type 0) (pages : ℕ) (old new : Snapshot) : Type 0 where
  pub operations : List Operation
  pub done : DoesEach told pages operations old new
