-- What the calls of a flash medium do to its pages, and what a crash may leave of them.
use Rattle.std.specs.Prelude.{◌≡◌, ◌⊎◌, ℕ, ◌+◌, ◌*◌, ◌<◌, ◌≤◌, length, ⊤, IsTrue}
use Rattle.nl_field.specs.Page.{PageBytes, Page, erased, uncorrectable, written, Image, page_at, is_image}
use Rattle.nl_field.specs.Numbers.{is_legal}
use Rattle.nl_field.specs.CrashStates.{saturated}
use Rattle.nl_nand.specs.declared.geometry.Geometry.{Geometry}
use Rattle.nl_nand.specs.declared.answers.WriteAnswer.{WriteAnswer}
use Rattle.nl_nand.specs.declared.answers.WriteAnswer.TheVariants as write
use Rattle.nl_nand.specs.declared.answers.ReadAnswer.{ReadAnswer}
use Rattle.nl_nand.specs.declared.answers.ReadAnswer.TheVariants as read

-- the numbers that a medium may have: legal ones, or none where it was never formed
abbrev pub IsLegal : Geometry → Type 0
IsLegal geometry = IsTrue (is_legal geometry.blocks geometry.pages) ⊎ (geometry ≡ record { blocks = 0; pages = 0 })

-- the image has the blocks and pages of the geometry, and each page its bytes
pub record ImageOf (geometry : Geometry) (image : Image) : Type 0 where
  pub blocks : image.blocks ≡ geometry.blocks
  pub pages : image.pages ≡ geometry.pages
  pub whole : IsTrue (is_image image)

-- two images have as many blocks and as many pages
pub record SameImageShape (old new : Image) : Type 0 where
  pub same_blocks : new.blocks ≡ old.blocks
  pub same_pages : new.pages ≡ old.pages
  pub same_length : length new.contents ≡ length old.contents

-- all pages of a range are erased
abbrev pub ErasedWithin : Image → ℕ → ℕ → Type 0
ErasedWithin image low high = (p : ℕ) → low ≤ p → p < high → page_at image p ≡ erased

-- all pages are erased
abbrev pub IsBlank : Image → Type 0
IsBlank image = (p : ℕ) → page_at image p ≡ erased

-- what a read answers of a page, and what the buffer then has
abbrev pub ReadsMediumPage : Page → PageBytes → ReadAnswer → Type 0
ReadsMediumPage page buf read.Erased = page ≡ erased
ReadsMediumPage page buf read.Written = page ≡ written buf
ReadsMediumPage page buf read.Uncorrectable = page ≡ uncorrectable
ReadsMediumPage page buf read.Failed = ⊤

-- the page and all later ones of its block are erased
pub record CanProgram (image : Image) (page : ℕ) : Type 0 where
  pub block : ℕ
  pub from : block * image.pages ≤ page
  pub below : page < block * image.pages + image.pages
  pub rest_erased : ErasedWithin image page (block * image.pages + image.pages)

-- each page of a range has this value, and no other page changed
pub record Filled (low high : ℕ) (value : Page) (old new : Image) : Type 0 where
  pub shape : SameImageShape old new
  pub inside : (p : ℕ) → low ≤ p → p < high → page_at new p ≡ value
  pub outside : (p : ℕ) → (p < low) ⊎ (high ≤ p) → page_at new p ≡ page_at old p

-- An operation that would give each page of a range this value was cut short: each of them is as it was, has the value or
-- is uncorrectable, and no other page changed.
pub record Cut (low high : ℕ) (value : Page) (old new : Image) : Type 0 where
  pub shape : SameImageShape old new
  pub each : (p : ℕ) → (page_at new p ≡ page_at old p)
      ⊎ ((low ≤ p) × (p < high) × ((page_at new p ≡ value) ⊎ (page_at new p ≡ uncorrectable)))

-- what a finished or a failed operation leaves
abbrev pub OperationLeaves : ℕ → ℕ → Page → Image → WriteAnswer → Image → Type 0
OperationLeaves low high value old write.Done new = Filled low high value old new
OperationLeaves low high value old write.Failed new = Cut low high value old new

-- the clock after an operation: it counts the finished ones
abbrev pub ticked : ℕ → WriteAnswer → ℕ
ticked clock write.Done = saturated (clock + 1)
ticked clock write.Failed = clock

-- a count of failed calls: it rises by one where this call failed, and stays where it did not
pub record FaultsCounted (before now : ℕ) (failed : Type 0) : Type 0 where
  pub never_falls : before ≤ now
  pub cause : failed → now ≡ saturated (before + 1)
  pub stays : (failed → ⊥) → now ≡ before

-- a crash may have left the same images as before the call
pub record SameCrashStates {M : Type 0} (left : M → ℕ → Image → Type 0) (old new : M) : Type 0 where
  pub no_more : (m : ℕ) (c : Image) → left new m c → left old m c
  pub no_fewer : (m : ℕ) (c : Image) → left old m c → left new m c

-- the medium has what it had before the call
pub record Unchanged {M : Type 0} (geometry : M → Geometry) (contents : M → Image) (left : M → ℕ → Image → Type 0)
    (old new : M) : Type 0 where
  pub same_geometry : geometry new ≡ geometry old
  pub same_contents : contents new ≡ contents old
  pub same_left : SameCrashStates left old new

-- the medium was read, and nothing else was done to it
pub record MediumOnlyRead {M : Type 0} (geometry : M → Geometry) (contents : M → Image) (clock write_faults : M → ℕ)
    (left : M → ℕ → Image → Type 0) (old new : M) : Type 0 where
  pub same_geometry : geometry new ≡ geometry old
  pub same_contents : contents new ≡ contents old
  pub same_left : SameCrashStates left old new
  pub same_clock : clock new ≡ clock old
  pub same_write_faults : write_faults new ≡ write_faults old

-- A program or an erase was answered so: the clock counts it where it finished and the failed writes where it failed, and
-- the geometry and the failed reads are as they were.
pub record OperationCounted {M : Type 0} (geometry : M → Geometry) (clock read_faults write_faults : M → ℕ) (old new : M)
    (answer : WriteAnswer) : Type 0 where
  pub same_geometry : geometry new ≡ geometry old
  pub same_read_faults : read_faults new ≡ read_faults old
  pub ticks : clock new ≡ ticked (clock old) answer
  pub failures : FaultsCounted (write_faults old) (write_faults new) (answer ≡ write.Failed)

-- the pages of a block: the first, and the one behind its last
abbrev pub block_start : Geometry → ℕ → ℕ
block_start geometry block = block * geometry.pages

abbrev pub block_end : Geometry → ℕ → ℕ
block_end geometry block = block_start geometry block + geometry.pages

-- What a crash may have left since `old`, where one operation ran from `old` to `new`: at the moment before it what a cut
-- one leaves, and at the moment after it what there is; and still all that it may have left before.
pub record CrashLeaves {M : Type 0} (clock : M → ℕ) (contents : M → Image) (left : M → ℕ → Image → Type 0) (low high : ℕ)
    (value : Page) (old new : M) : Type 0 where
  pub later : clock old ≤ clock new
  pub each : (m : ℕ) (c : Image) → left new m c → left old m c
      ⊎ (((m ≡ clock old) × Cut low high value (contents old) c) ⊎ ((m ≡ clock new) × (c ≡ contents new)))
  pub keeps : (m : ℕ) (c : Image) → left old m c → left new m c
