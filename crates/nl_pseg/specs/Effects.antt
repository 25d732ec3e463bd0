-- What a write leaves of the segment's pages, and what a stop within it may leave.
use Rattle.std.specs.Prelude.{◌≡◌, ◌⊎◌, ℕ, ◌+◌, ◌/◌, ◌≤◌, List, true, Some}
use Rattle.nl_field.specs.CrashStates.{Earlier, LeavesOnly, Turns, saturated}
use Rattle.nl_field.specs.Page.{Image, Page, erased, written, page_at}
use Rattle.nl_field.specs.declared.answers.Named.{Named}
use Rattle.nl_field.specs.declared.pointer.Tag.{Tag}
use Rattle.nl_pseg.specs.Answers.{IsPlaced, IsWriteFault, NamesPage}
use Rattle.nl_pseg_pages.specs.Pages.{IsUnreadable, page_with, shown_by}
use Rattle.nl_pseg.specs.Segment.{Physical, IsDead, is_free, is_soiled, wear_of}

-- The image keeps the segment: each page is as it was, or it is not live, and nothing is read from it. So each live page, and
-- each page outside the segment, is as it was.
pub record PreservesSegment (seg : Physical) (old c : Image) : Type 0 where
  pub each : (p : ℕ) → (page_at c p ≡ page_at old p) ⊎ (IsDead seg p × IsUnreadable (page_at c p))

-- The image has one page more, which was not live, and keeps the segment apart from it.
pub record TakesImagePage (seg : Physical) (page : ℕ) (value : Page) (old c : Image) : Type 0 where
  pub dead : IsDead seg page
  pub has : page_at c page ≡ value
  pub others : (p : ℕ) → (p ≡ page → ⊥) → (page_at c p ≡ page_at old p) ⊎ (IsDead seg p × IsUnreadable (page_at c p))

-- One page was programmed, which was not live. No other page changed but those of its block, where that was a Free block that
-- had to be erased before use: they are erased.
pub record PageIsProgrammed (seg : Physical) (page : ℕ) (value : Page) (old new : Image) : Type 0 where
  pub dead : IsDead seg page
  pub has : page_at new page ≡ value
  pub others : (p : ℕ) → (p ≡ page → ⊥) → (page_at new p ≡ page_at old p)
      ⊎ ((p / seg.size ≡ page / seg.size) × (is_free seg (page / seg.size) ≡ true) × (is_soiled seg (page / seg.size) ≡ true)
      × (page_at new p ≡ erased))

-- The image has a page of this owner more, which shows its owner, its number and its bytes.
pub record PlacesOnImage (seg : Physical) (page : ℕ) (tag : Tag) (stamp : ℕ) (main : List ℕ) (old c : Image) : Type 0 where
  pub takes : TakesImagePage seg page (written (page_with main tag stamp (wear_of seg (page / seg.size)))) old c
  pub shows : shown_by (written (page_with main tag stamp (wear_of seg (page / seg.size)))) ≡ Some (tag, stamp, main)

-- What a stop within a write may leave, and what the write leaves: there is one page that it may have programmed, the one that
-- it named. Until the write is done an image keeps the segment or has that page more, and once it placed the page it has it.
pub record Crashes {M : Type 0} (clock : M → ℕ) (contents : M → Image) (left : M → ℕ → Image → Type 0) (seg : Physical) (tag : Tag)
    (stamp : ℕ) (main : List ℕ) (old new : M) (answer : Named) : Type 0 where
  pub page : ℕ
  pub named : NamesPage page stamp answer
  pub either : PreservesSegment seg (contents old) (contents new) ⊎ PlacesOnImage seg page tag stamp main (contents old) (contents new)
  pub crash : LeavesOnly clock left old new (Turns (IsPlaced answer) (clock new)
      (λ c. PreservesSegment seg (contents old) c)
      (λ c. PlacesOnImage seg page tag stamp main (contents old) c))

-- The counts of a medium over a write. It is `ready` where the page is programmed with no erase before it: then the clock counts
-- the page that was placed, and nothing else.
pub record WriteCounted {M : Type 0} (clock read_faults write_faults : M → ℕ) (ready : Type 0) (old new : M) (answer : Named) : Type 0 where
  pub later : clock old ≤ clock new
  pub few : clock new ≤ clock old + 2
  pub placed : IsPlaced answer → Earlier (clock old) (clock new)
  pub one : ready → IsPlaced answer → clock new ≡ saturated (clock old + 1)
  pub none : ready → (IsPlaced answer → ⊥) → clock new ≡ clock old
  pub reads : read_faults new ≡ read_faults old
  pub more : write_faults old ≤ write_faults new
  pub failed : IsWriteFault answer → write_faults new ≡ saturated (write_faults old + 1)
  pub well : (IsWriteFault answer → ⊥) → write_faults new ≡ write_faults old
