-- What a move and an erase of the victim do, by their answer.
use Rattle.std.specs.Prelude.{◌≡◌, ℕ, ◌/◌, Some}
use Rattle.nl_field.specs.CrashStates.{LeavesOnly}
use Rattle.nl_field.specs.Page.{Image, page_at, written}
use Rattle.nl_pseg_pages.specs.Pages.{main_of, page_with}
use Rattle.nl_pseg.specs.Cleaning.{CrashesMove, ErasesBlock, IfMoved, IsMoved, KeepsBeside, MovesLivePage, MovesNone}
use Rattle.nl_pseg.specs.Effects.{PageIsProgrammed}
use Rattle.nl_pseg.specs.Segment.{CanSpareBlock, InVictim, IsClean, IsPhysicalOf, KeepsBlock, Physical, held_at, wear_of}
use Rattle.nl_pseg.specs.declared.cleaned.Copied.{Copied}
use Rattle.nl_pseg.specs.declared.cleaned.Copied.TheVariants as copy
use Rattle.nl_pseg.specs.declared.cleaned.Erasure.{Erasure}
use Rattle.nl_pseg.specs.declared.cleaned.Erasure.TheVariants as erasure
use Rattle.nl_pseg.specs.declared.held.Held.{Held}

-- What a move does to the segment: it moved one page or none. `Lost` comes with the number of a live page of the victim, and another
-- one, which was found.
pub record CopiesPage (answer : Copied) (old new : Physical) : Type 0 where
  pub moved : IfMoved answer (λ before after h. MovesLivePage before after h old new)
  pub kept : (IsMoved answer → ⊥) → MovesNone old new
  pub lost : (w f : ℕ) → answer ≡ copy.Lost w f
      → (f ≡ w → ⊥) × ((p : ℕ) × (h : Held) × InVictim old p × (held_at old p ≡ Some h) × (h.stamp ≡ w))
  pub clean : IsClean old → IsClean new
  pub kept_block : KeepsBlock old → KeepsBlock new

-- What a move does to the medium, which is still that of the segment: the copy is programmed with the owner, the number and the bytes
-- of the page that was moved, and no page was lost.
pub record CopiesOn {M : Type 0} (clock : M → ℕ) (contents : M → Image) (left : M → ℕ → Image → Type 0) (answer : Copied)
    (seg seg_new : Physical) (old new : M) : Type 0 where
  pub told : (w f : ℕ) → answer ≡ copy.Lost w f → ⊥
  pub segment : IsPhysicalOf (contents new) seg_new
  pub spare : CanSpareBlock (contents old) seg → CanSpareBlock (contents new) seg_new
  pub programmed : IfMoved answer
      (λ before after h. PageIsProgrammed seg after
      (written (page_with (main_of (page_at (contents old) before)) h.tag h.stamp (wear_of seg (after / seg.size)))) (contents old)
      (contents new))
  pub crash : (answer ≡ copy.Nothing → ⊥) → CrashesMove clock contents left seg old new answer

-- What an erase of the victim does to the segment: only where it is done, the victim was erased.
pub record ErasesIfDone (answer : Erasure) (old new : Physical) : Type 0 where
  pub kept : (answer ≡ erasure.Done → ⊥) → new ≡ old
  pub erased : answer ≡ erasure.Done → (block : ℕ) × ErasesBlock block old new
  pub clean : IsClean old → IsClean new
  pub kept_block : KeepsBlock old → KeepsBlock new

-- What an erase of the victim does to the medium, which is still that of the segment: only pages of the victim change, also where a
-- stop comes within it.
pub record ErasesOn {M : Type 0} (clock : M → ℕ) (contents : M → Image) (left : M → ℕ → Image → Type 0) (answer : Erasure)
    (seg seg_new : Physical) (old new : M) : Type 0 where
  pub segment : IsPhysicalOf (contents new) seg_new
  pub spare : (answer ≡ erasure.Nothing → ⊥) → CanSpareBlock (contents new) seg_new
  pub pages : (block : ℕ) → seg.victim ≡ Some block → KeepsBeside seg block (contents old) (contents new)
  pub crash : (block : ℕ) → seg.victim ≡ Some block → LeavesOnly clock left old new (λ m c. KeepsBeside seg block (contents old) c)
