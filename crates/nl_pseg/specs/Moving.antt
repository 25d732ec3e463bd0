-- What the steps of a move do, by their answer.
use Rattle.std.specs.Prelude.{◌≡◌, ℕ, ◌/◌}
use Rattle.nl_field.specs.Page.{Image, page_at, written}
use Rattle.nl_pseg_pages.specs.Pages.{main_of, page_with}
use Rattle.nl_pseg.specs.Cleaning.{IfMoved, IsMoved, MovesLivePage, MovesNone, programmed_by}
use Rattle.nl_pseg.specs.Effects.{Crashes, PageIsProgrammed}
use Rattle.nl_pseg.specs.Kept.{Kept}
use Rattle.nl_pseg.specs.Seen.{IsPhysicalFormed, IsTied, seen}
use Rattle.nl_pseg.specs.Segment.{CanSpareBlock, IsClean, IsPhysicalOf, Physical, room, soiled, wear_of}
use Rattle.nl_pseg.specs.Space.{HasFewPairs}
use Rattle.nl_pseg.specs.Tries.{CanBeGiven, TriesForCopy}
use Rattle.nl_pseg.specs.declared.cleaned.Copied.{Copied}
use Rattle.nl_pseg.specs.declared.cleaned.Copied.TheVariants as copy
use Rattle.nl_pseg.specs.declared.held.Held.{Held}

-- what holds of a state between two calls that clean
pub record IsConsistent (s : Kept) : Type 0 where
  pub formed : IsPhysicalFormed s
  pub tied : IsTied s
  pub few : HasFewPairs (seen s)

-- The copy of this live page landed where the next copy is programmed, or the medium failed.
pub record LandsPage (page : ℕ) (h : Held) (answer : Copied) (old new : Physical) : Type 0 where
  pub moved : IfMoved answer (λ before after held. (before ≡ page) × (after ≡ old.copy_next) × (held ≡ h) × MovesLivePage before after held old new)
  pub kept : (IsMoved answer → ⊥) → (answer ≡ copy.Fault) × MovesNone old new
  pub same_room : room new ≡ room old
  pub clean : IsClean old → IsClean new
  pub tried : TriesForCopy old.copy_next old new
  pub others : (p : ℕ) → CanBeGiven new p → CanBeGiven old p
  pub same_soiled : (block : ℕ) → soiled new block ≡ soiled old block

-- This live page of the victim was moved, or none was. `Lost` comes with its number, and another one, which was found.
pub record MovesPageOrNone (page : ℕ) (h : Held) (answer : Copied) (old new : Physical) : Type 0 where
  pub moved : IfMoved answer (λ before after held. (before ≡ page) × (held ≡ h) × MovesLivePage before after held old new)
  pub kept : (IsMoved answer → ⊥) → MovesNone old new
  pub lost : (w f : ℕ) → answer ≡ copy.Lost w f → (f ≡ w → ⊥) × (h.stamp ≡ w)
  pub clean : IsClean old → IsClean new

-- What the move of a live page does to the medium, which is still that of the segment: the copy is programmed with the owner, the
-- number and the bytes of this page, which was not lost.
pub record MovesOn {M : Type 0} (clock : M → ℕ) (contents : M → Image) (left : M → ℕ → Image → Type 0) (page : ℕ) (h : Held)
    (answer : Copied) (seg seg_new : Physical) (old new : M) : Type 0 where
  pub told : (w f : ℕ) → answer ≡ copy.Lost w f → ⊥
  pub segment : IsPhysicalOf (contents new) seg_new
  pub spare : CanSpareBlock (contents old) seg → CanSpareBlock (contents new) seg_new
  pub programmed : IfMoved answer
      (λ before after held. PageIsProgrammed seg after
      (written (page_with (main_of (page_at (contents old) before)) held.tag held.stamp (wear_of seg (after / seg.size))))
      (contents old) (contents new))
  pub crash : Crashes clock contents left seg h.tag h.stamp (main_of (page_at (contents old) page)) old new (programmed_by answer)
