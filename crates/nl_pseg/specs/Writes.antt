-- What a write and an overwrite do, by their answer.
use Rattle.std.specs.Prelude.{◌≡◌, ◌⊎◌, ℕ, ◌+◌, ◌/◌, ◌≤◌, cond, List, slice_set, Some, None}
use Rattle.nl_field.specs.Page.{Image, written}
use Rattle.nl_field.specs.declared.answers.Named.{Named}
use Rattle.nl_field.specs.declared.pointer.Tag.{Tag}
use Rattle.nl_pseg_pages.specs.Pages.{page_with}
use Rattle.nl_pseg.specs.Answers.{IfPlaced, IsWriteFault, IsPlaced, is_placed}
use Rattle.nl_pseg.specs.Effects.{Crashes, PageIsProgrammed}
use Rattle.nl_pseg.specs.Segment.{Physical, IsClean, IsDead, IsPhysicalOf, NeedsNoErase, IsSpent, IsUnspent, KeepsBlock, SameBlocksAndPages, CountsErases, room, wear_of, without_target}
use Rattle.nl_pseg.specs.Space.{HasRoomForVictim, Lessens, SameCleaning, waiting}
use Rattle.nl_pseg.specs.Steps.{IsAlone}
use Rattle.nl_pseg.specs.Tries.{SpendsTried}

-- What a write or an overwrite does to the segment. A page that it placed was not live, and has this number. Where it placed none,
-- what is live, the pairs and what is cleaned are as they were; where the medium failed, a page may be lost. A page that was tried is
-- not given out again before its block is erased.
pub record WritesSegment (stamp : ℕ) (answer : Named) (old new : Physical) : Type 0 where
  pub pages : SameBlocksAndPages old new
  pub placed : IfPlaced answer (λ at. IsDead old at.name × (at.stamp ≡ stamp))
  pub same : (IsPlaced answer → ⊥) → new.held ≡ old.held
  pub same_pairs : (IsPlaced answer → ⊥) → new.pairs ≡ old.pairs
  pub same_cleaning : (IsPlaced answer → ⊥) → SameCleaning old new
  pub failed : IsWriteFault answer → IsSpent old new ⊎ (IsUnspent old new × (NeedsNoErase old → ⊥))
  pub tried : SpendsTried answer old new
  pub clean : IsClean old → IsClean new
  pub kept : KeepsBlock old → KeepsBlock new
  pub wears : CountsErases old new

-- A write: where it placed a page, this holds the owner and the number, and one page was given out. Pairs and what is cleaned are as
-- they were.
pub record AddsPage (tag : Tag) (stamp : ℕ) (answer : Named) (old new : Physical) : Type 0 where
  pub writes : WritesSegment stamp answer old new
  pub held : IfPlaced answer (λ at. new.held ≡ slice_set old.held at.name (Some (record { tag = tag; stamp = stamp })))
  pub pairs : new.pairs ≡ old.pairs
  pub spent : IsPlaced answer → IsSpent old new
  pub cleaning : SameCleaning old new
  pub lands : HasRoomForVictim old → HasRoomForVictim new

-- An overwrite: where it placed a page, this holds the owner and the number, and the page in whose place it is is dead, with no pair
-- to it. One page was given out, but for blocks that waited for those pairs.
pub record ReplacesPage (place : ℕ) (tag : Tag) (stamp : ℕ) (answer : Named) (old new : Physical) : Type 0 where
  pub writes : WritesSegment stamp answer old new
  pub held : IfPlaced answer
      (λ at. new.held ≡ slice_set (slice_set old.held at.name (Some (record { tag = tag; stamp = stamp }))) place None)
  pub pairs : IsPlaced answer → new.pairs ≡ without_target place old.pairs
  pub spent : IsPlaced answer → waiting old ≡ 0 → IsSpent old new
  pub space : Lessens (cond (is_placed answer) 1 0) old new
  pub blocks : IsPlaced answer → new.free + waiting new ≤ old.free + waiting old
  pub room : IsPlaced answer → room old ≤ room new + 1

-- What a write or an overwrite does to the medium, which is still that of the segment: the page that it named was programmed, and a
-- stop within it leaves that page or none.
pub record WritesOn {M : Type 0} (clock : M → ℕ) (contents : M → Image) (left : M → ℕ → Image → Type 0) (tag : Tag) (stamp : ℕ)
    (main : List ℕ) (answer : Named) (seg seg_new : Physical) (old new : M) : Type 0 where
  pub segment : IsPhysicalOf (contents new) seg_new
  pub programmed : IfPlaced answer
      (λ at. PageIsProgrammed seg at.name (written (page_with main tag stamp (wear_of seg (at.name / seg.size)))) (contents old) (contents new))
  pub crash : Crashes clock contents left seg tag stamp main old new answer

-- What a write does to the medium where the page was taken as erased: no other page changed.
pub record ProgramsOn {M : Type 0} (clock : M → ℕ) (contents : M → Image) (left : M → ℕ → Image → Type 0) (tag : Tag) (stamp : ℕ)
    (main : List ℕ) (answer : Named) (seg seg_new : Physical) (old new : M) : Type 0 where
  pub segment : IsPhysicalOf (contents new) seg_new
  pub alone : IfPlaced answer
      (λ at. IsAlone at.name (written (page_with main tag stamp (wear_of seg (at.name / seg.size)))) (contents old) (contents new))
  pub crash : Crashes clock contents left seg tag stamp main old new answer
