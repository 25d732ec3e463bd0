-- Pages of the medium, and counts of its calls that failed.
use Rattle.std.proofs.Common.{◌≡◌, inl, ⊎_elim, ℕ, ◌*◌, ◌<◌, List, refl, sym, ◌∙◌, ap, arith}
use Rattle.nl_field.specs.CrashStates.{Turns}
use Rattle.nl_field.specs.Page.{Image}
use Rattle.nl_field.specs.declared.answers.Named.{Named}
use Rattle.nl_field.specs.declared.pointer.Tag.{Tag}
use Rattle.nl_nand.specs.Nand.{FaultsCounted, SameCrashStates}
use Rattle.nl_nand.specs.declared.answers.WriteAnswer.TheVariants as wrote
use Rattle.nl_nand.specs.declared.geometry.Geometry.{Geometry}
use Rattle.nl_nand.proofs.Crashes.{start}
use Rattle.nl_pseg.specs.Answers.{IsPlaced, NamesPage}
use Rattle.nl_pseg.specs.Effects.{Crashes, PreservesSegment, PlacesOnImage}
use Rattle.nl_pseg.specs.Segment.{Physical, SameBlocksAndPages, wear_of}
use Rattle.nl_pseg.specs.Seen.{FitsPhysical}
use Rattle.nl_pseg.specs.Steps.{OpensForProgram}
use Rattle.nl_pseg.proofs.Images.{keeps_nothing}
use Rattle.nl_pseg.proofs.Numbers.{block_from}

-- a page below the end of the segment is one of the medium
pub within_medium : {geometry : Geometry} {seg : Physical} → FitsPhysical geometry seg → (page : ℕ) → page < seg.blocks * seg.size → page < geometry.blocks * geometry.pages
within_medium {geometry} {seg} fits page less =
    let low = block_from seg.blocks geometry.blocks seg.size fits.blocks in
    let same : geometry.blocks * geometry.pages ≡ geometry.blocks * seg.size = ap (λ n. geometry.blocks * n) fits.pages in
    omega (arith, less, low, same)

-- the medium fits a segment of the same blocks and pages
pub fits_then : {g h : Geometry} {seg new : Physical} → h ≡ g → SameBlocksAndPages seg new → FitsPhysical g seg → FitsPhysical h new
fits_then {g} {h} {seg} {new} same pages fits =
    let e = pages.same_blocks in
    let b = fits.blocks in
    let n = ap (λ (x : Geometry). x.blocks) same in
    record { pages = ap (λ (x : Geometry). x.pages) same ∙ (fits.pages ∙ sym pages.same_size); blocks = omega (arith, e, b, n) }

pub opening_pages : {old new : Physical} → OpensForProgram wrote.Done old new → SameBlocksAndPages old new
opening_pages {old} {new} opening = ⊎_elim
    (λ same. record {
      same_first = ap (λ (s : Physical). s.first) same.1;
      same_blocks = ap (λ (s : Physical). s.blocks) same.1;
      same_size = ap (λ (s : Physical). s.size) same.1;
      same_wear = λ b. ap (λ (s : Physical). wear_of s b) same.1;
    })
    (λ opened. opened.1.pages)
    opening

-- a count of calls that failed, where this one failed, under another word for that
pub failed_fault : {before now : ℕ} {was is : Type 0} → FaultsCounted before now was → was → is → FaultsCounted before now is
failed_fault counted failed here = record { never_falls = counted.never_falls; cause = λ x. counted.cause failed; stays = λ not. absurd (not here) }

-- the count of faults where the call did not fail
pub done_unfailed : {before now : ℕ} {was is : Type 0} → FaultsCounted before now was → (was → ⊥) → (is → ⊥) → FaultsCounted before now is
done_unfailed counted well here = record { never_falls = counted.never_falls; cause = λ x. absurd (here x); stays = λ not. counted.stays well }

-- the count of faults where no call was made
pub none_failed : {n : ℕ} {failed : Type 0} → (failed → ⊥) → FaultsCounted n n failed
none_failed well = record { never_falls = omega arith; cause = λ x. absurd (well x); stays = λ not. refl }

pub same_left : {M : Type 0} {left : M → ℕ → Image → Type 0} {a : M} → SameCrashStates left a a
same_left = record { no_more = λ m c l. l; no_fewer = λ m c l. l }

pub nothing_crashes : {M : Type 0} {clock : M → ℕ} {contents : M → Image} {left : M → ℕ → Image → Type 0} {seg : Physical} (a : M) (tag : Tag) (stamp : ℕ) (main : List ℕ) (answer : Named) → NamesPage 0 stamp answer
    → Crashes clock contents left seg tag stamp main a a answer
nothing_crashes {M} {clock} {contents} {left} {seg} a tag stamp main answer named = record {
  page = 0;
  named = named;
  either = inl (keeps_nothing seg (contents a));
  crash = start a (Turns (IsPlaced answer) (clock a) (λ c. PreservesSegment seg (contents a) c) (λ c. PlacesOnImage seg 0 tag stamp main (contents a) c));
}
