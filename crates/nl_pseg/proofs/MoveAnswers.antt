-- What a move and its steps do, by their answer.
use Rattle.std.proofs.Common.{◌≡◌, ⊎_elim, inr, ℕ, ◌/◌, ◌<◌, false, List, Option, None, Some, get_or, refl, sym, ◌∙◌, ap, subst}
use Rattle.nl_field.specs.Page.{Image, page_at, written}
use Rattle.nl_nand.specs.declared.answers.WriteAnswer.TheVariants as wrote
use Rattle.nl_pseg_pages.specs.Pages.{main_of, page_with}
use Rattle.nl_pseg.specs.Answers.{IfPlaced}
use Rattle.nl_pseg.specs.Cleaning.{IfMoved, IsMoved, MovesLivePage, programmed_by}
use Rattle.nl_pseg.specs.Copies.{CopiesOn, CopiesPage}
use Rattle.nl_pseg.specs.Effects.{Crashes, PageIsProgrammed}
use Rattle.nl_pseg.specs.Kept.{Kept}
use Rattle.nl_pseg.specs.Moving.{LandsPage, MovesOn, MovesPageOrNone}
use Rattle.nl_pseg.specs.Seen.{IsTied, seen}
use Rattle.nl_pseg.specs.Segment.{CanSpareBlock, InVictim, IsDead, IsNextToProgram, IsPhysicalOf, KeepsBlock, Physical, held_at, is_kept, wear_of}
use Rattle.nl_pseg.specs.Space.{HasFewPairs}
use Rattle.nl_pseg.specs.Steps.{IsAlone, IsCopyUsed, IsLed, IsReadied, ReadiedOn}
use Rattle.nl_pseg.specs.declared.cleaned.Copied.{Copied}
use Rattle.nl_pseg.specs.declared.cleaned.Copied.TheVariants as copy
use Rattle.nl_pseg.specs.declared.held.Held.{Held}
use Rattle.nl_pseg.proofs.Apart.{fault_lost, nothing_lost}
use Rattle.nl_pseg.proofs.Moved.{moved, moved_clean, moved_few, moved_room, moves_then, none_then, readied_dead, readied_none, still_none, unmoved, unmoved_clean, unmoved_few, unmoved_room}
use Rattle.nl_pseg.proofs.Tries.{copied_given, copied_tries, led_given}
use Rattle.nl_pseg.proofs.MoveSteps.{if_moved, landed_programmed, moved_if, moved_or_not}

-- no page was moved
if_none : (answer : Copied) (P : ℕ → ℕ → Held → Type 0) → (IsMoved answer → ⊥) → IfMoved answer P
if_none (copy.Moved before after tag stamp) P never = absurd (never tt)
if_none copy.Nothing P never = tt
if_none (copy.Lost wanted found) P never = tt
if_none copy.Fault P never = tt

-- the victim is a block that is kept for the cleaner
victim_kept : (s : Kept) → IsTied s → (block : ℕ) → s.victim ≡ Some block → KeepsBlock (seen s)
victim_kept s tied block named = let has = (tied.phases.victim_in block named).0 in record { block = block; from = has.from; below = has.below; kept = inr named }

-- the segment is as it was
pub nothing_copied : (seg : Physical) → CopiesPage copy.Nothing seg seg
nothing_copied seg = record { moved = tt; kept = λ not. still_none seg; lost = λ w f e. absurd (nothing_lost e); clean = λ clean. clean; kept_block = λ k. k }

-- the page that was read is lost, or could not be read
pub lost_moves : (seg : Physical) (page : ℕ) (h : Held) (w f : ℕ) → ((v g : ℕ) → copy.Lost w f ≡ copy.Lost v g → (g ≡ v → ⊥) × (h.stamp ≡ v)) → MovesPageOrNone page h (copy.Lost w f) seg seg
lost_moves seg page h w f lost = record { moved = tt; kept = λ not. still_none seg; lost = lost; clean = λ clean. clean }

pub fault_moves : (seg : Physical) (page : ℕ) (h : Held) → MovesPageOrNone page h copy.Fault seg seg
fault_moves seg page h = record { moved = tt; kept = λ not. still_none seg; lost = λ w f e. absurd (fault_lost e); clean = λ clean. clean }

-- no page could be had for the copy
pub readied_moves : {seg mid : Physical} (page : ℕ) (h : Held) → IsReadied seg mid → MovesPageOrNone page h copy.Fault seg mid
readied_moves page h r = record { moved = tt; kept = λ not. readied_none r; lost = λ w f e. absurd (fault_lost e); clean = r.clean }

-- the copy landed, or its program failed
pub landed_moves : {seg mid new : Physical} {page : ℕ} {h : Held} (answer : Copied) → IsReadied seg mid → LandsPage page h answer mid new → MovesPageOrNone page h answer seg new
landed_moves answer r l = record {
  moved = if_moved answer (λ b a held m. (m.0, m.2, moves_then r l.same_room m.3)) l.moved;
  kept = λ not. none_then r l.same_room (l.kept not).1;
  lost = λ w f e. absurd (fault_lost (sym (l.kept (λ m. subst IsMoved e m)).0 ∙ e));
  clean = λ clean. l.clean (r.clean clean);
}

-- some live page of the victim was moved, or none was
pub moves_copied : {seg : Physical} (n : Kept) (page : ℕ) (h : Held) (answer : Copied) → IsTied n → InVictim seg page → held_at seg page ≡ Some h → MovesPageOrNone page h answer seg (seen n) → CopiesPage answer seg (seen n)
moves_copied {seg} n page h answer tied victim live m = record {
  moved = if_moved answer (λ b a held x. x.2) m.moved;
  kept = m.kept;
  lost = λ w f e. let lost = m.lost w f e in (lost.0, (page, h, victim, live, lost.1));
  clean = m.clean;
  kept_block = λ k. victim_kept n tied (page / seg.size) (⊎_elim (λ moved. moved_if answer moved (λ b a held x. x.2.victim) m.moved) (λ not. (m.kept not).victim) (moved_or_not answer) ∙ victim);
}

-- the program of the copy failed
pub landed_none : {seg new : Physical} (page : ℕ) (h : Held) → IsCopyUsed None seg new → 0 < seg.copy_left → is_kept seg (seg.copy_next / seg.size) ≡ false → (IsNextToProgram seg seg.copy_next → ⊥) → IsDead seg seg.copy_next → LandsPage page h copy.Fault seg new
landed_none page h used some in_use apart dead = record {
  moved = tt;
  kept = λ not. (refl, unmoved used dead.dead);
  same_room = unmoved_room used;
  clean = unmoved_clean used;
  tried = copied_tries used some in_use apart;
  others = copied_given used;
  same_soiled = λ b. ap (λ (l : List (Option ℕ)). get_or l b None) used.soiled;
}

-- the copy was programmed, and the names lead to it
pub landed_moved : {seg mid new : Physical} (page after : ℕ) (h : Held) → after ≡ seg.copy_next → IsCopyUsed (Some h) seg mid → IsLed page after mid new → InVictim seg page → held_at seg page ≡ Some h → 0 < seg.copy_left → is_kept seg (seg.copy_next / seg.size) ≡ false → (IsNextToProgram seg seg.copy_next → ⊥) → IsDead seg seg.copy_next
    → LandsPage page h (copy.Moved page after h.tag h.stamp) seg new
landed_moved {seg} {mid} {new} page after h at used at_after victim live some in_use apart dead =
    let led : IsLed page seg.copy_next mid new = subst (λ n. IsLed page n mid new) at at_after in
    record {
      moved = (refl, at, refl, subst (λ n. MovesLivePage page n h seg new) (sym at) (moved used led victim live dead));
      kept = λ not. absurd (not tt);
      same_room = moved_room used led;
      clean = moved_clean used led;
      tried = let t = copied_tries used some in_use apart in record { first = t.first; spent = λ given. t.spent (led_given led seg.copy_next given) };
      others = λ p given. copied_given used p (led_given led p given);
      same_soiled = λ b. ap (λ (l : List (Option ℕ)). get_or l b None) (led.soiled ∙ used.soiled);
    }

pub landed_few : {page : ℕ} {h : Held} (answer : Copied) {seg new : Physical} → LandsPage page h answer seg new → HasFewPairs seg → HasFewPairs new
landed_few answer l few = ⊎_elim (λ is. moved_if answer is (λ b a held m. moved_few m.3 few) l.moved) (λ not. unmoved_few (l.kept not).1 few) (moved_or_not answer)

-- the medium is as it was
pub nothing_copied_on : {M : Type 0} {clock : M → ℕ} {contents : M → Image} {left : M → ℕ → Image → Type 0} {seg : Physical} (a : M) → IsPhysicalOf (contents a) seg → CopiesOn clock contents left copy.Nothing seg seg a a
nothing_copied_on a is = record {
  told = λ w f e. nothing_lost e;
  segment = is;
  spare = λ spare. spare;
  programmed = tt;
  crash = λ some. absurd (some refl);
}

-- the medium has the same pages after a read
pub read_moves_on : {M : Type 0} {clock : M → ℕ} {contents : M → Image} {left : M → ℕ → Image → Type 0} {seg : Physical} {a r : M} (page : ℕ) (h : Held) (answer : Copied) → (IsMoved answer → ⊥) → ((w f : ℕ) → answer ≡ copy.Lost w f → ⊥) → contents r ≡ contents a
    → IsPhysicalOf (contents a) seg → Crashes clock contents left seg h.tag h.stamp (main_of (page_at (contents a) page)) a r (programmed_by answer) → MovesOn clock contents left page h answer seg seg a r
read_moves_on {seg = seg} page h answer not told same is crash = record {
  told = told;
  segment = subst (λ i. IsPhysicalOf i seg) (sym same) is;
  spare = λ spare. subst (λ i. CanSpareBlock i seg) (sym same) spare;
  programmed = if_none answer _ not;
  crash = crash;
}

pub moves_copied_on : {M : Type 0} {clock : M → ℕ} {contents : M → Image} {left : M → ℕ → Image → Type 0} {seg new : Physical} {a d : M} (page : ℕ) (h : Held) (answer : Copied) → InVictim seg page → held_at seg page ≡ Some h → MovesPageOrNone page h answer seg new
    → MovesOn clock contents left page h answer seg new a d → CopiesOn clock contents left answer seg new a d
moves_copied_on page h answer victim live moves m = record {
  told = m.told;
  segment = m.segment;
  spare = m.spare;
  programmed = m.programmed;
  crash = λ some. record { before = page; h = h; in_victim = victim; was = live; moved = if_moved answer (λ b a held x. (x.0, x.1)) moves.moved; crash = m.crash };
}

-- the page that was moved is programmed as it was
pub copied_programmed : {M : Type 0} {clock : M → ℕ} {contents : M → Image} {left : M → ℕ → Image → Type 0} {seg mid new : Physical} {a m : M} (d : M) (answer : Copied) → IsReadied seg mid → (h : Held) (main : List ℕ) (page : ℕ) → ReadiedOn clock contents left wrote.Done seg mid a m
    → main_of (page_at (contents a) page) ≡ main → LandsPage page h answer mid new
    → IfPlaced (programmed_by answer) (λ at. IsAlone at.name (written (page_with main h.tag h.stamp (wear_of mid (at.name / mid.size)))) (contents m) (contents d))
    → IfMoved answer (λ before after held. PageIsProgrammed seg after (written (page_with (main_of (page_at (contents a) before)) held.tag held.stamp (wear_of seg (after / seg.size)))) (contents a) (contents d))
copied_programmed {contents = contents} {seg = seg} {a = a} d (copy.Moved before after tag stamp) r h main page on bytes l alone =
    let m = l.moved in
    let same_held : h ≡ record { tag = tag; stamp = stamp } = sym m.2 in
    let same_main : main ≡ main_of (page_at (contents a) before) = sym (ap (λ p. main_of (page_at (contents a) p)) m.0 ∙ bytes) in
    subst (λ v. PageIsProgrammed seg after v (contents a) (contents d)) (λ i. written (page_with (same_main i) (same_held i).tag (same_held i).stamp (wear_of seg (after / seg.size))))
    (landed_programmed r h.tag h.stamp main after on (readied_dead r after m.3.dead) m.1 alone)
copied_programmed d copy.Nothing r h main page on bytes l alone = tt
copied_programmed d (copy.Lost wanted found) r h main page on bytes l alone = tt
copied_programmed d copy.Fault r h main page on bytes l alone = tt
