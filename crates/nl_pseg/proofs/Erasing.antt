-- What an erase of a victim leaves of the images of a segment.
use Rattle.std.proofs.Common.{◌≡◌, inl, inr, ⊎_elim, ℕ, ◌+◌, ◌*◌, ◌/◌, ◌<◌, ◌≤◌, false, Option, Some, None, get_or, is_some, refl, sym, ◌∙◌, ap, subst, arith, List}
use Rattle.std.proofs.lemmas.Bool.{cases_eq, true≢false}
use Rattle.std.proofs.lemmas.Option.{none-some}
use Rattle.nl_blocks.specs.declared.states.BlockState.{BlockState}
use Rattle.nl_blocks.specs.declared.states.BlockState.TheVariants.{Victim}
use Rattle.nl_blocks.specs.Table.{HasBlock, block_at}
use Rattle.nl_field.specs.Page.{Image, erased, page_at}
use Rattle.nl_nand.specs.Nand.{Cut}
use Rattle.nl_nand.proofs.Crashes.{start}
use Rattle.nl_pseg.specs.Cleaning.{ErasesBlock, KeepsBeside}
use Rattle.nl_pseg.specs.Copies.{ErasesIfDone, ErasesOn}
use Rattle.nl_pseg.specs.Segment.{CanSpareBlock, IsClean, IsNextToProgram, IsNextCopy, IsPhysicalOf, KeepsBlock, Physical, TakenAsErased, held_at, is_kept, is_soiled, soiled}
use Rattle.nl_pseg.specs.Seen.{IsPhysicalFormed, IsTied, seen}
use Rattle.nl_pseg_blocks.specs.Uses.{Use, is_kept_state}
use Rattle.nl_pseg.specs.declared.cleaned.Erasure.{Erasure}
use Rattle.nl_pseg.specs.declared.cleaned.Erasure.TheVariants as the
use Rattle.nl_pseg.specs.declared.held.Held.{Held}
use Rattle.nl_pseg.specs.Kept.{Kept}
use Rattle.nl_pseg.proofs.Images.{shows_same}
use Rattle.nl_pseg.proofs.Numbers.{block_of}
use Rattle.nl_pseg.proofs.States.{kept_block, next_block}
use Rattle.nl_pseg_blocks.proofs.Tables.{use_here}
use Rattle.nl_pseg.proofs.Tied.{not_copy}

pub keeps_beside : (seg : Physical) (block g : ℕ) {old c : Image} → g ≡ seg.size → Cut (block * g) (block * g + g) erased old c → KeepsBeside seg block old c
keeps_beside seg block g same cut p = ⊎_elim
    (λ is. inl is)
    (λ w. inr (block_of p seg.size block (subst (λ k. block * k ≤ p) same w.0) (subst (λ k. p < block * k + k) same w.1), w.2))
    (cut.each p)

module _ (s : Kept) (is : IsPhysicalFormed s) (tied : IsTied s) (block : ℕ) (named : s.victim ≡ Some block) where
  has : HasBlock s.blocks block
  has = (tied.phases.victim_in block named).0

  state : (block_at s.blocks block).state ≡ Victim
  state = (tied.phases.victim_in block named).1

  pub apart_next : (p : ℕ) → IsNextToProgram (seen s) p → p / s.blocks.size ≡ block → ⊥
  apart_next p next at =
      let fits = is.used_fits in
      let room : s.used < s.blocks.size = omega (arith, next.0, next.1, fits) in
      cc (sym (is.taken room) ∙ (ap (λ b. (block_at s.blocks b).state) (sym (next_block s is room p next) ∙ at) ∙ state))

  pub apart_copy : (p : ℕ) → IsNextCopy (seen s) p → p / s.blocks.size ≡ block → ⊥
  apart_copy p next at = not_copy s is tied block has Victim state (λ e. cc e) p next at

  pub in_use : is_kept (seen s) block ≡ false
  in_use = ap (λ (u : Use). u.is_kept) (use_here s.blocks block has) ∙ ap (λ (b : BlockState). is_kept_state b) state

  module _ (dead : (p : ℕ) → p / s.blocks.size ≡ block → held_at (seen s) p ≡ None) where
    -- any image has a spare block then
    pub dead_spare : (image : Image) → CanSpareBlock image (seen s)
    dead_spare image = record { block = block; from = has.from; below = has.below; idle = apart_next; copied = λ p h held at. absurd (none-some h (sym (dead p at) ∙ held)) }

    -- an erase was cut
    pub cut_segment : {old c : Image} → IsPhysicalOf old (seen s) → ((p : ℕ) → (p / s.blocks.size ≡ block → ⊥) → page_at c p ≡ page_at old p) → IsPhysicalOf c (seen s)
    cut_segment {old} {c} was others = record {
      holds = λ p h held. shows_same h (others p (λ at. none-some h (sym (dead p at) ∙ held))) (was.holds p h held);
      blank = λ p taken. others p (apart p taken) ∙ was.blank p taken;
      blank_copy = λ p next. others p (apart_copy p next) ∙ was.blank_copy p next;
    }
      where
        apart : (p : ℕ) → TakenAsErased (seen s) p → p / s.blocks.size ≡ block → ⊥
        apart p (inl next) at = apart_next p next at
        apart p (inr free) at = true≢false (sym free.0 ∙ (ap (is_kept (seen s)) at ∙ in_use))

    -- an erase was done
    module _ {new : Physical} (e : ErasesBlock block (seen s) new) where
      next_back : (p : ℕ) → IsNextToProgram new p → IsNextToProgram (seen s) p
      next_back p n = let a = e.next.0 in let l = e.next.1 in (omega (arith, a, n.0), omega (arith, a, l, n.1))

      copy_back : (p : ℕ) → IsNextCopy new p → IsNextCopy (seen s) p
      copy_back p n = let a = e.copies.0 in let l = e.copies.1 in (omega (arith, a, n.0), omega (arith, a, l, n.1))

      held_back : (p : ℕ) (h : Held) → held_at new p ≡ Some h → held_at (seen s) p ≡ Some h
      held_back p h held = ap (λ (l : List (Option Held)). get_or l p None) (sym e.tables.same_held) ∙ held

      pub done_spare : (image : Image) → CanSpareBlock image new
      done_spare image = record {
        block = block;
        from = subst (λ n. n ≤ block) (sym e.tables.same_first) has.from;
        below = subst (λ n. block < n) (sym e.tables.same_blocks) has.below;
        idle = λ p next at. apart_next p (next_back p next) (ap (λ n. p / n) (sym e.tables.same_size) ∙ at);
        copied = λ p h held at. absurd (none-some h (sym (dead p (ap (λ n. p / n) (sym e.tables.same_size) ∙ at)) ∙ held_back p h held));
      }

      pub done_segment : {old c : Image} → IsPhysicalOf old (seen s) → ((p : ℕ) → (p / s.blocks.size ≡ block → ⊥) → page_at c p ≡ page_at old p) → ((p : ℕ) → p / s.blocks.size ≡ block → page_at c p ≡ erased) → IsPhysicalOf c new
      done_segment {old} {c} was others blank_here = record {
        holds = λ p h held. shows_same h (others p (λ at. none-some h (sym (dead p at) ∙ held_back p h held))) (was.holds p h (held_back p h held));
        blank = λ p taken. blank p taken;
        blank_copy = λ p next. others p (apart_copy p (copy_back p next)) ∙ was.blank_copy p (copy_back p next);
      }
        where
          blank : (p : ℕ) → TakenAsErased new p → page_at c p ≡ erased
          blank p (inl next) = others p (apart_next p (next_back p next)) ∙ was.blank p (inl (next_back p next))
          blank p (inr free) = ⊎_elim
              (λ at. blank_here p at)
              (λ ne. others p ne ∙ was.blank p (inr (
                sym (e.keeps (p / s.blocks.size) ne) ∙ (ap (λ n. is_kept new (p / n)) (sym e.tables.same_size) ∙ free.0),
                ap is_some (sym (e.same_soiled (p / s.blocks.size) ne)) ∙ (ap (λ n. is_soiled new (p / n)) (sym e.tables.same_size) ∙ free.1),
              )))
              (cases_eq (p / s.blocks.size) block)

-- what an erase leaves of a segment
module _ {block : ℕ} {old new : Physical} (e : ErasesBlock block old new) where
  pub erases_clean : IsClean old → IsClean new
  erases_clean clean b free = ⊎_elim
      (λ at. ap is_some (ap (soiled new) at ∙ e.clean))
      (λ ne. ap is_some (e.same_soiled b ne) ∙ clean b (sym (e.keeps b ne) ∙ free))
      (cases_eq b block)

-- the block that was the victim is kept then
pub erases_kept : {block : ℕ} {old : Physical} (s : Kept) → ErasesBlock block old (seen s) → KeepsBlock (seen s)
erases_kept {block} s e = let has = kept_block s block e.kept in record { block = block; from = has.from; below = has.below; kept = inl e.kept }

-- the erase was done
pub done_erases : {block : ℕ} {old : Physical} (s : Kept) → ErasesBlock block old (seen s) → ErasesIfDone the.Done old (seen s)
done_erases {block} s e = record {
  kept = λ not. absurd (not refl);
  erased = λ done. (block, e);
  clean = erases_clean e;
  kept_block = λ k. erases_kept s e;
}

-- the victim was not erased
pub not_erases : (answer : Erasure) (seg : Physical) → (answer ≡ the.Done → ⊥) → ErasesIfDone answer seg seg
not_erases answer seg not = record {
  kept = λ un. refl;
  erased = λ done. absurd (not done);
  clean = λ clean. clean;
  kept_block = λ k. k;
}

-- there was nothing to erase
pub nothing_erases_on : {M : Type 0} {clock : M → ℕ} {contents : M → Image} {left : M → ℕ → Image → Type 0} {seg : Physical} (a : M) → IsPhysicalOf (contents a) seg → ErasesOn clock contents left the.Nothing seg seg a a
nothing_erases_on {clock = clock} {contents = contents} {left = left} {seg = seg} a is = record {
  segment = is;
  spare = λ not. absurd (not refl);
  pages = λ block named p. inl refl;
  crash = λ block named. start a (λ m c. KeepsBeside seg block (contents a) c);
}
