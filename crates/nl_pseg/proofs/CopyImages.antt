-- What the program of a copy leaves of the images of a segment.
use Rattle.std.proofs.Common.{◌≡◌, inl, inr, ⊎_elim, ℕ, ◌+◌, ◌/◌, ◌<◌, ◌≤◌, true, false, Option, Some, None, List, length, get_or, refl, sym, ◌∙◌, ap, subst, arith}
use Rattle.std.proofs.lemmas.Bool.{true≢false}
use Rattle.std.proofs.lemmas.Option.{none-some}
use Rattle.nl_field.specs.Page.{Image, Page, page_at}
use Rattle.nl_nand.specs.Nand.{Cut}
use Rattle.nl_pseg.specs.Effects.{PreservesSegment}
use Rattle.nl_pseg_pages.specs.Pages.{main_of, shown_by}
use Rattle.nl_pseg.specs.Segment.{CanSpareBlock, InVictim, IsDead, IsNextToProgram, IsNextCopy, IsPhysicalOf, Physical, TakenAsErased, held_at, is_kept, is_soiled}
use Rattle.nl_pseg_blocks.specs.Uses.{Use}
use Rattle.nl_pseg.specs.Seen.{IsPhysicalFormed, IsTied, seen}
use Rattle.nl_pseg.specs.Steps.{IsCopyUsed, IsLed, IsReadied}
use Rattle.nl_pseg.specs.declared.held.Held.{Held}
use Rattle.nl_pseg.specs.Kept.{Kept}
use Rattle.nl_pseg.proofs.CopyUsed.{copy_apart, copy_block, copy_in_use, copy_segment, is_copy}
use Rattle.nl_pseg.proofs.Images.{program_others, shows_same}
use Rattle.nl_pseg.proofs.Segments.{set_held}
use Rattle.nl_pseg.proofs.Tied.{old_is}

no_some : (o : Option Held) → ((h : Held) → o ≡ Some h → ⊥) → o ≡ None
no_some None never = refl
no_some (Some h) never = absurd (never h refl)

-- the page that the next copy is programmed on is not live
module _ (s : Kept) (is : IsPhysicalFormed s) (tied : IsTied s) (room : s.filled < s.blocks.size) where
  pub copy_dead : IsDead (seen s) (seen s).copy_next
  copy_dead = record {
    within = copy_segment s is tied room;
    dead = no_some (held_at (seen s) (seen s).copy_next) (λ h held. tied.behind (seen s).copy_next h held (is_copy s is tied room));
    own = λ old. (tied.named.standing (seen s).copy_next (old_is s (seen s).copy_next old)).copy_behind (is_copy s is tied room);
    apart = λ at. copy_apart s is tied room (at ∙ ap (λ b. Some b) (copy_block s is tied room));
  }

  pub copy_kept : is_kept (seen s) ((seen s).copy_next / s.blocks.size) ≡ false
  copy_kept = ap (is_kept (seen s)) (copy_block s is tied room) ∙ copy_in_use s is tied room

-- the next page for copies was used
module _ {x : Option Held} {seg new : Physical} (u : IsCopyUsed x seg new) where
  next_back : (p : ℕ) → IsNextToProgram new p → IsNextToProgram seg p
  next_back p n = let a = u.next.0 in let l = u.next.1 in (omega (arith, a, n.0), omega (arith, a, l, n.1))

  copy_back : (p : ℕ) → IsNextCopy new p → IsNextCopy seg p × (p ≡ seg.copy_next → ⊥)
  copy_back p n = let a = u.copy_next in let l = u.copy_left in ((omega (arith, a, n.0), omega (arith, a, l, n.1)), λ e. omega (arith, a, e, n.0))

  taken_back : is_kept seg (seg.copy_next / seg.size) ≡ false → (IsNextToProgram seg seg.copy_next → ⊥) → (p : ℕ) → TakenAsErased new p → TakenAsErased seg p × (p ≡ seg.copy_next → ⊥)
  taken_back in_use behind p (inl next) = (inl (next_back p next), λ e. behind (subst (IsNextToProgram seg) e (next_back p next)))
  taken_back in_use behind p (inr free) =
      let at : is_kept seg (p / seg.size) ≡ true = ap (λ (w : Use). w.is_kept) (sym (u.uses (p / seg.size))) ∙ (ap (λ n. is_kept new (p / n)) (sym u.pages.same_size) ∙ free.0) in
      let clean : is_soiled seg (p / seg.size) ≡ false = ap (λ (l : List (Option ℕ)). is_soiled (record seg { soiled = l }) (p / seg.size)) (sym u.soiled) ∙ (ap (λ n. is_soiled new (p / n)) (sym u.pages.same_size) ∙ free.1) in
      (inr (at, clean), λ e. true≢false (sym at ∙ (ap (λ q. is_kept seg (q / seg.size)) e ∙ in_use)))

  pub after_copy : {value : Page} {old c : Image} → seg.copy_next < length seg.held → is_kept seg (seg.copy_next / seg.size) ≡ false → (IsNextToProgram seg seg.copy_next → ⊥) → IsPhysicalOf old seg → Cut seg.copy_next (seg.copy_next + 1) value old c
      → ((h : Held) → x ≡ Some h → shown_by (page_at c seg.copy_next) ≡ Some (h.tag, h.stamp, main_of (page_at c seg.copy_next))) → IsPhysicalOf c new
  after_copy {value} {old} {c} within in_use behind was cut shows = record {
    holds = λ p h named. ⊎_elim
        (λ here. subst (λ n. shown_by (page_at c n) ≡ Some (h.tag, h.stamp, main_of (page_at c n))) (sym here.0) (shows h here.1))
        (λ there. shows_same h (program_others cut p there.0) (was.holds p h there.1))
        (set_held seg.held seg.copy_next x within p h (ap (λ (l : List (Option Held)). get_or l p None) (sym u.held) ∙ named));
    blank = λ p taken. let w = taken_back in_use behind p taken in program_others cut p w.1 ∙ was.blank p w.0;
    blank_copy = λ p next. let w = copy_back p next in program_others cut p w.1 ∙ was.blank_copy p w.0;
  }

-- the image of a segment whose names lead on to the copy
pub after_led : {before after : ℕ} {seg new : Physical} {c : Image} → IsLed before after seg new → before < length seg.held → IsPhysicalOf c seg → IsPhysicalOf c new
after_led {before} {after} {seg} {new} {c} l within was = record {
  holds = λ p h named. ⊎_elim
      (λ here. absurd (none-some h here.1))
      (λ there. was.holds p h there.1)
      (set_held seg.held before None within p h (ap (λ (x : List (Option Held)). get_or x p None) (sym l.held) ∙ named));
  blank = λ p taken. was.blank p (back p taken);
  blank_copy = λ p n. was.blank_copy p (let a = l.copies.0 in let e = l.copies.1 in (omega (arith, a, n.0), omega (arith, a, e, n.1)));
}
  where
    back : (p : ℕ) → TakenAsErased new p → TakenAsErased seg p
    back p (inl n) = inl (let a = l.next.0 in let e = l.next.1 in (omega (arith, a, n.0), omega (arith, a, e, n.1)))
    back p (inr free) = inr (
      ap (λ (w : Use). w.is_kept) (sym (l.uses (p / seg.size))) ∙ (ap (λ n. is_kept new (p / n)) (sym l.pages.same_size) ∙ free.0),
      ap (λ (xs : List (Option ℕ)). is_soiled (record seg { soiled = xs }) (p / seg.size)) (sym l.soiled) ∙ (ap (λ n. is_soiled new (p / n)) (sym l.pages.same_size) ∙ free.1),
    )

-- an image that keeps the segment has a spare block still
pub keeps_spare : {seg : Physical} {old c : Image} → PreservesSegment seg old c → CanSpareBlock old seg → CanSpareBlock c seg
keeps_spare {seg} {old} {c} keeps is = record {
  block = is.block;
  from = is.from;
  below = is.below;
  idle = is.idle;
  copied = λ p h held at.
      let w = is.copied p h held at in
      (w.0, w.1, w.2, ap shown_by (stays w.0 (λ dead. dead.apart w.1)) ∙ (w.3 ∙ sym (ap shown_by (stays p (λ dead. none-some h (sym dead.dead ∙ held))))));
}
  where
    stays : (p : ℕ) → (IsDead seg p → ⊥) → page_at c p ≡ page_at old p
    stays p not_dead = ⊎_elim (λ same. same) (λ dead. absurd (not_dead dead.0)) (keeps.each p)

-- a block may take copies
pub readied_spare : {seg mid : Physical} {c : Image} → IsReadied seg mid → CanSpareBlock c seg → CanSpareBlock c mid
readied_spare {seg} {mid} {c} r is = record {
  block = is.block;
  from = subst (λ n. n ≤ is.block) (sym r.pages.same_first) is.from;
  below = subst (λ n. is.block < n) (sym r.pages.same_blocks) is.below;
  idle = λ p n at. is.idle p (let a = r.next.0 in let l = r.next.1 in (omega (arith, a, n.0), omega (arith, a, l, n.1))) (ap (λ k. p / k) (sym r.pages.same_size) ∙ at);
  copied = λ p h held at.
      let w = is.copied p h (ap (λ (l : List (Option Held)). get_or l p None) (sym r.held) ∙ held) (ap (λ k. p / k) (sym r.pages.same_size) ∙ at) in
      (w.0, r.victim ∙ (w.1 ∙ ap (λ k. Some (w.0 / k)) (sym r.pages.same_size)), (λ e. w.2 (ap (λ k. w.0 / k) (sym r.pages.same_size) ∙ e)), w.3);
}

-- a page was used for a copy that failed
pub failed_spare : {seg new : Physical} {value : Page} {old c : Image} → IsCopyUsed None seg new → IsDead seg seg.copy_next → new.held ≡ seg.held → Cut seg.copy_next (seg.copy_next + 1) value old c → CanSpareBlock old seg → CanSpareBlock c new
failed_spare {seg} {new} {value} {old} {c} u dead held_is cut is = record {
  block = is.block;
  from = subst (λ n. n ≤ is.block) (sym u.pages.same_first) is.from;
  below = subst (λ n. is.block < n) (sym u.pages.same_blocks) is.below;
  idle = λ p n at. is.idle p (next_back u p n) (ap (λ k. p / k) (sym u.pages.same_size) ∙ at);
  copied = λ p h held at.
      let was : held_at seg p ≡ Some h = ap (λ (l : List (Option Held)). get_or l p None) (sym held_is) ∙ held in
      let w = is.copied p h was (ap (λ k. p / k) (sym u.pages.same_size) ∙ at) in (
        w.0,
        u.victim ∙ (w.1 ∙ ap (λ k. Some (w.0 / k)) (sym u.pages.same_size)),
        (λ e. w.2 (ap (λ k. w.0 / k) (sym u.pages.same_size) ∙ e)),
        ap shown_by (program_others cut w.0 (λ e. dead.apart (w.1 ∙ ap (λ q. Some (q / seg.size)) e))) ∙ (w.3 ∙ sym (ap shown_by (program_others cut p (λ e. none-some h (sym dead.dead ∙ (ap (held_at seg) (sym e) ∙ was)))))),
      );
}

-- a copy was programmed: where its block was to be done without, it stands in the victim too
pub copied_spare : {before : ℕ} {h : Held} {seg mid new : Physical} {value : Page} {old c : Image} → IsCopyUsed (Some h) seg mid → IsLed before seg.copy_next mid new → InVictim seg before → IsDead seg seg.copy_next → seg.copy_next < length seg.held → before < length mid.held
    → Cut seg.copy_next (seg.copy_next + 1) value old c → shown_by (page_at old before) ≡ shown_by (page_at c seg.copy_next) → CanSpareBlock old seg → CanSpareBlock c new
copied_spare {before} {h} {seg} {mid} {new} {value} {old} {c} u l victim dead within within_mid cut same is = record {
  block = is.block;
  from = subst (λ n. n ≤ is.block) (sym (l.pages.same_first ∙ u.pages.same_first)) is.from;
  below = subst (λ n. is.block < n) (sym (l.pages.same_blocks ∙ u.pages.same_blocks)) is.below;
  idle = λ p n at. is.idle p (next_back u p (let a = l.next.0 in let e = l.next.1 in (omega (arith, a, n.0), omega (arith, a, e, n.1)))) (ap (λ k. p / k) (sym size) ∙ at);
  copied = λ p k held at.
      ⊎_elim
      (λ gone. absurd (none-some k gone.1))
      (λ there. ⊎_elim
      (λ here.
      let in_block : seg.copy_next / seg.size ≡ is.block = ap (λ q. q / seg.size) (sym here.0) ∙ (ap (λ n. p / n) (sym size) ∙ at) in (
        before,
        now_in before victim,
        (λ e. dead.apart (victim ∙ ap (λ b. Some b) (ap (λ n. before / n) (sym size) ∙ (e ∙ sym in_block)))),
        ap shown_by (program_others cut before (λ e. dead.apart (victim ∙ ap (λ q. Some (q / seg.size)) e))) ∙ (same ∙ ap (λ q. shown_by (page_at c q)) (sym here.0)),
      ))
      (λ away.
      let w = is.copied p k away.1 (ap (λ n. p / n) (sym size) ∙ at) in (
        w.0,
        now_in w.0 w.1,
        (λ e. w.2 (ap (λ n. w.0 / n) (sym size) ∙ e)),
        ap shown_by (program_others cut w.0 (λ e. dead.apart (w.1 ∙ ap (λ q. Some (q / seg.size)) e))) ∙ (w.3 ∙ sym (ap shown_by (program_others cut p away.0))),
      ))
      (set_held seg.held seg.copy_next (Some h) within p k (ap (λ (x : List (Option Held)). get_or x p None) (sym u.held) ∙ there.1)))
      (set_held mid.held before None within_mid p k (ap (λ (x : List (Option Held)). get_or x p None) (sym l.held) ∙ held));
}
  where
    size : new.size ≡ seg.size
    size = l.pages.same_size ∙ u.pages.same_size

    now_in : (q : ℕ) → InVictim seg q → InVictim new q
    now_in q at = l.victim ∙ (u.victim ∙ (at ∙ ap (λ n. Some (q / n)) (sym size)))
