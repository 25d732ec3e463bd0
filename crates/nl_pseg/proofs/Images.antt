-- What programs and erases leave of a segment.
use Rattle.std.proofs.Common.{◌≡◌, ◌⊎◌, inl, inr, ⊎_elim, ℕ, ◌+◌, ◌*◌, ◌/◌, ◌<◌, ◌≤◌, true, false, Option, Some, None, List, length, get_or, set, refl, sym, ◌∙◌, ap, subst, arith, is_some}
use Rattle.std.proofs.lemmas.Bool.{cases_eq, true≢false}
use Rattle.std.proofs.lemmas.List.{get_or-set_other}
use Rattle.std.proofs.lemmas.Option.{none-some, same_Some}
use Rattle.nl_field.specs.Page.{Page, PageBytes, erased, written, Image, page_at}
use Rattle.nl_field.specs.declared.answers.Named.{Named}
use Rattle.nl_field.specs.declared.pointer.Tag.{Tag}
use Rattle.nl_nand.specs.declared.answers.WriteAnswer.{WriteAnswer}
use Rattle.nl_nand.specs.declared.answers.WriteAnswer.TheVariants as write
use Rattle.nl_nand.specs.Nand.{CrashLeaves, Cut, Filled, OperationLeaves, ticked}
use Rattle.nl_nand.proofs.Crashes.{leaves_cut, leaves_done, operation_turns}
use Rattle.nl_nand.specs.ImageLaws.{filled_cut}
use Rattle.nl_pseg.specs.Effects.{Crashes, PreservesSegment, PlacesOnImage, TakesImagePage}
use Rattle.nl_pseg.specs.Answers.{IsPlaced, NamesPage}
use Rattle.nl_pseg_pages.specs.Pages.{IsUnreadable, main_of, page_with, shown_by}
use Rattle.nl_pseg.specs.Segment.{Physical, IsDead, IsNextCopy, IsOldName, IsPhysicalOf, IsUnspent, SameBlocksAndPages, TakenAsErased, held_at, is_kept, is_soiled, soiled, wear_of}
use Rattle.nl_pseg_blocks.specs.Uses.{Use}
use Rattle.nl_pseg.specs.Seen.{AreLivePlaces}
use Rattle.nl_pseg.specs.Steps.{IsAlone, OpensFreeBlock, UsesNextPage}
use Rattle.nl_pseg.specs.declared.held.Held.{Held}
use Rattle.nl_pseg.proofs.Numbers.{block_of, block_below, block_from}
use Rattle.nl_pseg.proofs.Segments.{copy_same, dead_kept, kept_within, opened_next, set_held, unspent_taken, used_taken}

-- apart from its page
pub program_others : {page : ℕ} {value : Page} {old c : Image} → Cut page (page + 1) value old c → (p : ℕ) → (p ≡ page → ⊥) → page_at c p ≡ page_at old p
program_others cut p ne = ⊎_elim (λ same. same) (λ w. absurd (ne (omega (arith, w.0, w.1)))) (cut.each p)

module _ (seg : Physical) (page : ℕ) (dead : IsDead seg page) {value : Page} {old c : Image} where
  keeps_page : Cut page (page + 1) value old c → (page_at c page ≡ page_at old page) ⊎ (IsDead seg page × IsUnreadable (page_at c page)) → PreservesSegment seg old c
  keeps_page cut here = record {
    each = λ p. ⊎_elim
        (λ is. subst (λ n. (page_at c n ≡ page_at old n) ⊎ (IsDead seg n × IsUnreadable (page_at c n))) (sym is) here)
        (λ ne. inl (program_others cut p ne))
        (cases_eq p page);
  }

  pub put_either : Cut page (page + 1) value old c → PreservesSegment seg old c ⊎ TakesImagePage seg page value old c
  put_either cut = ⊎_elim
      (λ same. inl (keeps_page cut (inl same)))
      (λ w. ⊎_elim
      (λ new. inr (record { dead = dead; has = new; others = λ p ne. inl (program_others cut p ne) }))
      (λ lost. inl (keeps_page cut (inr (dead, inr lost))))
      w.2)
      (cut.each page)

  pub put_takes : Filled page (page + 1) value old c → TakesImagePage seg page value old c
  put_takes filled = record {
    dead = dead;
    has = filled.inside page (omega arith) (omega arith);
    others = λ p ne. inl (program_others (filled_cut filled) p ne);
  }

-- a program leaves all other pages
pub put_alone : {page : ℕ} {value : Page} {old c : Image} → Filled page (page + 1) value old c → IsAlone page value old c
put_alone {page} filled = record { has = filled.inside page (omega arith) (omega arith); others = program_others (filled_cut filled) }

-- an erase of a Free block
pub erase_keeps : (seg : Physical) (block g : ℕ) {old c : Image} → g ≡ seg.size → seg.blocks ≡ seg.first + length seg.uses → AreLivePlaces seg → is_kept seg block ≡ true → ((p : ℕ) → p / seg.size ≡ block → IsOldName seg p → ⊥) → (seg.victim ≡ Some block → ⊥)
    → Cut (block * g) (block * g + g) erased old c → PreservesSegment seg old c
erase_keeps seg block g {old} {c} is count are free own apart cut = record {
  each = λ p. ⊎_elim (λ same. inl same) (λ w. inr (dead p w.0 w.1, w.2)) (cut.each p);
}
  where
    dead : (p : ℕ) → block * g ≤ p → p < block * g + g → IsDead seg p
    dead p low high =
        let from : block * seg.size ≤ p = subst (λ k. block * k ≤ p) is low in
        let below : p < block * seg.size + seg.size = subst (λ k. p < block * k + k) is high in
        let range = kept_within seg.first seg.uses block free in
        let first = block_from seg.first block seg.size range.0 in
        let last = block_below block seg.blocks seg.size (omega (arith, count, range.1)) in
        record {
          within = (omega (arith, first, from), omega (arith, last, below));
          dead = dead_kept seg are p (ap (is_kept seg) (block_of p seg.size block from below) ∙ free);
          own = own p (block_of p seg.size block from below);
          apart = λ at. apart (at ∙ ap (λ b. Some b) (block_of p seg.size block from below));
        }

-- what an erase leaves of the pages of all other blocks
pub erase_others : (block g size : ℕ) {old c : Image} → g ≡ size → Cut (block * g) (block * g + g) erased old c → (p : ℕ) → (p / size ≡ block → ⊥) → page_at c p ≡ page_at old p
erase_others block g size is cut p ne = ⊎_elim
    (λ same. same)
    (λ w. absurd (ne (block_of p size block (subst (λ k. block * k ≤ p) is w.0) (subst (λ k. p < block * k + k) is w.1))))
    (cut.each p)

pub keeps_nothing : (seg : Physical) (image : Image) → PreservesSegment seg image image
keeps_nothing seg image = record { each = λ p. inl refl }

-- an image keeps the segment, and another one keeps what it then is
module _ {seg mid : Physical} {a b : Image} (dead : (p : ℕ) → IsDead mid p → IsDead seg p) (first : PreservesSegment seg a b) where
  after : (c : Image) (p : ℕ) → (page_at c p ≡ page_at b p) ⊎ (IsDead mid p × IsUnreadable (page_at c p)) → (page_at c p ≡ page_at a p) ⊎ (IsDead seg p × IsUnreadable (page_at c p))
  after c p (inl same) = ⊎_elim (λ still. inl (same ∙ still)) (λ gone. inr (gone.0, subst IsUnreadable (sym same) gone.1)) (first.each p)
  after c p (inr gone) = inr (dead p gone.0, gone.1)

  pub keeps_then : {c : Image} → PreservesSegment mid b c → PreservesSegment seg a c
  keeps_then {c} second = record { each = λ p. after c p (second.each p) }

  pub takes_then : {page : ℕ} {value : Page} {c : Image} → TakesImagePage mid page value b c → TakesImagePage seg page value a c
  takes_then {page} {value} {c} second = record { dead = dead page second.dead; has = second.has; others = λ p ne. after c p (second.others p ne) }

-- what a live page shows stays where the page does
pub shows_same : (h : Held) {x y : Page} → y ≡ x → shown_by x ≡ Some (h.tag, h.stamp, main_of x) → shown_by y ≡ Some (h.tag, h.stamp, main_of y)
shows_same h {x} {y} same shows = subst (λ (q : Page). shown_by q ≡ Some (h.tag, h.stamp, main_of q)) (sym same) shows

-- the next page was used
pub after_put : {x : Option Held} {seg new : Physical} {value : Page} {old c : Image} → UsesNextPage x seg new → seg.next < length seg.held → is_kept seg (seg.next / seg.size) ≡ false → (IsNextCopy seg seg.next → ⊥) → IsPhysicalOf old seg
    → Cut seg.next (seg.next + 1) value old c → ((h : Held) → x ≡ Some h → shown_by (page_at c seg.next) ≡ Some (h.tag, h.stamp, main_of (page_at c seg.next))) → IsPhysicalOf c new
after_put {x} {seg} {new} {value} {old} {c} u within in_use apart is cut shows = record {
  holds = λ p h named. holds p h (set_held seg.held seg.next x within p h (ap (λ (l : List (Option Held)). get_or l p None) (sym u.held) ∙ named));
  blank = λ p taken. let was = used_taken u in_use p taken in program_others cut p was.1 ∙ is.blank p was.0;
  blank_copy = λ p next. let was = copy_same seg new p u.names.copies next in program_others cut p (λ same. apart (subst (IsNextCopy seg) same was)) ∙ is.blank_copy p was;
}
  where
    holds : (p : ℕ) (h : Held) → ((p ≡ seg.next) × (x ≡ Some h)) ⊎ ((p ≡ seg.next → ⊥) × (held_at seg p ≡ Some h)) → shown_by (page_at c p) ≡ Some (h.tag, h.stamp, main_of (page_at c p))
    holds p h (inl here) = subst (λ n. shown_by (page_at c n) ≡ Some (h.tag, h.stamp, main_of (page_at c n))) (sym here.0) (shows h here.1)
    holds p h (inr there) = shows_same h (program_others cut p there.0) (is.holds p h there.1)

-- a Free block is written to
pub opened_segment : {block : ℕ} {seg new : Physical} {old c : Image} → OpensFreeBlock block seg new → 0 < seg.size → AreLivePlaces seg → ((p : ℕ) → IsNextCopy seg p → p / seg.size ≡ block → ⊥) → IsPhysicalOf old seg → ((p : ℕ) → (p / seg.size ≡ block → ⊥) → page_at c p ≡ page_at old p)
    → ((p : ℕ) → p / seg.size ≡ block → page_at c p ≡ erased) → IsPhysicalOf c new
opened_segment {block} {seg} {new} {old} {c} o some are apart is others here = record {
  holds = λ p h named.
      let was : held_at seg p ≡ Some h = ap (λ (l : List (Option Held)). get_or l p None) (sym o.held) ∙ named in
      let ne : p / seg.size ≡ block → ⊥ = (λ at. true≢false (sym o.was_kept ∙ (ap (is_kept seg) (sym at) ∙ (are.each p h was).in_use))) in
      shows_same h (others p ne) (is.holds p h was);
  blank = λ p taken. blank p taken;
  blank_copy = λ p next. let was = copy_same seg new p o.names.copies next in others p (apart p was) ∙ is.blank_copy p was;
}
  where
    blank : (p : ℕ) → TakenAsErased new p → page_at c p ≡ erased
    blank p (inl next) = here p (opened_next o some p next)
    blank p (inr free) =
        let at : is_kept new (p / seg.size) ≡ true = ap (λ n. is_kept new (p / n)) (sym o.pages.same_size) ∙ free.0 in
        let clean : is_soiled new (p / seg.size) ≡ false = ap (λ n. is_soiled new (p / n)) (sym o.pages.same_size) ∙ free.1 in
        let ne : p / seg.size ≡ block → ⊥ = (λ same. true≢false (sym at ∙ (ap (is_kept new) same ∙ o.in_use))) in
        others p ne ∙ is.blank p (inr (ap (λ (u : Use). u.is_kept) (sym (o.others (p / seg.size) ne)) ∙ at, ap is_some (sym (soiled_other (p / seg.size) ne)) ∙ clean))
      where
        soiled_other : (b : ℕ) → (b ≡ block → ⊥) → soiled new b ≡ soiled seg b
        soiled_other b ne = ap (λ (l : List (Option ℕ)). get_or l b None) o.soiled ∙ get_or-set_other seg.soiled block b None None ne

-- a live page died
pub ended_segment : {seg new : Physical} {image : Image} (page : ℕ) → page < length seg.held → SameBlocksAndPages seg new → IsUnspent seg new → new.held ≡ set seg.held page None → IsPhysicalOf image seg → IsPhysicalOf image new
ended_segment {seg} {new} {image} page within same space held is = record {
  holds = λ p h named. ⊎_elim
      (λ here. absurd (none-some h here.1))
      (λ there. is.holds p h there.1)
      (set_held seg.held page None within p h (ap (λ (l : List (Option Held)). get_or l p None) (sym held) ∙ named));
  blank = λ p taken. is.blank p (unspent_taken same space p taken);
  blank_copy = λ p next. is.blank_copy p (copy_same seg new p space.copies next);
}

-- an erase of a block that was told to be soiled failed
pub failed_segment : {seg new : Physical} {old c : Image} (block : ℕ) → SameBlocksAndPages seg new → new.held ≡ seg.held → IsUnspent seg new → AreLivePlaces seg → ((p : ℕ) → IsNextCopy seg p → p / seg.size ≡ block → ⊥) → IsPhysicalOf old seg → is_kept seg block ≡ true → is_soiled seg block ≡ true
    → (seg.left ≡ 0) → ((p : ℕ) → (p / seg.size ≡ block → ⊥) → page_at c p ≡ page_at old p) → IsPhysicalOf c new
failed_segment {seg} {new} {old} {c} block same held space are away is free dirty full others = record {
  holds = λ p h named.
      let was : held_at seg p ≡ Some h = ap (λ (l : List (Option Held)). get_or l p None) (sym held) ∙ named in
      let ne : p / seg.size ≡ block → ⊥ = (λ at. true≢false (sym free ∙ (ap (is_kept seg) (sym at) ∙ (are.each p h was).in_use))) in
      shows_same h (others p ne) (is.holds p h was);
  blank = λ p taken.
      let was = unspent_taken same space p taken in
      others p (apart p was) ∙ is.blank p was;
  blank_copy = λ p next. let was = copy_same seg new p space.copies next in others p (away p was) ∙ is.blank_copy p was;
}
  where
    apart : (p : ℕ) → TakenAsErased seg p → p / seg.size ≡ block → ⊥
    apart p (inl next) at = omega (arith, full, next.0, next.1)
    apart p (inr x) at = true≢false (sym dirty ∙ (ap (is_soiled seg) (sym at) ∙ x.1))

-- a page shows what it was programmed with
pub shows_placed : (tag : Tag) (stamp : ℕ) (h : Held) (bytes : PageBytes) {page : Page} → page ≡ written bytes → shown_by (written bytes) ≡ Some (tag, stamp, bytes.main) → Some (record { tag = tag; stamp = stamp }) ≡ Some h
    → shown_by page ≡ Some (h.tag, h.stamp, main_of page)
shows_placed tag stamp h bytes {page} has shows some =
    let held : record { tag = tag; stamp = stamp } ≡ h = same_Some _ h some in
    subst (λ (q : Page). shown_by q ≡ Some (h.tag, h.stamp, main_of q)) (sym has) (shows ∙ ap (λ (k : Held). Some (k.tag, k.stamp, bytes.main)) held)

-- one program, which was to place a page
pub put_crashes : {M : Type 0} {clock : M → ℕ} {contents : M → Image} {left : M → ℕ → Image → Type 0} {old new : M} (seg : Physical) (page : ℕ) (tag : Tag) (stamp was : ℕ) (main from : List ℕ) (answer : WriteAnswer) (named : Named)
    → IsDead seg page → NamesPage page stamp named → (IsPlaced named → answer ≡ write.Done) → main ≡ from → was ≡ wear_of seg (page / seg.size)
    → shown_by (written (page_with main tag stamp was)) ≡ Some (tag, stamp, main)
    → CrashLeaves clock contents left page (page + 1) (written (page_with main tag stamp was)) old new
    → OperationLeaves page (page + 1) (written (page_with main tag stamp was)) (contents old) answer (contents new)
    → clock new ≡ ticked (clock old) answer → Crashes clock contents left seg tag stamp from old new named
put_crashes {M} {clock} {contents} {left} {old} {new} seg page tag stamp was main from answer named dead names is_done main_is wear_is shows crash effect ticks = record {
  page = page;
  named = names;
  either = ⊎_elim (λ k. inl k) (λ k. inr (places (contents new) k)) (put_either seg page dead (leaves_cut page (page + 1) value (contents old) answer (contents new) effect));
  crash = operation_turns {contents = contents} (IsPlaced named) answer (λ c. PreservesSegment seg (contents old) c) (λ c. PlacesOnImage seg page tag stamp from (contents old) c) is_done crash effect ticks
      (λ c cut. ⊎_elim (λ k. inl k) (λ k. inr (places c k)) (put_either seg page dead cut))
      (λ done. places (contents new) (put_takes seg page dead (leaves_done page (page + 1) value (contents old) answer (contents new) done effect)));
}
  where
    value : Page
    value = written (page_with main tag stamp was)

    same : value ≡ written (page_with from tag stamp (wear_of seg (page / seg.size)))
    same i = written (page_with (main_is i) tag stamp (wear_is i))

    places : (c : Image) → TakesImagePage seg page value (contents old) c → PlacesOnImage seg page tag stamp from (contents old) c
    places c k = record {
      takes = subst (λ v. TakesImagePage seg page v (contents old) c) same k;
      shows = sym (ap shown_by same) ∙ (shows ∙ ap (λ (m : List ℕ). Some (tag, stamp, m)) main_is);
    }
