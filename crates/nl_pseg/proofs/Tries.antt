-- A page that was tried is not given out again.
use Rattle.std.proofs.Common.{◌≡◌, ◌⊎◌, inl, inr, ⊎_elim, ℕ, ◌/◌, ◌<◌, true, false, Option, None, List, get_or, set, is_some, refl, sym, ◌∙◌, ap, subst, arith}
use Rattle.std.proofs.lemmas.Bool.{cases_Bool, true≢false}
use Rattle.std.proofs.lemmas.List.{get_or-set_other}
use Rattle.nl_field.specs.declared.answers.Named.{Named}
use Rattle.nl_field.specs.declared.answers.Named.TheVariants as the
use Rattle.nl_pseg.specs.Answers.{IsPlaced}
use Rattle.nl_pseg.specs.Cleaning.{IfMoved}
use Rattle.nl_pseg.specs.Moving.{LandsPage}
use Rattle.nl_pseg.specs.Segment.{Physical, CountsErases, IsNextCopy, IsNextToProgram, IsUnspent, is_free, is_kept, is_soiled, soiled}
use Rattle.nl_pseg.specs.Steps.{EndsPage, IsCopyUsed, IsLed, IsReadied, NamesGoneFromSegment, OpensFreeBlock, UsesNextPage}
use Rattle.nl_pseg.specs.Tries.{CanBeGiven, CopyNeedsNoErase, GivesNoOther, SpendsTried, SpendsTriedCopy, TriesForCopy, TriesForName, WasErased}
use Rattle.nl_pseg.specs.declared.cleaned.Copied.{Copied}
use Rattle.nl_pseg.specs.declared.cleaned.Copied.TheVariants as copy
use Rattle.nl_pseg.specs.declared.held.Held.{Held}
use Rattle.nl_pseg_blocks.specs.Uses.{Use, use_at}
use Rattle.nl_pseg.proofs.Numbers.{block_of}
use Rattle.nl_pseg.proofs.Wearing.{none_there}

-- the same pages can be given out
pub given_same : (old new : Physical) → new.size ≡ old.size → (new.next ≡ old.next) × (new.left ≡ old.left) → (new.copy_next ≡ old.copy_next) × (new.copy_left ≡ old.copy_left) → ((block : ℕ) → is_kept new block ≡ is_kept old block) → ((block : ℕ) → soiled new block ≡ soiled old block)
    → (p : ℕ) → CanBeGiven new p → CanBeGiven old p
given_same old new size next copies kept soil p (inl (inl n)) = let a = next.0 in let l = next.1 in inl (inl (omega (arith, a, n.0), omega (arith, a, l, n.1)))
given_same old new size next copies kept soil p (inl (inr k)) = inl (inr (
  sym (kept (p / old.size)) ∙ (ap (λ m. is_kept new (p / m)) (sym size) ∙ k.0),
  ap is_some (sym (soil (p / old.size))) ∙ (ap (λ m. is_soiled new (p / m)) (sym size) ∙ k.1),
))
given_same old new size next copies kept soil p (inr c) = let a = copies.0 in let l = copies.1 in inr (omega (arith, a, c.0), omega (arith, a, l, c.1))

-- a page that was not given out
pub unspent_others : {old new : Physical} → new.size ≡ old.size → IsUnspent old new → GivesNoOther old new
unspent_others {old} {new} size u p given = inl (given_same old new size (u.next, u.left) u.copies u.same_kept u.same_soiled p given)

pub still_others : (seg : Physical) → GivesNoOther seg seg
still_others seg p given = inl given

-- the next page was used
module _ {x : Option Held} {seg new : Physical} (u : UsesNextPage x seg new) (some : 0 < seg.left) (in_use : is_kept seg (seg.next / seg.size) ≡ false) (apart : IsNextCopy seg seg.next → ⊥) where
  pub used_tries : TriesForName seg.next seg new
  used_tries = record { first = inl (some, refl); spent = no }
    where
      no : CanBeGiven new seg.next → ⊥
      no (inl (inl n)) = let e = u.next in absurd (omega (arith, e, n.0))
      no (inl (inr k)) = true≢false (sym k.0 ∙ (ap (λ m. is_kept new (seg.next / m)) u.pages.same_size ∙ (ap (λ (w : Use). w.is_kept) (u.uses (seg.next / seg.size)) ∙ in_use)))
      no (inr c) = let a = u.names.copies.0 in let l = u.names.copies.1 in apart (omega (arith, a, c.0), omega (arith, a, l, c.1))

  pub used_others : GivesNoOther seg new
  used_others p (inl (inl n)) = let a = u.next in let l = u.left in inl (inl (inl (omega (arith, a, n.0), omega (arith, a, l, n.1))))
  used_others p (inl (inr k)) = inl (inl (inr (
    ap (λ (w : Use). w.is_kept) (sym (u.uses (p / seg.size))) ∙ (ap (λ m. is_kept new (p / m)) (sym u.pages.same_size) ∙ k.0),
    ap (λ (l : List (Option ℕ)). is_some (get_or l (p / seg.size) None)) (sym u.soiled) ∙ (ap (λ m. is_soiled new (p / m)) (sym u.pages.same_size) ∙ k.1),
  )))
  used_others p (inr c) = let a = u.names.copies.0 in let l = u.names.copies.1 in inl (inr (omega (arith, a, c.0), omega (arith, a, l, c.1)))

-- a Free block was taken
module _ (old mid new : Physical) (block : ℕ) (size : mid.size ≡ old.size) (free : is_free old block ≡ true) (kept : is_kept old block ≡ true) (here : is_free mid block ≡ false) (in_use : is_kept mid block ≡ false)
    (others : (b : ℕ) → (b ≡ block → ⊥) → use_at mid.first mid.uses b ≡ use_at old.first old.uses b) (soil : mid.soiled ≡ set old.soiled block None) where
  other_soiled : (b : ℕ) → (b ≡ block → ⊥) → is_soiled mid b ≡ is_soiled old b
  other_soiled b ne = ap (λ (l : List (Option ℕ)). is_some (get_or l b None)) soil ∙ ap is_some (get_or-set_other old.soiled block b None None ne)

  pub taken_here : is_soiled mid block ≡ false
  taken_here = ap (λ (l : List (Option ℕ)). is_some (get_or l block None)) soil ∙ ap is_some (none_there old.soiled block)

  pub taken_page : (p : ℕ) → p / old.size ≡ block → is_soiled new block ≡ false → CanBeGiven old p ⊎ WasErased old new (p / old.size)
  taken_page p at clean = ⊎_elim
      (λ dirty. inr (ap (is_free old) at ∙ free, ap (is_soiled old) at ∙ dirty, ap (is_soiled new) at ∙ clean))
      (λ not. inl (inl (inr (ap (is_kept old) at ∙ kept, ap (is_soiled old) at ∙ not))))
      (cases_Bool (is_soiled old block))

  pub taken_kept : (p : ℕ) → is_kept mid (p / mid.size) ≡ true → is_soiled mid (p / mid.size) ≡ false → CanBeGiven old p
  taken_kept p is clean =
      let ne : p / old.size ≡ block → ⊥ = (λ at. true≢false (sym is ∙ (ap (λ m. is_kept mid (p / m)) size ∙ (ap (is_kept mid) at ∙ in_use)))) in
      inl (inr (
        ap (λ (w : Use). w.is_kept) (sym (others (p / old.size) ne)) ∙ (ap (λ m. is_kept mid (p / m)) (sym size) ∙ is),
        sym (other_soiled (p / old.size) ne) ∙ (ap (λ m. is_soiled mid (p / m)) (sym size) ∙ clean),
      ))

  pub taken_erased : (b : ℕ) → WasErased mid new b → WasErased old new b
  taken_erased b w =
      let ne : b ≡ block → ⊥ = (λ at. true≢false (sym w.0 ∙ (ap (is_free mid) at ∙ here))) in
      (ap (λ (v : Use). v.is_free) (sym (others b ne)) ∙ w.0, sym (other_soiled b ne) ∙ w.1, w.2)

-- a block that is not soiled stays so
counted_clean : (old new : Physical) (block : ℕ) → CountsErases old new → is_soiled old block ≡ false → is_soiled new block ≡ false
counted_clean old new block counts clean = ⊎_elim
    (λ same. ap is_some same.1 ∙ clean)
    (λ gone. ap is_some gone.2)
    (counts.each block)

-- a Free block was opened, and then a page of it was tried
module _ {block : ℕ} {seg mid new : Physical} (o : OpensFreeBlock block seg mid) (some : 0 < seg.size) (counts : CountsErases mid new) where
  pub opened_tries : (page : ℕ) → TriesForName page mid new → TriesForName page seg new
  opened_tries page t = record {
    first = inr (o.full, ap (is_free seg) (at t.first) ∙ o.was_free);
    spent = t.spent;
  }
    where
      at : ((0 < mid.left) × (page ≡ mid.next)) ⊎ ((mid.left ≡ 0) × (is_free mid (page / mid.size) ≡ true)) → page / seg.size ≡ block
      at (inl is) = let e = is.1 in let n = o.next in block_of page seg.size block (omega (arith, e, n)) (omega (arith, e, n, some))
      at (inr none) = let a = none.0 in let l = o.left in absurd (omega (arith, a, l, some))

  pub opened_others : GivesNoOther mid new → GivesNoOther seg new
  opened_others others p given = ⊎_elim was (λ w. inr (subst (WasErased seg new) (ap (λ m. p / m) o.pages.same_size) (taken_erased seg mid new block o.pages.same_size o.was_free o.was_kept o.here o.in_use o.others o.soiled (p / mid.size) w))) (others p given)
    where
      clean : is_soiled new block ≡ false
      clean = counted_clean mid new block counts (taken_here seg mid new block o.pages.same_size o.was_free o.was_kept o.here o.in_use o.others o.soiled)

      was : CanBeGiven mid p → CanBeGiven seg p ⊎ WasErased seg new (p / seg.size)
      was (inl (inl n)) =
          let a = o.next in
          let l = o.left in
          taken_page seg mid new block o.pages.same_size o.was_free o.was_kept o.here o.in_use o.others o.soiled p (block_of p seg.size block (omega (arith, a, n.0)) (omega (arith, a, l, n.1))) clean
      was (inl (inr k)) = inl (taken_kept seg mid new block o.pages.same_size o.was_free o.was_kept o.here o.in_use o.others o.soiled p k.0 k.1)
      was (inr c) = let a = o.names.copies.0 in let l = o.names.copies.1 in inl (inr (omega (arith, a, c.0), omega (arith, a, l, c.1)))

-- names are gone
module _ {mid new : Physical} (g : NamesGoneFromSegment mid new) where
  gone_given : (p : ℕ) → CanBeGiven new p → CanBeGiven mid p
  gone_given = given_same mid new g.range.range_size g.next g.copies g.kept g.same_soiled

  pub gone_tries : {seg : Physical} (page : ℕ) → TriesForName page seg mid → TriesForName page seg new
  gone_tries page t = record { first = t.first; spent = λ given. t.spent (gone_given page given) }

  pub gone_others : (seg : Physical) → GivesNoOther seg mid → GivesNoOther seg new
  gone_others seg others p given = ⊎_elim (λ was. inl was) (λ w. inr (w.0, w.1, ap is_some (g.same_soiled (p / seg.size)) ∙ w.2)) (others p (gone_given p given))

-- the page in whose place another one was written is dead
pub ended_spends : (answer : Named) {place : ℕ} {seg mid new : Physical} → (IsPlaced answer → EndsPage place mid new) → ((IsPlaced answer → ⊥) → new ≡ mid) → SpendsTried answer seg mid → SpendsTried answer seg new
ended_spends (the.Placed at) {place} {seg} {mid} {new} ended none s = let g = (ended tt).gone in record { placed = gone_tries g at.name s.placed; failed = λ fault. absurd (cc fault); others = gone_others g seg s.others }
ended_spends the.NotLive {place} {seg} {mid} {new} ended none s = subst (SpendsTried the.NotLive seg) (sym (none (λ n. n))) s
ended_spends the.NoPage {place} {seg} {mid} {new} ended none s = subst (SpendsTried the.NoPage seg) (sym (none (λ n. n))) s
ended_spends the.Fault {place} {seg} {mid} {new} ended none s = subst (SpendsTried the.Fault seg) (sym (none (λ n. n))) s

-- the next page for copies was used
module _ {x : Option Held} {seg new : Physical} (u : IsCopyUsed x seg new) (some : 0 < seg.copy_left) (in_use : is_kept seg (seg.copy_next / seg.size) ≡ false) (apart : IsNextToProgram seg seg.copy_next → ⊥) where
  pub copied_tries : TriesForCopy seg.copy_next seg new
  copied_tries = record { first = inl (some, refl); spent = no }
    where
      no : CanBeGiven new seg.copy_next → ⊥
      no (inl (inl n)) = let a = u.next.0 in let l = u.next.1 in apart (omega (arith, a, n.0), omega (arith, a, l, n.1))
      no (inl (inr k)) = true≢false (sym k.0 ∙ (ap (λ m. is_kept new (seg.copy_next / m)) u.pages.same_size ∙ (ap (λ (w : Use). w.is_kept) (u.uses (seg.copy_next / seg.size)) ∙ in_use)))
      no (inr c) = let e = u.copy_next in absurd (omega (arith, e, c.0))

pub copied_given : {x : Option Held} {seg new : Physical} → IsCopyUsed x seg new → (p : ℕ) → CanBeGiven new p → CanBeGiven seg p
copied_given u p (inl (inl n)) = let a = u.next.0 in let l = u.next.1 in inl (inl (omega (arith, a, n.0), omega (arith, a, l, n.1)))
copied_given {x} {seg} {new} u p (inl (inr k)) = inl (inr (
  ap (λ (w : Use). w.is_kept) (sym (u.uses (p / seg.size))) ∙ (ap (λ m. is_kept new (p / m)) (sym u.pages.same_size) ∙ k.0),
  ap (λ (l : List (Option ℕ)). is_some (get_or l (p / seg.size) None)) (sym u.soiled) ∙ (ap (λ m. is_soiled new (p / m)) (sym u.pages.same_size) ∙ k.1),
))
copied_given u p (inr c) = let a = u.copy_next in let l = u.copy_left in inr (omega (arith, a, c.0), omega (arith, a, l, c.1))

-- the names lead to the copy
pub led_given : {before after : ℕ} {mid new : Physical} → IsLed before after mid new → (p : ℕ) → CanBeGiven new p → CanBeGiven mid p
led_given {before} {after} {mid} {new} l =
    given_same mid new l.pages.same_size l.next l.copies (λ b. ap (λ (w : Use). w.is_kept) (l.uses b)) (λ b. ap (λ (xs : List (Option ℕ)). get_or xs b None) l.soiled)

-- a block may take copies, and then a page of it was tried
module _ {seg mid : Physical} (r : IsReadied seg mid) where
  readied_tries : {new : Physical} → TriesForCopy mid.copy_next mid new → TriesForCopy mid.copy_next seg new
  readied_tries {new} t = record { first = ⊎_elim same (λ taken. inr (taken.0, taken.1)) r.first; spent = t.spent }
    where
      left : ((0 < mid.copy_left) × (mid.copy_next ≡ mid.copy_next)) ⊎ ((mid.copy_left ≡ 0) × (is_free mid (mid.copy_next / mid.size) ≡ true)) → (mid.copy_next ≡ seg.copy_next) × (mid.copy_left ≡ seg.copy_left)
          → ((0 < seg.copy_left) × (mid.copy_next ≡ seg.copy_next)) ⊎ ((seg.copy_left ≡ 0) × (is_free seg (mid.copy_next / seg.size) ≡ true))
      left (inl some) e = let a = some.0 in let l = e.1 in inl (omega (arith, a, l), e.0)
      left (inr none) e = let a = none.0 in let l = e.1 in inr (omega (arith, a, l), r.frees (mid.copy_next / seg.size) (ap (λ m. is_free mid (mid.copy_next / m)) (sym r.pages.same_size) ∙ none.1))

      same : (mid.copy_next ≡ seg.copy_next) × (mid.copy_left ≡ seg.copy_left) → ((0 < seg.copy_left) × (mid.copy_next ≡ seg.copy_next)) ⊎ ((seg.copy_left ≡ 0) × (is_free seg (mid.copy_next / seg.size) ≡ true))
      same e = left t.first e

  pub landed_spends : {page : ℕ} {h : Held} {new : Physical} (answer : Copied) (failed : Type 0) → LandsPage page h answer mid new → SpendsTriedCopy answer failed seg new
  landed_spends {page} {h} {new} answer failed l = record { moved = if_tries answer l; failed = λ f. inl (mid.copy_next, readied_tries l.tried); others = others }
    where
      if_tries : (answer : Copied) → LandsPage page h answer mid new → IfMoved answer (λ before after held. TriesForCopy after seg new)
      if_tries (copy.Moved before after tag stamp) l = subst (λ n. TriesForCopy n seg new) (sym l.moved.1) (readied_tries l.tried)
      if_tries copy.Nothing l = tt
      if_tries (copy.Lost wanted found) l = tt
      if_tries copy.Fault l = tt

      others : GivesNoOther seg new
      others p given = ⊎_elim
          (λ was. inl was)
          (λ w. inr (w.0, w.1, ap is_some (l.same_soiled (p / seg.size)) ∙ w.2))
          (r.others p (l.others p given))

-- the erase before a copy failed
pub readied_spends : {seg mid : Physical} (failed : Type 0) → IsReadied seg mid → IsUnspent seg mid × (CopyNeedsNoErase seg → ⊥) → SpendsTriedCopy copy.Fault failed seg mid
readied_spends failed r is = record { moved = tt; failed = λ f. inr is; others = r.others }

-- nothing was tried
pub still_spends : (answer : Copied) (failed : Type 0) (seg : Physical) → (failed → ⊥) → IfMoved answer (λ before after h. TriesForCopy after seg seg) → SpendsTriedCopy answer failed seg seg
still_spends answer failed seg not moved = record { moved = moved; failed = λ f. absurd (not f); others = still_others seg }
