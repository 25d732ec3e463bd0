-- What a victim that was taken leaves of a segment and its images.
use Rattle.nl_pseg.proofs.Begun.{told_length}
use Rattle.nl_pseg.specs.Kept.{Kept}
use Rattle.nl_pseg.specs.Space.{victims}
use Rattle.nl_pseg.specs.Seen.{seen}
use Rattle.nl_blocks.specs.Table.{free_count}
use Rattle.std.proofs.lemmas.Bool.{cases_lt, true≢false}
use Rattle.std.proofs.Common.{◌≡◌, inl, inr, ⊎_elim, ℕ, ◌/◌, ◌<◌, ◌≤◌, Bool, true, false, Option, Some, None, List, get_or, is_some, sym, ◌∙◌, ap, subst, arith, ◌↔◌, ◌*◌, cond, length, refl, IsTrue, ◌⊎◌}
use Rattle.std.proofs.lemmas.Option.{none-some}
use Rattle.std.specs.Bool.{OnFalse, OnTrue}
use Rattle.nl_field.specs.Page.{Image}
use Rattle.nl_pseg.specs.Cleaning.{BeginsBlock, CannotBegin, IsChosen, NoneChosen}
use Rattle.nl_pseg.specs.Segment.{CanSpareBlock, IsClean, IsNextToProgram, IsNextCopy, IsPhysicalOf, KeepsBlock, Physical, TakenAsErased, held_at, is_kept, is_soiled}
use Rattle.nl_pseg.specs.declared.held.Held.{Held}

module _ {block : ℕ} {old new : Physical} (b : BeginsBlock block old new) where
  next_back : (p : ℕ) → IsNextToProgram new p → IsNextToProgram old p
  next_back p n = let a = b.next.0 in let l = b.next.1 in (omega (arith, a, n.0), omega (arith, a, l, n.1))

  copy_back : (p : ℕ) → IsNextCopy new p → IsNextCopy old p
  copy_back p n = let a = b.copies.0 in let l = b.copies.1 in (omega (arith, a, n.0), omega (arith, a, l, n.1))

  held_back : (p : ℕ) (h : Held) → held_at new p ≡ Some h → held_at old p ≡ Some h
  held_back p h held = ap (λ (l : List (Option Held)). get_or l p None) (sym b.tables.same_held) ∙ held

  taken_back : (p : ℕ) → TakenAsErased new p → TakenAsErased old p
  taken_back p (inl next) = inl (next_back p next)
  taken_back p (inr free) = inr (
    sym (b.keeps (p / old.size)) ∙ (ap (λ n. is_kept new (p / n)) (sym b.tables.same_size) ∙ free.0),
    ap is_some (sym (b.same_soiled (p / old.size))) ∙ (ap (λ n. is_soiled new (p / n)) (sym b.tables.same_size) ∙ free.1),
  )

  pub begins_segment : (image : Image) → IsPhysicalOf image old → IsPhysicalOf image new
  begins_segment image is = record {
    holds = λ p h held. is.holds p h (held_back p h held);
    blank = λ p taken. is.blank p (taken_back p taken);
    blank_copy = λ p next. is.blank_copy p (copy_back p next);
  }

  pub begins_spare : (image : Image) → CanSpareBlock image old → CanSpareBlock image new
  begins_spare image is = record {
    block = is.block;
    from = subst (λ n. n ≤ is.block) (sym b.tables.same_first) is.from;
    below = subst (λ n. is.block < n) (sym b.tables.same_blocks) is.below;
    idle = λ p next at. is.idle p (next_back p next) (ap (λ n. p / n) (sym b.tables.same_size) ∙ at);
    copied = λ p h held at.
        let was = is.copied p h (held_back p h held) (ap (λ n. p / n) (sym b.tables.same_size) ∙ at) in
        absurd (none-some (was.0 / old.size) (sym b.none ∙ was.1));
  }

  pub begins_clean : IsClean old → IsClean new
  begins_clean clean other kept = ap is_some (b.same_soiled other) ∙ clean other (sym (b.keeps other) ∙ kept)

  pub begins_kept : KeepsBlock old → KeepsBlock new
  begins_kept k = record {
    block = k.block;
    from = subst (λ n. n ≤ k.block) (sym b.tables.same_first) k.from;
    below = subst (λ n. k.block < n) (sym b.tables.same_blocks) k.below;
    kept = ⊎_elim (λ is. inl (b.keeps k.block ∙ is)) (λ is. absurd (none-some k.block (sym b.none ∙ is))) k.kept;
  }

-- by what a call answered
pub by_answer : (b : Bool) {A B : Type 0} (C : Type 0) → OnTrue b A → OnFalse b B → (A → C) → (B → C) → C
by_answer true C a b done kept = done a
by_answer false C a b done kept = kept b

none_not : {seg new : Physical} {block : ℕ} (cold : Bool) → IsChosen cold seg block → BeginsBlock block seg new → NoneChosen cold seg → ⊥
none_not {seg} {new} {block} true chosen begins none =
    let other = chosen.worn refl in
    let low = none block chosen.from chosen.below chosen.sealed other.0 other.1 other.2 in
    let high = other.3 in
    omega (arith, low, high)
none_not false chosen begins none = let all = begins.dead in let some = chosen.some refl in omega (arith, all, some, none)

-- a victim was begun, so it could be
pub can_begin : {cold : Bool} {seg new : Physical} {block : ℕ} → IsChosen cold seg block → BeginsBlock block seg new → 0 < seg.free → CannotBegin cold seg → ⊥
can_begin {cold} {seg} chosen begins some cannot = ⊎_elim
    (λ one. let none : victims seg ≡ 0 = ap (λ (o : Option ℕ). cond (is_some o) 1 0) begins.none in omega (arith, one, none))
    (λ rest. ⊎_elim
    (λ many. let few = begins.few in omega (arith, many, few))
    (λ last. ⊎_elim (λ full. omega (arith, full, some)) (λ none. none_not cold chosen begins none) last)
    rest)
    cannot

none_or : (o : Option ℕ) → (is_some o ≡ true) ⊎ (o ≡ None)
none_or None = inr refl
none_or (Some n) = inl refl

-- why none is begun, where none may be
pub may_not : (s : Kept) (cold : Bool) {may : Bool} → (IsTrue may ↔ ((s.victim ≡ None) × (length s.names.pairs ≤ 2 * s.blocks.size) × (0 < free_count s.blocks))) → may ≡ false → CannotBegin cold (seen s)
may_not s cold is not = ⊎_elim
    (λ some. inl (ap (λ (b : Bool). cond b 1 0) some))
    (λ none. ⊎_elim
    (λ many. inr (inl (let e = told_length s.names.pairs in omega (arith, many, e))))
    (λ few. ⊎_elim
    (λ free. absurd (true≢false (sym (is.1 (none, few, free)) ∙ not)))
    (λ full. inr (inr (inl (omega (arith, full)))))
    (cases_lt 0 (free_count s.blocks)))
    (cases_lt (2 * s.blocks.size) (length s.names.pairs)))
    (none_or s.victim)
