-- What taking a block for copies leaves of the images of a segment.
use Rattle.std.proofs.Common.{◌≡◌, inl, inr, ⊎_elim, ℕ, ◌*◌, ◌/◌, ◌<◌, ◌≤◌, true, false, Some, None, is_some, refl, sym, ◌∙◌, ap, arith}
use Rattle.std.proofs.lemmas.Bool.{cases_eq, true≢false}
use Rattle.std.proofs.lemmas.List.{get_or-set_other}
use Rattle.nl_field.specs.Page.{Image, erased, page_at}
use Rattle.nl_blocks.specs.declared.states.BlockState.TheVariants.{Active}
use Rattle.nl_blocks.specs.Table.{Table, HasBlock}
use Rattle.nl_pseg.specs.Segment.{Physical, IsNextToProgram, IsPhysicalOf, TakenAsErased, held_at, is_kept, is_soiled}
use Rattle.nl_pseg.specs.Seen.{IsPhysicalFormed, seen}
use Rattle.nl_pseg.specs.Steps.{IsReadied, aimed_at}
use Rattle.nl_pseg_blocks.specs.Uses.{Use, use_in, SetsUse, SameUse}
use Rattle.nl_pseg.specs.declared.held.Held.{Held}
use Rattle.nl_pseg.specs.Kept.{Kept}
use Rattle.nl_pseg.proofs.Forms.{formed_restated, same_pages, same_unspent}
use Rattle.nl_pseg.proofs.Images.{shows_same}
use Rattle.nl_pseg.proofs.Numbers.{block_of}
use Rattle.nl_pseg.proofs.Segments.{unspent_taken}
use Rattle.nl_pseg.proofs.States.{next_block}
use Rattle.nl_pseg_blocks.proofs.Tables.{free_kept}
use Rattle.nl_pseg.proofs.Taken.{free_other}
use Rattle.nl_pseg.proofs.Tries.{still_others}

-- a block takes copies already
pub still_readied : (seg : Physical) → IsReadied seg seg
still_readied seg = record {
  pages = record { same_first = refl; same_blocks = refl; same_size = refl; same_wear = λ b. refl };
  held = refl;
  pairs = refl;
  pair_room = refl;
  victim = refl;
  next = (refl, refl);
  waits = refl;
  left = refl;
  gain = refl;
  lands = refl;
  frees = λ b free. free;
  wears = record { each = λ b. inl (refl, refl) };
  fewer = omega arith;
  most = omega arith;
  clean = λ clean. clean;
  first = inl (refl, refl);
  others = still_others seg;
}

module _ (s : Kept) (is : IsPhysicalFormed s) (block : ℕ) (has : HasBlock s.blocks block) (free : (use_in s.blocks block).is_free ≡ true) where
  free_next : (p : ℕ) → IsNextToProgram (seen s) p → p / s.blocks.size ≡ block → ⊥
  free_next p next at =
      let fits = is.used_fits in
      let room : s.used < s.blocks.size = omega (arith, next.0, next.1, fits) in
      free_other s.blocks block s.active Active has free refl (is.taken room) (sym (next_block s is room p next) ∙ at)

  pub free_dead : (p : ℕ) (h : Held) → held_at (seen s) p ≡ Some h → p / s.blocks.size ≡ block → ⊥
  free_dead p h held at = true≢false (sym (free_kept s.blocks block free) ∙ (ap (is_kept (seen s)) (sym at) ∙ (is.places.each p h held).in_use))

  pub taken_formed : {wear : ℕ} (t : Table) → SetsUse block false wear s.blocks t → IsPhysicalFormed (record s { blocks = t })
  taken_formed {wear} t r = formed_restated s t block wear false is r
      (λ room at. free_other s.blocks block s.active Active has free refl (is.taken room) (sym at))
      (λ same. absurd (true≢false (sym same)))

  -- copies are programmed in it
  pub aimed_segment : {wear : ℕ} (t : Table) → SetsUse block false wear s.blocks t → {old c : Image} → IsPhysicalOf old (seen s) → ((p : ℕ) → (p / s.blocks.size ≡ block → ⊥) → page_at c p ≡ page_at old p) → ((p : ℕ) → p / s.blocks.size ≡ block → page_at c p ≡ erased)
      → IsPhysicalOf c (aimed_at (seen (record s { blocks = t })) block)
  aimed_segment {wear} t r {old} {c} was others here = record {
    holds = λ p h held. shows_same h (others p (free_dead p h held)) (was.holds p h held);
    blank = λ p taken. ⊎_elim (λ at. here p at) (λ ne. others p ne ∙ was.blank p (back p ne taken)) (cases_eq (p / s.blocks.size) block);
    blank_copy = λ p next. here p (let e = r.numbers.same_size in let a : block * t.size ≡ block * s.blocks.size = ap (λ m. block * m) e in block_of p s.blocks.size block (omega (arith, a, next.0)) (omega (arith, a, e, next.1)));
  }
    where
      new : Physical
      new = aimed_at (seen (record s { blocks = t })) block

      back : (p : ℕ) → (p / s.blocks.size ≡ block → ⊥) → TakenAsErased new p → TakenAsErased (seen s) p
      back p ne (inl next) =
          let e = r.numbers.same_size in
          let a : s.active * t.size ≡ s.active * s.blocks.size = ap (λ m. s.active * m) e in
          inl (omega (arith, a, next.0), omega (arith, a, e, next.1))
      back p ne (inr x) = inr (
        ap (λ (u : Use). u.is_kept) (sym (r.others (p / s.blocks.size) ne)) ∙ (ap (λ n. is_kept new (p / n)) (sym r.numbers.same_size) ∙ x.0),
        ap is_some (sym (get_or-set_other s.soiled.items block (p / s.blocks.size) None None ne)) ∙ (ap (λ n. is_soiled new (p / n)) (sym r.numbers.same_size) ∙ x.1),
      )

  -- the erase of the block for copies failed
  pub again_segment : (t : Table) → SameUse s.blocks t → s.blocks.size ≤ s.filled → is_soiled (seen s) block ≡ true → {old c : Image} → IsPhysicalOf old (seen s) → ((p : ℕ) → (p / s.blocks.size ≡ block → ⊥) → page_at c p ≡ page_at old p) → IsPhysicalOf c (seen (record s { blocks = t }))
  again_segment t same full dirty {old} {c} was others = record {
    holds = λ p h held. shows_same h (others p (free_dead p h held)) (was.holds p h held);
    blank = λ p taken. let w = unspent_taken (same_pages s t same) (same_unspent s t same) p taken in others p (apart p w) ∙ was.blank p w;
    blank_copy = λ p next. let e = same.numbers.same_size in absurd (omega (arith, e, full, next.0, next.1));
  }
    where
      apart : (p : ℕ) → TakenAsErased (seen s) p → p / s.blocks.size ≡ block → ⊥
      apart p (inl next) at = free_next p next at
      apart p (inr x) at = true≢false (sym dirty ∙ (ap (is_soiled (seen s)) (sym at) ∙ x.1))
