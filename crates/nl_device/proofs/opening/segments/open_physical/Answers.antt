use Rattle.std.proofs.Common.{inl, inr, ℕ, ◌*◌, ◌/◌, ◌<◌, ◌≤◌, ◌∙◌, sym, subst, refl, arith}
use Rattle.std.proofs.lemmas.Bool.{cases_lt}
use Rattle.std.proofs.lemmas.Nat.{div_below}
use Rattle.nl_pseg.proofs.Numbers.{block_below, in_block}
use Rattle.nl_field.specs.Numbers.{ShapeBounds}
use Rattle.nl_field.proofs.Bounds.{bounds}
use Rattle.nl_device.proofs.Bounds.{some_pages, two_blocks}
use Rattle.nl_device.specs.Opening.{SaysErased}
use Rattle.nl_device.proofs.Opened.{none_left}
use Rattle.nl_device.proofs.opening.segments.open_physical.Goals as goal

from_block : (p size first : ℕ) → 0 < size → first * size ≤ p → first ≤ p / size
from_block p size first some from = elim (cases_lt (p / size) first) [
  | inl lt ↦
      let here = in_block p size (p / size) some refl in
      let low = block_below (p / size) first size lt in
      absurd (omega (arith, here.1, low, from))
  | inr ge ↦ ge
]

pub returns : goal.returns
returns c =
    let shape = c.args.shape.now in
    let roomy = subst ShapeBounds (sym c.requires.numbers) (bounds shape.blocks shape.pages c.requires.legal) in
    let n = c.in_ok-pseg.ensures in
    let old = c.in_ok-pseg.pseg in
    let s = c.soil_physical.ensures in
    let two = two_blocks roomy in
    let left = s.same.left in
    let none = none_left old.left old.free old.size shape.pblocks shape.pages n.free n.pages (omega (arith, two)) n.room in
    let some : 0 < old.size = subst (λ k. 0 < k) (sym n.pages) (some_pages roomy) in
    record {
      first_is = s.same.same_first ∙ n.first;
      blocks_is = s.same.same_blocks ∙ n.blocks;
      size_is = s.same.same_size ∙ n.pages;
      none_held = s.same.same_held ∙ n.live;
      no_pairs = s.same.same_pairs ∙ n.pairs;
      free_is = s.same.same_free ∙ n.free;
      left_is = omega (arith, left, none);
      within = λ p taken.
          let h = n.whole.pages.erased_within p (s.erased p taken).0 in
          (subst (λ k. k ≤ p) (sym (λ i. s.same.same_first i * s.same.same_size i)) h.0, subst (λ k. p < k) (sym (λ i. s.same.same_blocks i * s.same.same_size i)) h.1);
      erased = λ p taken.
          let e = s.erased p taken in
          let h = n.whole.pages.erased_within p e.0 in
          let from = from_block p old.size old.first some h.0 in
          let below = div_below p old.size old.blocks some h.1 in
          subst (λ k. SaysErased c.args.tables.now (p / k)) n.pages (e.1 (subst (λ k. k ≤ p / old.size) n.first from) (subst (λ k. p / old.size < k) n.blocks below));
      clean = s.clean;
      kept_block = s.kept;
      whole = s.whole;
      none_in_hand = s.none;
      none_copies = λ p taken.
          let here = s.copies p taken in
          let zero = n.copies in
          absurd (omega (arith, here.0, here.1, zero));
    }
