-- What holds of a state.
use Rattle.std.proofs.Common.{◌≡◌, inl, inr, ℕ, ◌+◌, ◌-◌, ◌*◌, ◌/◌, ◌<◌, ◌≤◌, nat_le, true, false, List, length, map, refl, sym, ◌∙◌, ap, arith}
use Rattle.std.proofs.lemmas.Bool.{cases_Bool, cases_lt, false≢true, leb-true}
use Rattle.std.proofs.lemmas.List.{get_or_past, length-map}
use Rattle.std.proofs.lemmas.Nat.{div_below}
use Rattle.nl_blocks.specs.declared.states.BlockState.{BlockState}
use Rattle.nl_blocks.specs.Table.{HasBlock}
use Rattle.nl_pseg.specs.Segment.{IsNextToProgram, InSegment, KeptAreDead, TakenAsErased, is_kept}
use Rattle.nl_pseg.specs.Seen.{IsPhysicalFormed, seen}
use Rattle.nl_pseg_blocks.specs.Uses.{Use, no_use, use_at, is_kept_state, use_of}
use Rattle.nl_pseg.specs.Kept.{Kept}
use Rattle.nl_pseg.proofs.Numbers.{in_block, block_of, block_below, block_from}
use Rattle.nl_pseg_blocks.proofs.Tables.{use_before, use_from, use_here}

-- the pages of a block of the table are pages of the segment
pub block_segment : (s : Kept) (block p : ℕ) → HasBlock s.blocks block → block * s.blocks.size ≤ p → p < block * s.blocks.size + s.blocks.size → InSegment (seen s) p
block_segment s block p has from below =
    let low = block_from s.blocks.first block s.blocks.size has.from in
    let high = block_below block (s.blocks.first + length s.blocks.blocks) s.blocks.size has.below in
    (omega (arith, low, from), omega (arith, high, below))

pub segment_block : (s : Kept) (p : ℕ) → 0 < s.blocks.size → InSegment (seen s) p → HasBlock s.blocks (p / s.blocks.size)
segment_block s p some within = record {
  from = elim (cases_lt (p / s.blocks.size) s.blocks.first) [
    | inl lt ↦
        let here = in_block p s.blocks.size (p / s.blocks.size) some refl in
        let low = block_below (p / s.blocks.size) s.blocks.first s.blocks.size lt in
        absurd (omega (arith, here.1, low, within.0))
    | inr ge ↦ ge
  ];
  below = div_below p s.blocks.size (s.blocks.first + length s.blocks.blocks) some within.1;
}

kept_from : (first : ℕ) (uses : List Use) (block : ℕ) → (use_at first uses block).is_kept ≡ true → (first ≤ block) × (block < first + length uses)
kept_from first uses block free = elim (cases_Bool (nat_le first block)) [
  | inr before ↦ absurd (false≢true (sym (ap (λ (u : Use). u.is_kept) (use_before first uses block before)) ∙ free))
  | inl from_is ↦
      let from = leb-true first block from_is in
      elim (cases_lt (block - first) (length uses)) [
        | inl lt ↦ (from, omega (arith, from, lt))
        | inr past ↦
            absurd (false≢true (sym (ap (λ (u : Use). u.is_kept) (use_from first uses block from ∙ get_or_past uses (block - first) no_use past)) ∙ free))
      ]
]

-- a block that is kept is one of the table
pub kept_block : (s : Kept) (block : ℕ) → is_kept (seen s) block ≡ true → HasBlock s.blocks block
kept_block s block free =
    let h = kept_from s.blocks.first (map use_of s.blocks.blocks) block free in
    let n : length (map use_of s.blocks.blocks) ≡ length s.blocks.blocks = length-map s.blocks.blocks use_of in
    record { from = h.0; below = omega (arith, h.1, n) }

module _ (s : Kept) (is : IsPhysicalFormed s) where
  -- what is taken as erased is a page of the segment
  pub taken_segment : (p : ℕ) → TakenAsErased (seen s) p → InSegment (seen s) p
  taken_segment p (inl next) = block_segment s s.active p is.active_in (omega (arith, next.0)) (let fits = is.used_fits in omega (arith, next.1, next.0, fits))
  taken_segment p (inr free) =
      let here = in_block p s.blocks.size (p / s.blocks.size) is.some refl in
      block_segment s (p / s.blocks.size) p (kept_block s (p / s.blocks.size) free.0) here.0 here.1

  pub within_length : (p : ℕ) → InSegment (seen s) p → p < length s.held.items
  within_length p within = let n = is.pages in omega (arith, n, within.1)

  pub length_segment : (p : ℕ) → s.blocks.first * s.blocks.size ≤ p → p < length s.held.items → InSegment (seen s) p
  length_segment p from below = let n = is.pages in (from, omega (arith, n, below))

  module _ (room : s.used < s.blocks.size) where
    pub next_block : (p : ℕ) → IsNextToProgram (seen s) p → p / s.blocks.size ≡ s.active
    next_block p next = block_of p s.blocks.size s.active (omega (arith, next.0)) (omega (arith, next.1, room))

    pub next_segment : (p : ℕ) → IsNextToProgram (seen s) p → InSegment (seen s) p
    next_segment p next = block_segment s s.active p is.active_in (omega (arith, next.0)) (omega (arith, next.1, room))

    pub is_next : IsNextToProgram (seen s) (s.active * s.blocks.size + s.used)
    is_next = (omega arith, omega (arith, room))

    active_in_use : is_kept (seen s) s.active ≡ false
    active_in_use = ap (λ (u : Use). u.is_kept) (use_here s.blocks s.active is.active_in) ∙ ap (λ (b : BlockState). is_kept_state b) (is.taken room)

    pub next_in_use : (p : ℕ) → IsNextToProgram (seen s) p → is_kept (seen s) (p / s.blocks.size) ≡ false
    next_in_use p next = ap (is_kept (seen s)) (next_block p next) ∙ active_in_use

-- no page of a block that is kept is live
pub kept_dead : (s : Kept) → IsPhysicalFormed s → KeptAreDead (seen s)
kept_dead s is p h held = (is.places.each p h held).in_use
