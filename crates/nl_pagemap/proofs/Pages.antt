-- The pages of a block, and what its count of untried pages says.
use Rattle.std.proofs.Common.{◌≡◌, ◌⊎◌, inl, inr, ⊎_elim, ℕ, ◌+◌, ◌-◌, ◌*◌, ◌/◌, ◌<◌, ◌≤◌, List, length, slice_set, sum, ◌∙◌, ap, arith}
use Rattle.std.proofs.Math.Nat.{div-lt_iff_lt-mul, le-div_iff_mul-le, mul-le-mul_right}
use Rattle.std.proofs.lemmas.Bool.{cases_eq, cases_lt}
use Rattle.std.proofs.lemmas.List.{get_or-set_other, get_or-set_same, get_or_past}
use Rattle.std.proofs.lemmas.List.Sums.{sum_by-set}
use Rattle.std.proofs.lemmas.Nat.{div-mul-add}
use Rattle.nl_field.specs.declared.shape.Shape.{Shape}
use Rattle.nl_pagemap.specs.Mapped.{untried_of}

module _ (size : ℕ) (some : 0 < size) where
  -- the block of a page between its ends
  pub in_block : (b p : ℕ) → b * size ≤ p → p < b * size + size → p / size ≡ b
  in_block b p from below =
      let less : p - b * size < size = omega (arith, from, below) in
      let whole : p ≡ b * size + (p - b * size) = omega (arith, from) in
      ap (λ q. q / size) whole ∙ div-mul-add b size (p - b * size) less

  pub block_from : (v p : ℕ) → v * size ≤ p → v ≤ p / size
  block_from v p from = (le-div_iff_mul-le {k = size} {x = v} {y = p} some).1 from

  pub block_below : (n p : ℕ) → p < n * size → p / size < n
  block_below n p below = (div-lt_iff_lt-mul {k = size} {x = p} {y = n} some).1 below

  -- a page of another block is before it or behind it
  pub beside : (b p : ℕ) → (p / size ≡ b → ⊥) → (p < b * size) ⊎ (b * size + size ≤ p)
  beside b p other = ⊎_elim
      (λ low. inl low)
      (λ from. ⊎_elim (λ below. absurd (other (in_block b p from below))) (λ high. inr high) (cases_lt p (b * size + size)))
      (cases_lt p (b * size))

-- the blocks before one end before it
pub ends_before : (n b size : ℕ) → b < n → b * size + size ≤ n * size
ends_before n b size below =
    let whole : (b + 1) * size ≡ b * size + size = omega arith in
    let le = mul-le-mul_right {m = b + 1} {n = n} size (omega (arith, below)) in
    omega (arith, whole, le)

module _ (shape : Shape) (xs : List ℕ) (block k : ℕ) (from : shape.vblocks ≤ block) (within : block - shape.vblocks < length xs) where
  abbrev pub with_count : List ℕ
  with_count = slice_set xs (block - shape.vblocks) k

  pub count_here : untried_of shape with_count block ≡ k
  count_here = get_or-set_same xs (block - shape.vblocks) k 0 within

  pub count_other : (c : ℕ) → shape.vblocks ≤ c → (c ≡ block → ⊥) → untried_of shape with_count c ≡ untried_of shape xs c
  count_other c low other = get_or-set_other xs (block - shape.vblocks) (c - shape.vblocks) k 0 (λ e. other (omega (arith, e, from, low)))

  pub sum_here : sum with_count + untried_of shape xs block ≡ sum xs + k
  sum_here = sum_by-set (λ x. x) xs (block - shape.vblocks) k 0 within

  -- where a block has fewer, none has more
  pub count_less : k ≤ untried_of shape xs block → (c : ℕ) → shape.vblocks ≤ c → untried_of shape with_count c ≤ untried_of shape xs c
  count_less le c low = ⊎_elim
      (λ here. let e = count_here in let a = ap (λ b. untried_of shape with_count b) here in let b = ap (λ q. untried_of shape xs q) here in omega (arith, e, a, b, le))
      (λ other. let e = count_other c low other in omega (arith, e))
      (cases_eq c block)

-- a block with untried pages has a count
pub counted : (shape : Shape) (xs : List ℕ) (block : ℕ) → 0 < untried_of shape xs block → block - shape.vblocks < length xs
counted shape xs block some = ⊎_elim
    (λ below. below)
    (λ past. let none = get_or_past xs (block - shape.vblocks) 0 past in absurd (omega (arith, none, some)))
    (cases_lt (block - shape.vblocks) (length xs))
