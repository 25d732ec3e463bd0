-- The pages of a block.
use Rattle.std.proofs.Common.{◌≡◌, inl, inr, ℕ, zero, suc, ◌+◌, ◌-◌, ◌*◌, ◌/◌, ◌%◌, ◌<◌, ◌≤◌, sym, ◌∙◌, ap, subst, arith}
use Rattle.std.proofs.lemmas.Bool.{cases_eq}
use Rattle.std.proofs.lemmas.Nat.{div-add-mod', div-mul-add}

-- a page of the block with this number
pub in_block : (p pages block : ℕ) → 0 < pages → p / pages ≡ block → (block * pages ≤ p) × (p < block * pages + pages)
in_block p pages block some is =
    let whole : block * pages + p % pages ≡ p = subst (λ b. b * pages + p % pages ≡ p) is (div-add-mod' p pages) in
    let less : p % pages < pages = omega (arith, some) in
    (omega arith, omega arith)

pub block_of : (p pages block : ℕ) → block * pages ≤ p → p < block * pages + pages → p / pages ≡ block
block_of p pages block from below =
    let rest : p - block * pages < pages = omega arith in
    let is : block * pages + (p - block * pages) ≡ p = omega arith in
    ap (λ n. n / pages) (sym is) ∙ div-mul-add block pages (p - block * pages) rest

-- blocks of less number have less pages behind them
pub block_below : (block count pages : ℕ) → block < count → block * pages + pages ≤ count * pages
block_below block (suc count) pages less = elim (cases_eq block count) [
  | inl is ↦ subst (λ b. b * pages + pages ≤ suc count * pages) (sym is) (omega arith)
  | inr ne ↦ let rest : block * pages + pages ≤ count * pages = block_below block count pages (omega (arith, less, ne)) in omega arith
]
block_below block zero pages less = absurd (omega (arith, less))

pub block_from : (first block pages : ℕ) → first ≤ block → first * pages ≤ block * pages
block_from first block pages from = elim (cases_eq first block) [
  | inl is ↦ subst (λ b. first * pages ≤ b * pages) is (omega arith)
  | inr ne ↦ let less = block_below first block pages (omega (arith, from, ne)) in omega (arith, less)
]
