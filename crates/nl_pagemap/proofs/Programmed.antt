-- What the program of the next page leaves.
use Rattle.std.proofs.Common.{◌≡◌, inl, inr, ⊎_elim, ℕ, ◌+◌, ◌*◌, ◌/◌, ◌<◌, ◌≤◌, ◌^◌, nat_le, nat_lt, IsTrue, sym, ap, subst, arith}
use Rattle.std.proofs.Math.Nat.{mul-le-mul_right}
use Rattle.std.proofs.lemmas.Bool.{and_from, cases_lt, le-leb, lt-ltb}
use Rattle.nl_field.specs.Page.{Image, Page, page_at}
use Rattle.nl_field.specs.Spelling.{is_stamp}
use Rattle.nl_nand.specs.Nand.{CanProgram, OperationLeaves}
use Rattle.nl_nand.specs.declared.answers.WriteAnswer.{WriteAnswer}
use Rattle.nl_nand.specs.declared.answers.WriteAnswer.TheVariants as write
use Rattle.nl_nand.specs.declared.geometry.Geometry.{Geometry}
use Rattle.nl_pagemap.specs.Mapped.{Mapped, untried_of}
use Rattle.nl_pagemap.specs.Placing.{HasNext, next_of}
use Rattle.nl_pagemap.specs.Stands.{IsMapped}
use Rattle.nl_pagemap.proofs.Pages.{ends_before, in_block}

pub spelled : (n : ℕ) → 1 ≤ n → n < 2 ^ 63 → IsTrue (is_stamp n)
spelled n some least = and_from (nat_le 1 n) (nat_lt n (2 ^ 63)) (le-leb 1 n some) (lt-ltb n (2 ^ 63) least)

-- the next page, where all later ones of its block are erased
pub can_program : {tells : Type 0} {geometry : Geometry} {s : Mapped} (block : ℕ) → IsMapped tells geometry s → HasNext s block → tells → s.image.pages ≡ s.shape.pages
    → CanProgram s.image (next_of s block)
can_program {tells} {geometry} {s} block f h told is =
    let same : block * s.image.pages ≡ block * s.shape.pages = ap (λ n. block * n) is in
    let few = f.counts.few block h.from h.below in
    let some = h.some in
    let least = f.bounds.least_pages in
    let first = mul-le-mul_right s.shape.pages h.from in
    record {
      block = block;
      from = omega (arith, same, few);
      below = omega (arith, same, is, few, some);
      rest_erased = λ p from below.
          let here : p / s.shape.pages ≡ block = in_block s.shape.pages (omega (arith, least)) block p (omega (arith, from, few)) (omega (arith, below, same, is)) in
          (f.medium told).blank p (omega (arith, first, from, few))
          (subst (λ b. b * s.shape.pages + s.shape.pages ≤ p + untried_of s.shape s.untried b) (sym here) (omega (arith, from, few)));
    }

-- the next page is one of the medium
pub next_within : {tells : Type 0} {geometry : Geometry} {s : Mapped} (block : ℕ) → IsMapped tells geometry s → HasNext s block → next_of s block < geometry.blocks * geometry.pages
next_within {tells} {geometry} {s} block f h =
    let some = h.some in
    let few = f.counts.few block h.from h.below in
    let ends = ends_before s.shape.blocks block s.shape.pages h.below in
    let all : geometry.blocks * geometry.pages ≡ s.shape.blocks * s.shape.pages = λ i. f.blocks i * f.pages i in
    omega (arith, some, few, ends, all)

-- no page but that one has changed
pub outside : (answer : WriteAnswer) (low : ℕ) (value : Page) (old new : Image) → OperationLeaves low (low + 1) value old answer new → (p : ℕ) → (p ≡ low → ⊥) → page_at new p ≡ page_at old p
outside write.Done low value old new k p off = k.outside p (⊎_elim (λ lt. inl lt) (λ le. inr (omega (arith, le, off))) (cases_lt p low))
outside write.Failed low value old new k p off = ⊎_elim (λ same. same) (λ here. absurd (let a = here.0 in let b = here.1 in off (omega (arith, a, b)))) (k.each p)

-- where it was done, it has the value
pub inside : (answer : WriteAnswer) (low : ℕ) (value : Page) (old new : Image) → answer ≡ write.Done → OperationLeaves low (low + 1) value old answer new → page_at new low ≡ value
inside answer low value old new is k = (subst (λ (a : WriteAnswer). OperationLeaves low (low + 1) value old a new) is k).inside low (omega arith) (omega arith)

pub not_both : {answer : WriteAnswer} → answer ≡ write.Done → answer ≡ write.Failed → ⊥
not_both {answer} done failed = by answer done failed
  where
    by : (a : WriteAnswer) → a ≡ write.Done → a ≡ write.Failed → ⊥
    by write.Done done failed = cc
    by write.Failed done failed = cc
