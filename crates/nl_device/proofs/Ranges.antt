-- The first number of a range that passes a test.
use Rattle.std.proofs.Common.{◌≡◌, ℕ, zero, suc, ◌+◌, ◌<◌, ◌∙◌, Bool, true, false, Some, None, refl, sym, ap, arith}
use Rattle.std.specs.Prelude.{cond, find}
use Rattle.std.specs.List.{range_with_len}
use Rattle.std.proofs.lemmas.Bool.{cond-true, cond-false}

pub find_at_range : (p : ℕ → Bool) (first count at : ℕ) → at < count → ((i : ℕ) → i < at → p (first + i) ≡ false) → p (first + at) ≡ true → find p (range_with_len first count) ≡ Some (first + at)
find_at_range p first zero at below lower is = absurd (omega (arith, below))
find_at_range p first (suc n) zero below lower is =
    let e : first + 0 ≡ first = omega arith in
    cond-true (p first) (Some first) (find p (range_with_len (first + 1) n)) (ap p (sym e) ∙ is) ∙ ap (λ k. Some k) (sym e)
find_at_range p first (suc n) (suc k) below lower is =
    let e : first + 0 ≡ first = omega arith in
    let next : first + 1 + k ≡ first + suc k = omega arith in
    cond-false (p first) (Some first) (find p (range_with_len (first + 1) n)) (ap p (sym e) ∙ lower 0 (omega arith))
    ∙ find_at_range p (first + 1) n k (omega (arith, below))
    (λ i less. let same : first + 1 + i ≡ first + suc i = omega arith in ap p same ∙ lower (suc i) (omega (arith, less)))
    (ap p next ∙ is)
    ∙ ap (λ k. Some k) next

pub find_none_range : (p : ℕ → Bool) (first count : ℕ) → ((i : ℕ) → i < count → p (first + i) ≡ false) → find p (range_with_len first count) ≡ None
find_none_range p first zero all = refl
find_none_range p first (suc n) all =
    let e : first + 0 ≡ first = omega arith in
    cond-false (p first) (Some first) (find p (range_with_len (first + 1) n)) (ap p (sym e) ∙ all 0 (omega arith))
    ∙ find_none_range p (first + 1) n (λ i less. let same : first + 1 + i ≡ first + suc i = omega arith in ap p same ∙ all (suc i) (omega (arith, less)))

pub find_same_range : (p q : ℕ → Bool) (first count : ℕ) → ((i : ℕ) → i < count → p (first + i) ≡ q (first + i)) → find p (range_with_len first count) ≡ find q (range_with_len first count)
find_same_range p q first zero same = refl
find_same_range p q first (suc n) same =
    let e : first + 0 ≡ first = omega arith in
    let here : p first ≡ q first = ap p (sym e) ∙ (same 0 (omega arith) ∙ ap q e) in
    let rest = find_same_range p q (first + 1) n (λ i less. let eq : first + 1 + i ≡ first + suc i = omega arith in ap p eq ∙ (same (suc i) (omega (arith, less)) ∙ ap q (sym eq))) in
    λ i. cond (here i) (Some first) (rest i)
