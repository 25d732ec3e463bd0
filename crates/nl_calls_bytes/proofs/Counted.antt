-- How many numbers of a range pass a test.
use Rattle.std.proofs.Common.{◌≡◌, ℕ, zero, suc, ◌+◌, ◌<◌, ◌≤◌, Bool, false, refl, ap, arith}
use Rattle.std.specs.List.{count_by, range_with_len}
use Rattle.std.proofs.lemmas.List.Sums.{sum_by-cons}
use Rattle.nl_calls_files.proofs.Counts.{bit}

count_next : (f : ℕ → Bool) (first n : ℕ) → count_by f (range_with_len first (suc n)) ≡ bit (f first) + count_by f (range_with_len (first + 1) n)
count_next f first n = sum_by-cons (λ x. bit (f x)) first (range_with_len (first + 1) n)

-- as many pass two tests that agree
pub count_same : (f g : ℕ → Bool) (first n : ℕ) → ((x : ℕ) → first ≤ x → x < first + n → g x ≡ f x) → count_by g (range_with_len first n) ≡ count_by f (range_with_len first n)
count_same f g first zero same = refl
count_same f g first (suc n) same =
    let here : bit (g first) ≡ bit (f first) = ap bit (same first (omega arith) (omega arith)) in
    let rest = count_same f g (first + 1) n (λ x low high. same x (omega (arith, low)) (omega (arith, high))) in
    omega (arith, count_next f first n, count_next g first n, here, rest)

-- none of the numbers passes
pub count_none : (f : ℕ → Bool) (first n : ℕ) → ((x : ℕ) → f x ≡ false) → count_by f (range_with_len first n) ≡ 0
count_none f first zero none = refl
count_none f first (suc n) none =
    let here : bit (f first) ≡ 0 = ap bit (none first) in
    let rest = count_none f (first + 1) n none in
    omega (arith, count_next f first n, here, rest)
