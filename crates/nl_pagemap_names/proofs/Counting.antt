-- How many numbers of a range pass a test, and a sum of counts that are all zero.
use Rattle.std.proofs.Common.{◌≡◌, ℕ, zero, suc, ◌+◌, ◌≤◌, ◌∷◌, [], Bool, true, false, cond, List, count_by, sum, get_or, refl, ap, arith}
use Rattle.std.specs.List.{range_with_len}
use Rattle.std.proofs.lemmas.List.Sums.{sum_by-cons}

abbrev num : Bool → ℕ
num b = cond b 1 0

num_most : (b : Bool) → num b ≤ 1
num_most true = omega arith
num_most false = omega arith

-- the range with one number more
pub count_more : (P : ℕ → Bool) (a n : ℕ) → count_by P (range_with_len a (suc n)) ≡ count_by P (range_with_len a n) + cond (P (a + n)) 1 0
count_more P a zero =
    let x : count_by P (range_with_len a (suc zero)) ≡ num (P a) + count_by P (range_with_len (a + 1) zero) = sum_by-cons (λ q. num (P q)) a (range_with_len (a + 1) zero) in
    let same : a + 0 ≡ a = omega arith in
    let e = ap (λ k. num (P k)) same in
    omega (arith, x, e)
count_more P a (suc n) =
    let x : count_by P (range_with_len a (suc (suc n))) ≡ num (P a) + count_by P (range_with_len (a + 1) (suc n)) = sum_by-cons (λ q. num (P q)) a (range_with_len (a + 1) (suc n)) in
    let y : count_by P (range_with_len a (suc n)) ≡ num (P a) + count_by P (range_with_len (a + 1) n) = sum_by-cons (λ q. num (P q)) a (range_with_len (a + 1) n) in
    let rest = count_more P (a + 1) n in
    let same : a + 1 + n ≡ a + suc n = omega arith in
    let e = ap (λ k. num (P k)) same in
    omega (arith, x, y, rest, e)

pub count_most : (P : ℕ → Bool) (a n : ℕ) → count_by P (range_with_len a n) ≤ n
count_most P a zero = omega arith
count_most P a (suc n) =
    let x : count_by P (range_with_len a (suc n)) ≡ num (P a) + count_by P (range_with_len (a + 1) n) = sum_by-cons (λ q. num (P q)) a (range_with_len (a + 1) n) in
    let rest = count_most P (a + 1) n in
    let one = num_most (P a) in
    omega (arith, x, rest, one)

-- no count is more than zero
pub sum_none : (xs : List ℕ) → ((i : ℕ) → get_or xs i 0 ≡ 0) → sum xs ≡ 0
sum_none [] none = refl
sum_none (x ∷ xs) none =
    let e : sum (x ∷ xs) ≡ x + sum xs = sum_by-cons (λ y. y) x xs in
    let here : x ≡ 0 = none 0 in
    let rest = sum_none xs (λ i. none (suc i)) in
    omega (arith, e, here, rest)
