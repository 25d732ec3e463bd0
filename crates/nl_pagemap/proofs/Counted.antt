-- How many numbers of a range pass a test: that changes at one of them, or that the first ones pass, or none does.
use Rattle.std.proofs.Common.{◌≡◌, ◌⊎◌, ⊎_elim, ℕ, zero, suc, ◌+◌, ◌<◌, ◌≤◌, Bool, true, false, cond, count_by, refl, sym, ap, subst, arith}
use Rattle.std.specs.List.{range_with_len}
use Rattle.std.proofs.lemmas.Bool.{cases_eq}
use Rattle.std.proofs.lemmas.List.Sums.{sum_by-cons}

abbrev num : Bool → ℕ
num b = cond b 1 0

-- the tests agree from there on
pub same_count : (P Q : ℕ → Bool) (a n : ℕ) → ((q : ℕ) → a ≤ q → Q q ≡ P q) → count_by Q (range_with_len a n) ≡ count_by P (range_with_len a n)
same_count P Q a zero same = refl
same_count P Q a (suc n) same =
    let x : count_by P (range_with_len a (suc n)) ≡ num (P a) + count_by P (range_with_len (a + 1) n) = sum_by-cons (λ q. num (P q)) a (range_with_len (a + 1) n) in
    let y : count_by Q (range_with_len a (suc n)) ≡ num (Q a) + count_by Q (range_with_len (a + 1) n) = sum_by-cons (λ q. num (Q q)) a (range_with_len (a + 1) n) in
    let here = ap num (same a (omega arith)) in
    let rest = same_count P Q (a + 1) n (λ q from. same q (omega (arith, from))) in
    omega (arith, x, y, here, rest)

-- one number more passes
pub one_more : (P Q : ℕ → Bool) (k a n : ℕ) → a ≤ k → k < a + n → P k ≡ false → Q k ≡ true → ((q : ℕ) → (q ≡ k → ⊥) → Q q ≡ P q) → count_by Q (range_with_len a n) ≡ count_by P (range_with_len a n) + 1
one_more P Q k a zero from below was is same = absurd (omega (arith, from, below))
one_more P Q k a (suc n) from below was is same =
    let x : count_by P (range_with_len a (suc n)) ≡ num (P a) + count_by P (range_with_len (a + 1) n) = sum_by-cons (λ q. num (P q)) a (range_with_len (a + 1) n) in
    let y : count_by Q (range_with_len a (suc n)) ≡ num (Q a) + count_by Q (range_with_len (a + 1) n) = sum_by-cons (λ q. num (Q q)) a (range_with_len (a + 1) n) in
    ⊎_elim
    (λ (here : a ≡ k).
    let p = ap num (subst (λ m. P m ≡ false) (sym here) was) in
    let q = ap num (subst (λ m. Q m ≡ true) (sym here) is) in
    let rest = same_count P Q (a + 1) n (λ j beyond. same j (λ e. omega (arith, e, beyond, here))) in
    let e : count_by Q (range_with_len a (suc n)) ≡ count_by P (range_with_len a (suc n)) + 1 = omega (arith, x, y, p, q, rest) in
    e)
    (λ off.
    let h = ap num (same a off) in
    let rest = one_more P Q k (a + 1) n (omega (arith, from, off)) (omega (arith, below)) was is same in
    let e : count_by Q (range_with_len a (suc n)) ≡ count_by P (range_with_len a (suc n)) + 1 = omega (arith, x, y, h, rest) in
    e)
    (cases_eq a k)

-- the first numbers pass
pub many : (P : ℕ → Bool) (a n m : ℕ) → ((k : ℕ) → a ≤ k → k < a + n → P k ≡ true) → n ≤ m → n ≤ count_by P (range_with_len a m)
many P a zero m all le = omega arith
many P a (suc n) zero all le = absurd (omega (arith, le))
many P a (suc n) (suc m) all le =
    let x : count_by P (range_with_len a (suc m)) ≡ num (P a) + count_by P (range_with_len (a + 1) m) = sum_by-cons (λ q. num (P q)) a (range_with_len (a + 1) m) in
    let here : num (P a) ≡ 1 = ap num (all a (omega arith) (omega arith)) in
    let rest = many P (a + 1) n m (λ k from below. all k (omega (arith, from)) (omega (arith, below))) (omega (arith, le)) in
    omega (arith, x, here, rest)

num_imp : (a b : Bool) → (a ≡ true → b ≡ true) → num a ≤ num b
num_imp true b imp = let is = ap num (imp refl) in omega (arith, is)
num_imp false b imp = omega arith

num_one : (a : Bool) → num a ≤ 1
num_one true = omega arith
num_one false = omega arith

-- what passes the first test passes the second
pub less : (P Q : ℕ → Bool) (a n : ℕ) → ((q : ℕ) → a ≤ q → Q q ≡ true → P q ≡ true) → count_by Q (range_with_len a n) ≤ count_by P (range_with_len a n)
less P Q a zero imp = omega arith
less P Q a (suc n) imp =
    let x : count_by P (range_with_len a (suc n)) ≡ num (P a) + count_by P (range_with_len (a + 1) n) = sum_by-cons (λ q. num (P q)) a (range_with_len (a + 1) n) in
    let y : count_by Q (range_with_len a (suc n)) ≡ num (Q a) + count_by Q (range_with_len (a + 1) n) = sum_by-cons (λ q. num (Q q)) a (range_with_len (a + 1) n) in
    let here = num_imp (Q a) (P a) (imp a (omega arith)) in
    let rest = less P Q (a + 1) n (λ q from. imp q (omega (arith, from))) in
    omega (arith, x, y, here, rest)

-- but for one number
pub less_but_one : (P Q : ℕ → Bool) (k a n : ℕ) → ((q : ℕ) → (q ≡ k → ⊥) → Q q ≡ true → P q ≡ true) → count_by Q (range_with_len a n) ≤ count_by P (range_with_len a n) + 1
less_but_one P Q k a zero imp = omega arith
less_but_one P Q k a (suc n) imp =
    let x : count_by P (range_with_len a (suc n)) ≡ num (P a) + count_by P (range_with_len (a + 1) n) = sum_by-cons (λ q. num (P q)) a (range_with_len (a + 1) n) in
    let y : count_by Q (range_with_len a (suc n)) ≡ num (Q a) + count_by Q (range_with_len (a + 1) n) = sum_by-cons (λ q. num (Q q)) a (range_with_len (a + 1) n) in
    ⊎_elim
    (λ (here : a ≡ k).
    let one = num_one (Q a) in
    let rest = less P Q (a + 1) n (λ q beyond. imp q (λ e. omega (arith, e, beyond, here))) in
    let e : count_by Q (range_with_len a (suc n)) ≤ count_by P (range_with_len a (suc n)) + 1 = omega (arith, x, y, one, rest) in
    e)
    (λ off.
    let h = num_imp (Q a) (P a) (imp a off) in
    let rest = less_but_one P Q k (a + 1) n imp in
    let e : count_by Q (range_with_len a (suc n)) ≤ count_by P (range_with_len a (suc n)) + 1 = omega (arith, x, y, h, rest) in
    e)
    (cases_eq a k)

-- what passes one test passes one of two others
num_either : (a b c : Bool) → (a ≡ true → (b ≡ true) ⊎ (c ≡ true)) → num a ≤ num b + num c
num_either true b c imp = ⊎_elim (λ l. let is = ap num l in omega (arith, is)) (λ r. let is = ap num r in omega (arith, is)) (imp refl)
num_either false b c imp = omega arith

pub either : (P Q R : ℕ → Bool) (a n : ℕ) → ((q : ℕ) → P q ≡ true → (Q q ≡ true) ⊎ (R q ≡ true))
    → count_by P (range_with_len a n) ≤ count_by Q (range_with_len a n) + count_by R (range_with_len a n)
either P Q R a zero imp = omega arith
either P Q R a (suc n) imp =
    let x : count_by P (range_with_len a (suc n)) ≡ num (P a) + count_by P (range_with_len (a + 1) n) = sum_by-cons (λ q. num (P q)) a (range_with_len (a + 1) n) in
    let y : count_by Q (range_with_len a (suc n)) ≡ num (Q a) + count_by Q (range_with_len (a + 1) n) = sum_by-cons (λ q. num (Q q)) a (range_with_len (a + 1) n) in
    let z : count_by R (range_with_len a (suc n)) ≡ num (R a) + count_by R (range_with_len (a + 1) n) = sum_by-cons (λ q. num (R q)) a (range_with_len (a + 1) n) in
    let here = num_either (P a) (Q a) (R a) (imp a) in
    let rest = either P Q R (a + 1) n imp in
    omega (arith, x, y, z, here, rest)

-- no number passes
pub none_pass : (P : ℕ → Bool) (a n : ℕ) → ((k : ℕ) → a ≤ k → P k ≡ false) → count_by P (range_with_len a n) ≡ 0
none_pass P a zero none = refl
none_pass P a (suc n) none =
    let x : count_by P (range_with_len a (suc n)) ≡ num (P a) + count_by P (range_with_len (a + 1) n) = sum_by-cons (λ q. num (P q)) a (range_with_len (a + 1) n) in
    let here : num (P a) ≡ 0 = ap num (none a (omega arith)) in
    let rest = none_pass P (a + 1) n (λ k from. none k (omega (arith, from))) in
    omega (arith, x, here, rest)
