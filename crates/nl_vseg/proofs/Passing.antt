-- How many elements of a list pass a test.
use Rattle.std.proofs.Common.{◌≡◌, inl, inr, ℕ, suc, ◌+◌, ◌<◌, ◌≤◌, Bool, true, false, cond, List, [], ◌∷◌, length, get_or, set, ap, arith, length-set, count_by}
use Rattle.std.proofs.lemmas.Bool.{cases_Bool}
use Rattle.std.proofs.lemmas.List.Sums.{sum_by-cons, sum_by-set, count_by-le-length}

abbrev num : Bool → ℕ
num b = cond b 1 0

-- some element passes
pub some_passes : {A : Type 0} (p : A → Bool) (d : A) (xs : List A) → 1 ≤ count_by p xs → (i : ℕ) × (i < length xs) × (p (get_or xs i d) ≡ true)
some_passes p d [] some = absurd (omega (arith, some))
some_passes p d (x ∷ xs) some = elim (cases_Bool (p x)) [
  | inl passes ↦ (0, omega arith, passes)
  | inr fails ↦
      let e : count_by p (x ∷ xs) ≡ cond (p x) 1 0 + count_by p xs = sum_by-cons (λ y. cond (p y) 1 0) x xs in
      let none : cond (p x) 1 0 ≡ 0 = ap num fails in
      let rest = some_passes p d xs (omega (arith, some, e, none)) in
      (suc rest.0, omega (arith, rest.1), rest.2)
]

-- one element more passes
pub one_passes : {A : Type 0} (p : A → Bool) (xs : List A) (i : ℕ) (y d : A) → i < length xs → p (get_or xs i d) ≡ false → p y ≡ true → count_by p (set xs i y) ≡ count_by p xs + 1
one_passes p xs i y d within fails passes =
    let e : count_by p (set xs i y) + cond (p (get_or xs i d)) 1 0 ≡ count_by p xs + cond (p y) 1 0 = sum_by-set (λ x. cond (p x) 1 0) xs i y d within in
    let was : cond (p (get_or xs i d)) 1 0 ≡ 0 = ap num fails in
    let now : cond (p y) 1 0 ≡ 1 = ap num passes in
    omega (arith, e, was, now)

-- not all pass
pub not_all_pass : {A : Type 0} (p : A → Bool) (xs : List A) (i : ℕ) (y d : A) → i < length xs → p (get_or xs i d) ≡ false → p y ≡ true → count_by p xs < length xs
not_all_pass p xs i y d within fails passes =
    let one = one_passes p xs i y d within fails passes in
    let le = count_by-le-length p (set xs i y) in
    let same = length-set xs i y in
    omega (arith, one, le, same)
