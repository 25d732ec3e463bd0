-- How many pass a test.
use Rattle.std.proofs.Common.{◌≡◌, ◌≢◌, inl, inr, ℕ, zero, suc, ◌+◌, ◌≤◌, Bool, true, false, cond, List, [], ◌∷◌, length, get_or, refl, sym, ap, ◌∙◌, arith}
use Rattle.std.proofs.lemmas.Bool.{cond-false, cond-true}
use Rattle.std.proofs.lemmas.List.Sums.{sum_by-cons, sum_by-le-sum_by}
use Rattle.std.specs.List.{count_by}
use Rattle.nl_field.specs.Members.{Has}

-- 1 for what passes
abbrev pub bit : Bool → ℕ
bit b = cond b 1 0

bit_le : (a b : Bool) → (a ≡ true → b ≡ true) → bit a ≤ bit b
bit_le true b h = let e : bit b ≡ 1 = cond-true b 1 0 (h refl) in omega (arith, e)
bit_le false b h = omega arith

module _ {X : Type 0} (p q : X → Bool) (weaker : (x : X) → p x ≡ true → q x ≡ true) where
  -- of a test that passes no more, no more pass
  pub no_more : (xs : List X) → count_by p xs ≤ count_by q xs
  no_more xs = sum_by-le-sum_by (λ x. bit (p x)) (λ x. bit (q x)) xs (λ x. bit_le (p x) (q x) (weaker x))

  -- fewer pass, where one passes the other test alone
  pub one_less : (xs : List X) (x : X) → Has xs x → p x ≡ false → q x ≡ true → count_by p xs + 1 ≤ count_by q xs
  one_less [] x has off on = absurd has
  one_less (y ∷ ys) x (inl e) off on =
      let a = sum_by-cons (λ x. bit (p x)) y ys in
      let b = sum_by-cons (λ x. bit (q x)) y ys in
      let c : bit (p y) ≡ 0 = cond-false (p y) 1 0 (ap p e ∙ off) in
      let d : bit (q y) ≡ 1 = cond-true (q y) 1 0 (ap q e ∙ on) in
      let rest = no_more ys in
      omega (arith, a, b, c, d, rest)
  one_less (y ∷ ys) x (inr has) off on =
      let a = sum_by-cons (λ x. bit (p x)) y ys in
      let b = sum_by-cons (λ x. bit (q x)) y ys in
      let here = bit_le (p y) (q y) (weaker y) in
      let rest = one_less ys x has off on in
      omega (arith, a, b, here, rest)

-- one of a list passes
pub at_least_one : {X : Type 0} (p : X → Bool) (xs : List X) (x : X) → Has xs x → p x ≡ true → 1 ≤ count_by p xs
at_least_one p [] x has on = absurd has
at_least_one p (y ∷ ys) x (inl e) on =
    let a = sum_by-cons (λ x. bit (p x)) y ys in
    let c : bit (p y) ≡ 1 = cond-true (p y) 1 0 (ap p e ∙ on) in
    omega (arith, a, c)
at_least_one p (y ∷ ys) x (inr has) on =
    let a = sum_by-cons (λ x. bit (p x)) y ys in
    let rest = at_least_one p ys x has on in
    omega (arith, a, rest)

-- ---- marks

abbrev pub marks : List Bool → ℕ
marks xs = count_by (λ b. b) xs

more_marks : (x : Bool) (xs : List Bool) → marks (x ∷ xs) ≡ bit x + marks xs
more_marks x xs = sum_by-cons (λ b. bit b) x xs

-- where there are marks, one has a place
pub some_mark : (xs : List Bool) → 1 ≤ marks xs → (k : ℕ) × (get_or xs k false ≡ true)
some_mark [] few = absurd (omega (arith, few))
some_mark (true ∷ xs) few = (0, refl)
some_mark (false ∷ xs) few =
    let more = more_marks false xs in
    let rest = some_mark xs (omega (arith, few, more)) in
    (suc rest.0, rest.1)

same_marks : (xs ys : List Bool) → length ys ≡ length xs → ((i : ℕ) → get_or ys i false ≡ get_or xs i false) → marks ys ≡ marks xs
same_marks [] [] count same = refl
same_marks [] (y ∷ ys) count same = absurd (omega (arith, count))
same_marks (x ∷ xs) [] count same = absurd (omega (arith, count))
same_marks (x ∷ xs) (y ∷ ys) count same =
    more_marks y ys ∙ (λ i. bit (same 0 i) + same_marks xs ys (omega (arith, count)) (λ i. same (suc i)) i) ∙ sym (more_marks x xs)

-- a mark is taken away
pub one_unmarked : (xs ys : List Bool) (k : ℕ) → length ys ≡ length xs → get_or xs k false ≡ true → get_or ys k false ≡ false → ((i : ℕ) → i ≢ k → get_or ys i false ≡ get_or xs i false) → marks ys + 1 ≡ marks xs
one_unmarked [] ys k count was is others = cc
one_unmarked (x ∷ xs) [] k count was is others = absurd (omega (arith, count))
one_unmarked (x ∷ xs) (y ∷ ys) zero count was is others =
    let a = more_marks x xs in
    let b = more_marks y ys in
    let c : bit x ≡ 1 = cond-true x 1 0 was in
    let d : bit y ≡ 0 = cond-false y 1 0 is in
    let rest = same_marks xs ys (omega (arith, count)) (λ i. others (suc i) (λ z. absurd (let never : ⊥ = omega (arith, z) in never))) in
    omega (arith, a, b, c, d, rest)
one_unmarked (x ∷ xs) (y ∷ ys) (suc k) count was is others =
    let a = more_marks x xs in
    let b = more_marks y ys in
    let here = ap bit (others 0 (λ z. absurd (let never : ⊥ = omega (arith, z) in never))) in
    let rest = one_unmarked xs ys k (omega (arith, count)) was is (λ i far. others (suc i) (λ z. far (omega (arith, z)))) in
    omega (arith, a, b, here, rest)
