-- Bytes are cut into pieces one behind the other.
use Rattle.std.proofs.Common.{◌≡◌, ◌≤◌, ◌+◌, ℕ, zero, suc, List, [], ◌∷◌, ◌++◌, length, take, drop, refl, sym, ◌∙◌, arith}
use Rattle.std.proofs.lemmas.List.{append-nil, append_assoc}
use Rattle.std.specs.List.{AllByRecursion}
use Rattle.nl_cmd_put.specs.Phases.{joined}

pub joined_more : (pieces : List (List ℕ)) (piece : List ℕ) → joined (pieces ++ piece ∷ []) ≡ joined pieces ++ piece
joined_more [] piece = append-nil piece
joined_more (p ∷ pieces) piece = (λ i. p ++ joined_more pieces piece i) ∙ sym (append_assoc p (joined pieces) piece)

pub each_more : (most : ℕ) (pieces : List (List ℕ)) (piece : List ℕ) → AllByRecursion (λ p. length p ≤ most) pieces → length piece ≤ most → AllByRecursion (λ p. length p ≤ most) (pieces ++ piece ∷ [])
each_more most [] piece each is = (is, tt)
each_more most (p ∷ pieces) piece each is = (each.0, each_more most pieces piece each.1 is)

take_nil : (n : ℕ) → take {A = ℕ} n [] ≡ []
take_nil zero = refl
take_nil (suc n) = refl

pub taken_on : (xs : List ℕ) (from n : ℕ) → take from xs ++ take n (drop from xs) ≡ take (from + n) xs
taken_on xs zero n = (λ i. take (same i) xs)
  where
    same : n ≡ zero + n
    same = omega arith
taken_on [] (suc from) n = take_nil n ∙ sym (take_nil (suc from + n))
taken_on (x ∷ xs) (suc from) n = (λ i. x ∷ taken_on xs from n i) ∙ (λ i. take (same i) (x ∷ xs))
  where
    same : suc (from + n) ≡ suc from + n
    same = omega arith

pub taken_all : (xs : List ℕ) (n : ℕ) → length xs ≤ n → take n xs ≡ xs
taken_all [] zero le = refl
taken_all [] (suc n) le = refl
taken_all (x ∷ xs) zero le = absurd (omega (arith, le))
taken_all (x ∷ xs) (suc n) le = (λ i. x ∷ taken_all xs n (omega (arith, le)) i)
