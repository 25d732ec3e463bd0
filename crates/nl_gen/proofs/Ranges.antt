-- Texts of rising numbers, one after the other.
use Rattle.std.proofs.Common.{◌≡◌, ℕ, zero, suc, ◌+◌, ◌<◌, List, ◌++◌, refl, sym, ◌∙◌, ap, append_assoc, arith, add-one}
use Rattle.std.specs.Prelude.{flat_map}
use Rattle.std.specs.List.{range_with_len}
use Rattle.std.proofs.lemmas.List.{append-nil}

more_from : (f : ℕ → List ℕ) (a n j : ℕ) → a + n ≡ j → flat_map f (range_with_len a (suc n)) ≡ flat_map f (range_with_len a n) ++ f j
more_from f a zero j e = append-nil (f a) ∙ ap f (let same : a ≡ j = omega arith in same)
more_from f a (suc n) j e =
    let rest = more_from f (a + 1) n j (omega arith) in
    ap (λ (t : List ℕ). f a ++ t) rest ∙ sym (append_assoc (f a) (flat_map f (range_with_len (a + 1) n)) (f j))

-- one more number
pub one_more : (f : ℕ → List ℕ) (n : ℕ) → flat_map f (range_with_len 0 (n + 1)) ≡ flat_map f (range_with_len 0 n) ++ f n
one_more f n = rw add-one (more_from f 0 n n (omega arith))

same_from : (f g : ℕ → List ℕ) (a n : ℕ) → ((k : ℕ) → k < a + n → f k ≡ g k) → flat_map f (range_with_len a n) ≡ flat_map g (range_with_len a n)
same_from f g a zero each = refl
same_from f g a (suc n) each =
    ap (λ (t : List ℕ). t ++ flat_map f (range_with_len (a + 1) n)) (each a (omega arith))
    ∙ ap (λ (t : List ℕ). g a ++ t) (same_from f g (a + 1) n (λ k lt. each k (omega arith)))

-- two functions that give each number one text give all numbers one text
pub same_each : (f g : ℕ → List ℕ) (n : ℕ) → ((k : ℕ) → k < n → f k ≡ g k) → flat_map f (range_with_len 0 n) ≡ flat_map g (range_with_len 0 n)
same_each f g n each = same_from f g 0 n (λ k lt. each k (omega arith))

-- a text with that of one more number
pub grown : (f : ℕ → List ℕ) (n : ℕ) (start mid new : List ℕ) → mid ≡ start ++ flat_map f (range_with_len 0 n) → new ≡ mid ++ f n → new ≡ start ++ flat_map f (range_with_len 0 (n + 1))
grown f n start mid new so_far next =
    next ∙ ap (λ (t : List ℕ). t ++ f n) so_far ∙ append_assoc start (flat_map f (range_with_len 0 n)) (f n) ∙ ap (λ (t : List ℕ). start ++ t) (sym (one_more f n))
