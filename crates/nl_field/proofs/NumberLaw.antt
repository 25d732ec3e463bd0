-- A number that was read, written again, gives the bytes that it was read from.
use Rattle.std.proofs.Common.{◌≡◌, ◌∙◌, ℕ, zero, suc, ◌<◌, ◌≤◌, List, [], ◌∷◌, length, take, refl, sym, ap, arith}
use Rattle.std.proofs.lemmas.List.{append-nil, length-take-le}
use Rattle.std.specs.Int.{bytes_low_first}
use Rattle.byteorder.specs.Endian.{little_from, little_bytes, little_number}
use Rattle.byteorder.specs.Numbers.{little_from-cons, little_from-lt, little_from-take, little_number-reads_back, length-bytes_low_first}
use Rattle.nl_field.proofs.AreBytes.{AreBytes}

-- bytes of one count that make one number are the same
same-number : (n : ℕ) (xs ys : List ℕ) → length xs ≡ n → length ys ≡ n → AreBytes xs → AreBytes ys → little_from 0 n xs ≡ little_from 0 n ys → xs ≡ ys
same-number zero [] [] lx ly ax ay e = refl
same-number zero [] (y ∷ ys) lx ly ax ay e = absurd (omega arith)
same-number zero (x ∷ xs) ys lx ly ax ay e = absurd (omega arith)
same-number (suc n) [] ys lx ly ax ay e = absurd (omega arith)
same-number (suc n) (x ∷ xs) [] lx ly ax ay e = absurd (omega arith)
same-number (suc n) (x ∷ xs) (y ∷ ys) lx ly ax ay e =
    let fx = little_from-cons 0 n x xs in
    let fy = little_from-cons 0 n y ys in
    let bx : x < 256 = ax 0 in
    let by : y < 256 = ay 0 in
    let head : x ≡ y = omega arith in
    let tail : little_from 0 n xs ≡ little_from 0 n ys = omega arith in
    let rest = same-number n xs ys (omega arith) (omega arith) (λ k. ax (suc k)) (λ k. ay (suc k)) tail in
    λ i. head i ∷ rest i

AreBytes-written : (i n x : ℕ) → AreBytes (bytes_low_first i n x)
AreBytes-written i zero x k = omega arith
AreBytes-written zero (suc n) x zero = omega arith
AreBytes-written (suc i) (suc n) x zero = omega arith
AreBytes-written i (suc n) x (suc k) = AreBytes-written (suc i) n x k

AreBytes-take : (n : ℕ) (bytes : List ℕ) → AreBytes bytes → AreBytes (take n bytes)
AreBytes-take zero bytes are k = omega arith
AreBytes-take (suc n) [] are k = omega arith
AreBytes-take (suc n) (b ∷ bytes) are zero = are 0
AreBytes-take (suc n) (b ∷ bytes) are (suc k) = AreBytes-take n bytes (λ j. are (suc j)) k

pub number-law : (n : ℕ) (bytes : List ℕ) → n ≤ length bytes → AreBytes bytes → little_bytes n (little_number n bytes) ≡ take n bytes
number-law n bytes within are =
    let x = little_number n bytes in
    let read : little_from 0 n (little_bytes n (little_number n bytes)) ≡ little_number n bytes =
    ap (little_from 0 n) (sym (append-nil (little_bytes n (little_number n bytes)))) ∙ little_number-reads_back n (little_number n bytes) [] (little_from-lt 0 n bytes are) in
    same-number n (little_bytes n (little_number n bytes)) (take n bytes) (length-bytes_low_first 0 n (little_number n bytes)) (length-take-le n bytes within)
    (AreBytes-written 0 n (little_number n bytes)) (AreBytes-take n bytes are) (read ∙ sym (little_from-take 0 n n bytes (omega arith)))
