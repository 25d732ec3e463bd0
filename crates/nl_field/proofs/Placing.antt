-- Bytes put into a part of a slice, and bytes that are a head and then zeros.
use Rattle.std.proofs.Common.{◌≡◌, ℕ, zero, suc, ◌+◌, ◌-◌, ◌==◌, ◌≤◌, ◌&&◌, List, [], ◌∷◌, ◌++◌, length, length-append, take, drop, replicate, refl, arith}
use Rattle.std.proofs.lemmas.List.{append-nil, append_assoc, drop-drop, drop_all, length-drop, take_rest, take_at}
use Rattle.std.proofs.lemmas.Bool.Decides.{nat_tests}
use Rattle.std.proofs.Math.Dec.{eqb-zero-suc, eqb-suc-zero}
use Rattle.std.proofs.Math.Bool.{and_assoc}
use Rattle.std.specs.Str.{bytes_eq}
use Rattle.std.proofs.lemmas.Slice.{drop-append-drop}
use Rattle.nl_field.specs.Bytes.{zeros, all_zero}

-- put from an offset to the end, of which the first w were written
pub put_from : (out b : List ℕ) (at w : ℕ)
    → take at out ++ ((b ++ drop w (take (length out - at) (drop at out))) ++ drop (length out - at) (drop at out)) ≡ take at out ++ b ++ drop (at + w) out
put_from out b at w =
    rw (take_rest out at, drop-drop w at out, drop_all (length out - at) (drop at out) (omega (arith, length-drop at out)), append-nil, append_assoc) refl

zeros_are : (bytes : List ℕ) → bytes_eq (replicate (length bytes) 0) bytes ≡ all_zero bytes
zeros_are [] = refl
zeros_are (zero ∷ bytes) = zeros_are bytes
zeros_are (suc b ∷ bytes) = rw (eqb-zero-suc b, eqb-suc-zero b) refl

eqb_sym : (a b : ℕ) → (a == b) ≡ (b == a)
eqb_sym a b = grind (arith, nat_tests)

-- the bytes are a head and then zeros
pub padded : (head bytes : List ℕ) → length head ≤ length bytes
    → bytes_eq (head ++ zeros (length bytes - length head)) bytes ≡ (bytes_eq (take (length head) bytes) head && all_zero (drop (length head) bytes))
unfolding zeros
padded [] bytes within = let all : length bytes - 0 ≡ length bytes = omega arith in rw all (zeros_are bytes)
padded (x ∷ head) [] within = absurd (omega arith)
padded (x ∷ head) (b ∷ bytes) within =
    let behind : suc (length bytes) - suc (length head) ≡ length bytes - length head = omega arith in
    rw (behind, padded head bytes (omega arith), eqb_sym x b, and_assoc) refl

-- the next bytes are put behind those that are there
pub put_next : (front old b : List ℕ) (at w : ℕ) → length front ≡ at → take at (front ++ drop at old) ++ b ++ drop (at + w) (front ++ drop at old) ≡ (front ++ b) ++ drop (at + w) old
put_next front old b at w len =
    let past : drop (at + w) (front ++ drop at old) ≡ drop (at + w) old = drop-append-drop at old front (at + w) (omega arith) len in
    rw (past, take_at front (drop at old) at len) refl

-- bytes put over all bytes behind the first ones
pub put_last : (front rest b : List ℕ) (at w : ℕ) → length front ≡ at → length rest ≤ w → take at (front ++ rest) ++ b ++ drop (at + w) (front ++ rest) ≡ front ++ b
put_last front rest b at w len few =
    let past : drop (at + w) (front ++ rest) ≡ [] = drop_all (at + w) (front ++ rest) (omega (arith, length-append front rest, len)) in
    rw (take_at front rest at len, past, append-nil) refl
