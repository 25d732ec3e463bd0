-- Lists of bytes, and the numbers that are read from them.
use Rattle.std.proofs.Common.{◌≡◌, ℕ, zero, suc, [], ◌∷◌, ◌+◌, ◌<◌, ◌^◌, ◌&&◌, Bool, true, false, List, drop, take, slice_index, refl, arith}
use Rattle.std.proofs.lemmas.List.{get_or-drop}
use Rattle.std.specs.List.{list_all}
use Rattle.std.specs.Prelude.{IsTrue, nat_le, nat_lt, ◌++◌}
use Rattle.std.proofs.lemmas.Bool.{lt-ltb, ltb-true}
use Rattle.byteorder.specs.Endian.{little_number}
use Rattle.byteorder.specs.Numbers.{little_from-lt, little_number-reads_back}
use Rattle.nl_field.specs.Spelling.{u32_bytes, u64_bytes, u32_at, u64_at, fits_u32, is_stamp}

pub IsTrue-and_left : (a b : Bool) → IsTrue (a && b) → IsTrue a
IsTrue-and_left true b h = refl
IsTrue-and_left false b h = h

pub IsTrue-and_right : (a b : Bool) → IsTrue (a && b) → IsTrue b
IsTrue-and_right true b h = h
IsTrue-and_right false b h = cc

abbrev pub AreBytes : List ℕ → Type 0
AreBytes bytes = (k : ℕ) → slice_index bytes k < 256

pub AreBytes-drop : (n : ℕ) (bytes : List ℕ) → AreBytes bytes → AreBytes (drop n bytes)
AreBytes-drop n bytes are k = rw (get_or-drop n bytes k 0) (are (n + k))

pub fits-u32_at : (bytes : List ℕ) (at : ℕ) → AreBytes bytes → IsTrue (fits_u32 (u32_at bytes at))
unfolding u32_at
fits-u32_at bytes at are = lt-ltb (little_number 4 (drop at bytes)) (2 ^ 32) (little_from-lt 0 4 (drop at bytes) (AreBytes-drop at bytes are))

pub u32-back : (n : ℕ) (rest : List ℕ) → IsTrue (fits_u32 n) → u32_at (u32_bytes n ++ rest) 0 ≡ n
unfolding u32_at u32_bytes
u32-back n rest fits = little_number-reads_back 4 n rest (ltb-true n (2 ^ 32) fits)

pub u64-back : (n : ℕ) (rest : List ℕ) → n < 2 ^ 64 → u64_at (u64_bytes n ++ rest) 0 ≡ n
unfolding u64_at u64_bytes
u64-back n rest fits = little_number-reads_back 8 n rest fits

-- a sequence number that is spelled fits its bytes
pub stamp-fits : (s : ℕ) → IsTrue (is_stamp s) → s < 2 ^ 64
stamp-fits s spelled = let below = ltb-true s (2 ^ 63) (IsTrue-and_right (nat_le 1 s) (nat_lt s (2 ^ 63)) spelled) in omega arith

-- numbers that fit one by one fit all
pub all-fit_u32 : (numbers : List ℕ) → ((k : ℕ) → slice_index numbers k < 2 ^ 32) → IsTrue (list_all fits_u32 numbers)
all-fit_u32 [] each = refl
all-fit_u32 (n ∷ numbers) each = rw (lt-ltb n (2 ^ 32) (each 0), all-fit_u32 numbers (λ k. each (suc k))) refl

pub all-fit_u32-take : (count : ℕ) (numbers : List ℕ) → ((k : ℕ) → slice_index numbers k < 2 ^ 32) → IsTrue (list_all fits_u32 (take count numbers))
all-fit_u32-take zero numbers each = refl
all-fit_u32-take (suc count) [] each = refl
all-fit_u32-take (suc count) (n ∷ numbers) each = rw (lt-ltb n (2 ^ 32) (each 0), all-fit_u32-take count numbers (λ k. each (suc k))) refl
