-- How records are spelled. A record has a function to its bytes, the encoder, and a test of which values have a spelling.
-- Bytes are read by taking the fields at their offsets, and accepted where writing the value again gives the same bytes.
use Rattle.std.specs.Prelude.{◌≡◌, ℕ, zero, suc, ◌^◌, nat_le, nat_lt, Bool, ◌&&◌, if◌then◌else◌, IsTrue, List, [], ◌∷◌, drop, replicate, bytes_eq, Option, Some, None}
use Rattle.byteorder.specs.Endian.{little_bytes, little_number}

-- the 4 bytes of a number, the lowest first
unfoldable pub u32_bytes : ℕ → List ℕ
u32_bytes n = little_bytes 4 n

-- the 8 bytes of a number, the lowest first
unfoldable pub u64_bytes : ℕ → List ℕ
u64_bytes n = little_bytes 8 n

-- the number in the 4 bytes from an offset on
unfoldable pub u32_at : List ℕ → ℕ → ℕ
u32_at bytes at = little_number 4 (drop at bytes)

-- the number in the 8 bytes from an offset on
unfoldable pub u64_at : List ℕ → ℕ → ℕ
u64_at bytes at = little_number 8 (drop at bytes)

-- what stands in so many rows of this width, read one by one
unfoldable pub each_of : {X : Type 0} → (List ℕ → X) → ℕ → ℕ → List ℕ → List X
each_of read width zero bytes = []
each_of read width (suc n) bytes = read bytes ∷ each_of read width n (drop width bytes)

-- so many numbers of 4 bytes each, in a row
abbrev pub u32s : ℕ → List ℕ → List ℕ
u32s n bytes = each_of (λ row. u32_at row 0) 4 n bytes

-- bytes between two fields, which no rule names
abbrev pub gap : ℕ → List ℕ
gap n = replicate n 0

abbrev pub fits_u32 : ℕ → Bool
fits_u32 n = nat_lt n (2 ^ 32)

-- a write sequence number that is spelled: from 1, below 2^63
abbrev pub is_stamp : ℕ → Bool
is_stamp s = nat_le 1 s && nat_lt s (2 ^ 63)

-- a transaction's number that is spelled: from 1, below 2^63
abbrev pub is_transaction_number : ℕ → Bool
is_transaction_number n = nat_le 1 n && nat_lt n (2 ^ 63)

-- the value, where it has a spelling and these are its bytes
abbrev pub spelled_by : {R : Type 0} → (R → Bool) → (R → List ℕ) → R → List ℕ → Option R
spelled_by has_spelling bytes_of value bytes = if has_spelling value && bytes_eq (bytes_of value) bytes then Some value else None

-- What a reader of these bytes answers: the value that they spell, or None, and then no value whose numbers fit their
-- fields and which has a spelling has these bytes.
abbrev pub Decodes : {R : Type 0} → (R → Bool) → (R → Bool) → (R → List ℕ) → List ℕ → Option R → Type 0
Decodes {R = R} fits has_spelling bytes_of bytes None =
    (value : R) → IsTrue (fits value) → IsTrue (has_spelling value) → bytes_of value ≡ bytes → ⊥
Decodes fits has_spelling bytes_of bytes (Some value) = IsTrue (fits value) × IsTrue (has_spelling value) × (bytes_of value ≡ bytes)
