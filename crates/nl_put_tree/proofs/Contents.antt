-- What a file holds that is written piece by piece.
use Rattle.std.proofs.Common.{◌≡◌, ◌<◌, ◌≤◌, ℕ, zero, suc, ◌+◌, ◌-◌, ◌&&◌, ◌⊎◌, max, min, nat_lt, nat_le, if◌then◌else◌, List, [], ◌∷◌, ◌++◌, map, length, refl, sym, ap, ◌∙◌, inl, inr, arith}
use Rattle.std.specs.Prelude.{slice_index}
use Rattle.std.specs.List.{range_with_len}
use Rattle.std.proofs.lemmas.Bool.{cases_lt, lt-ltb, lt-leb, le-leb}
use Rattle.std.proofs.lemmas.List.{get_or_append_left, get_or-append_right, length-append}
use Rattle.nl_field.specs.FileContent.{FileContent, byte_of, bytes_read, empty_file, is_content, written_over}
use Rattle.nl_tree_content.proofs.ContentProofs.{write_laws}
use Rattle.nl_put_tree.specs.Putting.{IsContentOf}

pub empty_holds : IsContentOf empty_file []
unfolding is_content
empty_holds = record { whole = refl; size = refl; each = λ i less. absurd (omega (arith, less)) }

-- ---- read whole

mapped : (f : ℕ → ℕ) (from : ℕ) (bytes : List ℕ) → ((i : ℕ) → i < length bytes → f (from + i) ≡ slice_index bytes i) → map f (range_with_len from (length bytes)) ≡ bytes
mapped f from [] each = refl
mapped f from (b ∷ bytes) each =
    let first : f from ≡ b = ap f (omega arith) ∙ each 0 (omega arith) in
    let rest : map f (range_with_len (from + 1) (length bytes)) ≡ bytes = mapped f (from + 1) bytes (λ i less. ap f (omega arith) ∙ each (suc i) (omega (arith, less))) in
    (λ k. first k ∷ rest k)

pub read_back : (content : FileContent) (bytes : List ℕ) → IsContentOf content bytes → bytes_read content 0 (length bytes) ≡ bytes
unfolding bytes_read
read_back content bytes is =
    let size = is.size in
    let n : min (length bytes) (content.size - 0) ≡ length bytes = omega (arith, size) in
    ap (λ (k : ℕ). map (byte_of content) (range_with_len 0 k)) n
    ∙ mapped (byte_of content) 0 bytes (λ i less. ap (byte_of content) (omega arith) ∙ is.each i less)

-- ---- a piece behind the others

module _ (content : FileContent) (written bytes : List ℕ) (is : IsContentOf content written) where
  abbrev now : FileContent
  now = written_over content (length written) bytes

  size_by : (n : ℕ) → length bytes ≡ n → (if nat_lt 0 n then max content.size (length written + n) else content.size) ≡ length written + n
  size_by zero e = let s = is.size in s ∙ omega arith
  size_by (suc n) e =
      let s = is.size in
      (λ k. if lt-ltb 0 (suc n) (omega arith) k then max content.size (length written + suc n) else content.size) ∙ omega (arith, s)

  size_is : now.size ≡ length (written ++ bytes)
  size_is = write_laws.size content (length written) bytes ∙ (ap (λ (n : ℕ). if nat_lt 0 n then max content.size (length written + n) else content.size) refl ∙ size_by (length bytes) refl) ∙ sym (length-append written bytes)

  each_is : (i : ℕ) → i < length (written ++ bytes) → byte_of now i ≡ slice_index (written ++ bytes) i
  each_is i less = write_laws.byte content (length written) bytes i is.whole ∙ by (cases_lt i (length written))
    where
      len : length (written ++ bytes) ≡ length written + length bytes
      len = length-append written bytes

      by : (i < length written) ⊎ (length written ≤ i)
          → (if nat_le (length written) i && nat_lt i (length written + length bytes) then slice_index bytes (i - length written) else byte_of content i) ≡ slice_index (written ++ bytes) i
      by (inl low) =
          (λ k. if lt-leb (length written) i low k && nat_lt i (length written + length bytes) then slice_index bytes (i - length written) else byte_of content i)
          ∙ is.each i low
          ∙ sym (get_or_append_left written bytes 0 i low)
      by (inr high) =
          (λ k. if le-leb (length written) i high k && lt-ltb i (length written + length bytes) (omega (arith, less, len)) k then slice_index bytes (i - length written) else byte_of content i)
          ∙ sym (get_or-append_right written bytes (length written) i 0 refl high)

  pub piece_holds : IsContentOf now (written ++ bytes)
  piece_holds = record { whole = write_laws.is_content_still content (length written) bytes is.whole; size = size_is; each = each_is }
