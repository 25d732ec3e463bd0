-- The journal header is read back from its bytes, and what is read fits its fields.
use Rattle.std.proofs.Common.{◌≡◌, ◌&&◌, ◌++◌, ◌-◌, ◌*◌, ◌+◌, ◌<◌, ◌≤◌, ◌^◌, min, true, ◌==◌, ◌||◌, slice_index, List, ℕ, Some, refl, length, length-append, drop, arith, ap, ◌∙◌}
use Rattle.std.proofs.lemmas.List.{drop_more, drop_all}
use Rattle.std.proofs.lemmas.Bool.{leb-true, lt-ltb}
use Rattle.std.specs.List.{flat_map, list_all}
use Rattle.std.specs.Prelude.{IsTrue, nat_le, nat_lt, codes}
use Rattle.nl_field.specs.Bytes.{zeros}
use Rattle.nl_field.specs.Spelling.{u32_bytes, u64_bytes, u32_at, u64_at, u32s, gap, fits_u32, is_transaction_number, Decodes}
use Rattle.nl_field.specs.Journal.{header_head, header_bytes, header_fields, header_of, is_header, fits_header, are_home_addresses}
use Rattle.nl_field.specs.declared.header.HeaderRec.{HeaderRec}
use Rattle.nl_field.proofs.AreBytes.{AreBytes, AreBytes-drop, IsTrue-and_left, IsTrue-and_right, fits-u32_at, u32-back, u64-back, stamp-fits}
use Rattle.nl_field.proofs.EachRow.{each_of-flat_map, list_all-each_of}
use Rattle.nl_field.proofs.Reading.{reads-spelled, spelled-back}
use Rattle.nl_field.proofs.Widths.{length-u32_bytes, length-rows}

header-back : (rec : HeaderRec) → IsTrue (fits_header rec) → IsTrue (is_header rec) → header_fields (header_bytes rec) ≡ rec
unfolding header_fields header_bytes header_head fits_header u32_bytes u64_bytes u32_at u64_at
header-back rec fits spelled =
    let rest : List ℕ = zeros (4072 - 4 * length rec.addresses) in
    let three = IsTrue-and_left (is_transaction_number rec.number && nat_le 1 (length rec.addresses) && nat_le (length rec.addresses) 64) (are_home_addresses rec.addresses) spelled in
    let two = IsTrue-and_left (is_transaction_number rec.number && nat_le 1 (length rec.addresses)) (nat_le (length rec.addresses) 64) three in
    let most : length rec.addresses ≤ 64 = leb-true (length rec.addresses) 64 (IsTrue-and_right (is_transaction_number rec.number && nat_le 1 (length rec.addresses)) (nat_le (length rec.addresses) 64) three) in
    let number = IsTrue-and_left (is_transaction_number rec.number) (nat_le 1 (length rec.addresses)) two in
    let n = u64-back rec.number (u32_bytes (length rec.addresses) ++ gap 4 ++ flat_map u32_bytes rec.addresses ++ rest) (stamp-fits rec.number number) in
    let count = u32-back (length rec.addresses) (gap 4 ++ flat_map u32_bytes rec.addresses ++ rest) (lt-ltb (length rec.addresses) (2 ^ 32) (omega arith)) in
    let all = each_of-flat_map (λ row. u32_at row 0) u32_bytes fits_u32 4 rec.addresses rest length-u32_bytes (λ x more fit. u32-back x more fit) fits in
    let few : min 64 (length rec.addresses) ≡ length rec.addresses = omega arith in
    let counted = ap (λ (m : ℕ). u32s (min 64 m) (flat_map u32_bytes rec.addresses ++ rest)) count ∙ ap (λ (m : ℕ). u32s m (flat_map u32_bytes rec.addresses ++ rest)) few ∙ all in
    λ i. record { number = n i; addresses = counted i }

fits-fields : (bytes : List ℕ) → AreBytes bytes → IsTrue (fits_header (header_fields bytes))
unfolding fits_header header_fields
fits-fields bytes are = list_all-each_of (λ row. u32_at row 0) fits_u32 4 (min 64 (u32_at bytes 16)) (drop 24 bytes) (λ row are_row. fits-u32_at row 0 are_row) (AreBytes-drop 24 bytes are)

pub header-reads : (bytes : List ℕ) → AreBytes bytes → Decodes fits_header is_header header_bytes bytes (header_of bytes)
unfolding header_of
header-reads bytes are = reads-spelled fits_header is_header header_bytes header_fields bytes (fits-fields bytes are) header-back

pub header-spelled : (rec : HeaderRec) → IsTrue (fits_header rec) → IsTrue (is_header rec) → header_of (header_bytes rec) ≡ Some rec
unfolding header_of
header-spelled rec fits spelled = spelled-back is_header header_bytes header_fields rec (header-back rec fits spelled) spelled

pub length-header_head : (rec : HeaderRec) → length (header_head rec) ≡ 24 + 4 * length rec.addresses
unfolding header_head u32_bytes u64_bytes
length-header_head rec =
    length-append (codes "NLHEADER" ++ u64_bytes rec.number ++ u32_bytes (length rec.addresses) ++ gap 4) (flat_map u32_bytes rec.addresses)
    ∙ ap (λ (n : ℕ). 24 + n) (length-rows u32_bytes 4 rec.addresses length-u32_bytes)

-- what is asked of the address at i and of those behind it
pub home-step : (xs : List ℕ) (i : ℕ) → i < length xs
    → are_home_addresses (drop i xs) ≡ ((slice_index xs i == 0 || nat_le 67 (slice_index xs i)) && list_all (λ other. nat_lt (slice_index xs i) other) (drop (i + 1) xs) && are_home_addresses (drop (i + 1) xs))
unfolding are_home_addresses
home-step xs i below = rw (drop_more xs i 0 below) refl

pub home-end : (xs : List ℕ) (i : ℕ) → length xs ≤ i → are_home_addresses (drop i xs) ≡ true
unfolding are_home_addresses
home-end xs i past = rw (drop_all i xs past) refl
