-- A node's record is read back from its bytes, and what is read fits its fields.
use Rattle.std.proofs.Common.{◌≡◌, ◌==◌, ◌&&◌, ◌++◌, ◌*◌, ◌<◌, ◌≤◌, ◌^◌, ◌∷◌, [], zero, suc, false, not, List, ℕ, Some, refl, sym, ap, ◌∙◌, length, take, drop, arith}
use Rattle.std.proofs.lemmas.Bool.{eqb-true, leb-true, and_right}
use Rattle.std.proofs.Math.Bool.{and_assoc}
use Rattle.std.proofs.lemmas.List.{drop_at, append-nil}
use Rattle.std.specs.Int.{div_ceil}
use Rattle.std.specs.List.{flat_map, list_all}
use Rattle.std.specs.Prelude.{IsTrue, nat_le}
use Rattle.nl_field.specs.Bytes.{all_zero}
use Rattle.nl_field.specs.Numbers.{max_file_size, max_entries}
use Rattle.nl_field.specs.Spelling.{u32_bytes, u64_bytes, u32_at, u64_at, u32s, gap, fits_u32, Decodes}
use Rattle.nl_field.specs.Pointers.{is_none_pointer, is_pointer, fits_pointer, pointer_bytes, pointer_fields, pointers}
use Rattle.nl_field.specs.Inode.{kind_byte, kind_of, inode_bytes, inode_fields, inode_of, is_inode, is_inode_of_kind, are_filled, fits_inode}
use Rattle.nl_field.specs.declared.pointer.Pointer.{Pointer}
use Rattle.nl_field.specs.declared.inode.InodeRec.{InodeRec}
use Rattle.nl_field.specs.declared.inode.Kind.{Kind}
use Rattle.nl_field.specs.declared.inode.Kind.TheVariants.{Unused, File, Dir}
use Rattle.nl_field.proofs.AllOf.{all-both, all-weaker}
use Rattle.nl_field.proofs.AreBytes.{AreBytes, AreBytes-drop, IsTrue-and_left, IsTrue-and_right, fits-u32_at, u32-back, u64-back}
use Rattle.nl_field.proofs.EachRow.{each_of-flat_map, list_all-each_of}
use Rattle.nl_field.proofs.PointerRecord.{is_read_back, pointer-back}
use Rattle.nl_field.proofs.Reading.{reads-spelled, spelled-back}
use Rattle.nl_field.proofs.Widths.{length-u32_bytes, length-pointer_bytes, length-rows}

kind-back : (kind : Kind) → kind_of (kind_byte kind) ≡ kind
kind-back Unused = refl
kind-back File = refl
kind-back Dir = refl

none-is_pointer : (p : Pointer) → IsTrue (is_none_pointer p) → IsTrue (is_pointer p)
none-is_pointer p none = rw none refl

-- of each kind the pointers are spelled, and the size fits
pointers-spelled : (kind : Kind) (rec : InodeRec) → IsTrue (is_inode_of_kind kind rec) → IsTrue (list_all is_pointer rec.direct)
unfolding is_inode_of_kind
pointers-spelled Unused rec spelled =
    let two = IsTrue-and_left (rec.size == 0 && list_all is_none_pointer rec.direct) (all_zero rec.addresses) spelled in
    all-weaker is_none_pointer is_pointer rec.direct none-is_pointer (IsTrue-and_right (rec.size == 0) (list_all is_none_pointer rec.direct) two)
pointers-spelled File rec spelled = IsTrue-and_right (nat_le rec.size max_file_size) (list_all is_pointer rec.direct) spelled
pointers-spelled Dir rec spelled =
    let two = IsTrue-and_left (nat_le rec.size max_entries && list_all is_none_pointer rec.direct) (are_filled (div_ceil rec.size 64) rec.addresses) spelled in
    all-weaker is_none_pointer is_pointer rec.direct none-is_pointer (IsTrue-and_right (nat_le rec.size max_entries) (list_all is_none_pointer rec.direct) two)

size-fits : (kind : Kind) (rec : InodeRec) → IsTrue (is_inode_of_kind kind rec) → rec.size < 2 ^ 64
unfolding is_inode_of_kind
size-fits Unused rec spelled =
    let two = IsTrue-and_left (rec.size == 0 && list_all is_none_pointer rec.direct) (all_zero rec.addresses) spelled in
    let e = eqb-true rec.size 0 (IsTrue-and_left (rec.size == 0) (list_all is_none_pointer rec.direct) two) in omega arith
size-fits File rec spelled =
    let most = leb-true rec.size max_file_size (IsTrue-and_left (nat_le rec.size max_file_size) (list_all is_pointer rec.direct) spelled) in omega arith
size-fits Dir rec spelled =
    let two = IsTrue-and_left (nat_le rec.size max_entries && list_all is_none_pointer rec.direct) (are_filled (div_ceil rec.size 64) rec.addresses) spelled in
    let most = leb-true rec.size max_entries (IsTrue-and_left (nat_le rec.size max_entries) (list_all is_none_pointer rec.direct) two) in omega arith

inode-back : (rec : InodeRec) → IsTrue (fits_inode rec) → IsTrue (is_inode rec) → inode_fields (inode_bytes rec) ≡ rec
unfolding inode_fields inode_bytes fits_inode u32_bytes u64_bytes u32_at u64_at
inode-back rec fits spelled =
    let lengths = IsTrue-and_left (length rec.direct == 8 && length rec.addresses == 16) (is_inode_of_kind rec.kind rec) spelled in
    let of_kind = IsTrue-and_right (length rec.direct == 8 && length rec.addresses == 16) (is_inode_of_kind rec.kind rec) spelled in
    let eight : length rec.direct ≡ 8 = eqb-true (length rec.direct) 8 (IsTrue-and_left (length rec.direct == 8) (length rec.addresses == 16) lengths) in
    let sixteen : length rec.addresses ≡ 16 = eqb-true (length rec.addresses) 16 (IsTrue-and_right (length rec.direct == 8) (length rec.addresses == 16) lengths) in
    let fits_two = IsTrue-and_left (fits_u32 rec.generation && list_all fits_pointer rec.direct) (list_all fits_u32 rec.addresses) fits in
    let fits_addresses = IsTrue-and_right (fits_u32 rec.generation && list_all fits_pointer rec.direct) (list_all fits_u32 rec.addresses) fits in
    let fits_generation = IsTrue-and_left (fits_u32 rec.generation) (list_all fits_pointer rec.direct) fits_two in
    let fits_direct = IsTrue-and_right (fits_u32 rec.generation) (list_all fits_pointer rec.direct) fits_two in
    let tables : List ℕ = flat_map pointer_bytes rec.direct ++ flat_map u32_bytes rec.addresses in
    let k = kind-back rec.kind in
    let g = u32-back rec.generation (u64_bytes rec.size ++ gap 48 ++ flat_map pointer_bytes rec.direct ++ flat_map u32_bytes rec.addresses) fits_generation in
    let s = u64-back rec.size (gap 48 ++ flat_map pointer_bytes rec.direct ++ flat_map u32_bytes rec.addresses) (size-fits rec.kind rec of_kind) in
    let d = ap (λ (n : ℕ). pointers n tables) (sym eight)
    ∙ each_of-flat_map pointer_fields pointer_bytes is_read_back 16 rec.direct (flat_map u32_bytes rec.addresses) length-pointer_bytes pointer-back
    (all-both fits_pointer is_pointer rec.direct fits_direct (pointers-spelled rec.kind rec of_kind)) in
    let width : length (flat_map pointer_bytes rec.direct) ≡ 128 = length-rows pointer_bytes 16 rec.direct length-pointer_bytes ∙ ap (λ (n : ℕ). 16 * n) eight in
    let behind : drop 128 tables ≡ flat_map u32_bytes rec.addresses ++ [] = drop_at (flat_map pointer_bytes rec.direct) (flat_map u32_bytes rec.addresses) 128 width ∙ sym (append-nil (flat_map u32_bytes rec.addresses)) in
    let a = ap (λ (bytes : List ℕ). u32s 16 bytes) behind ∙ ap (λ (n : ℕ). u32s n (flat_map u32_bytes rec.addresses ++ [])) (sym sixteen)
    ∙ each_of-flat_map (λ row. u32_at row 0) u32_bytes fits_u32 4 rec.addresses [] length-u32_bytes (λ x more fit. u32-back x more fit) fits_addresses in
    λ i. record { kind = k i; generation = g i; size = s i; direct = d i; addresses = a i }

fits-fields : (bytes : List ℕ) → AreBytes bytes → IsTrue (fits_inode (inode_fields bytes))
unfolding fits_inode inode_fields pointer_fields
fits-fields bytes are =
    let fits_direct = list_all-each_of pointer_fields fits_pointer 16 8 (drop 64 bytes) (λ row are_row. fits-u32_at row 0 are_row) (AreBytes-drop 64 bytes are) in
    let fits_addresses = list_all-each_of (λ row. u32_at row 0) fits_u32 4 16 (drop 192 bytes) (λ row are_row. fits-u32_at row 0 are_row) (AreBytes-drop 192 bytes are) in
    rw (fits-u32_at bytes 4 are, fits_direct, fits_addresses) refl

pub inode-reads : (bytes : List ℕ) → AreBytes bytes → Decodes fits_inode is_inode inode_bytes bytes (inode_of bytes)
unfolding inode_of
inode-reads bytes are = reads-spelled fits_inode is_inode inode_bytes inode_fields bytes (fits-fields bytes are) inode-back

pub inode-spelled : (rec : InodeRec) → IsTrue (fits_inode rec) → IsTrue (is_inode rec) → inode_of (inode_bytes rec) ≡ Some rec
unfolding inode_of
inode-spelled rec fits spelled = spelled-back is_inode inode_bytes inode_fields rec (inode-back rec fits spelled) spelled

-- the first n addresses are not 0, and the others are
pub filled-split : (n : ℕ) (xs : List ℕ) → n ≤ length xs → are_filled n xs ≡ (list_all (λ number. not (number == 0)) (take n xs) && all_zero (drop n xs))
unfolding are_filled
filled-split zero xs within = refl
filled-split (suc n) [] within = absurd (omega arith)
filled-split (suc n) (x ∷ xs) within = rw (filled-split n xs (omega arith), and_assoc) refl

pub filled-short : (n : ℕ) (xs : List ℕ) → length xs < n → are_filled n xs ≡ false
unfolding are_filled
filled-short zero xs short = absurd (omega arith)
filled-short (suc n) [] short = refl
filled-short (suc n) (x ∷ xs) short = and_right (not (x == 0)) (are_filled n xs) (filled-short n xs (omega arith))
