-- A pointer is read back from its bytes, and what is read fits its fields.
use Rattle.std.proofs.Common.{◌≡◌, ◌==◌, ◌&&◌, ◌||◌, ◌++◌, ◌<◌, ◌^◌, Bool, true, false, List, ℕ, Some, refl, arith, [], ap, sym, ◌∙◌}
use Rattle.std.proofs.lemmas.Bool.{eqb-true}
use Rattle.std.proofs.lemmas.List.{append-nil}
use Rattle.std.specs.Prelude.{IsTrue}
use Rattle.nl_field.specs.Spelling.{u32_bytes, u64_bytes, u32_at, u64_at, gap, is_stamp, Decodes}
use Rattle.nl_field.specs.Pointers.{is_none_pointer, is_pointer, fits_pointer, pointer_bytes, pointer_fields, pointer_of}
use Rattle.nl_field.specs.declared.pointer.Pointer.{Pointer}
use Rattle.nl_field.proofs.AreBytes.{AreBytes, IsTrue-and_left, IsTrue-and_right, fits-u32_at, u32-back, u64-back, stamp-fits}
use Rattle.nl_field.proofs.Reading.{reads-spelled, spelled-back}

-- a pointer is read back where its name fits and it is none or has a sequence number that is spelled
abbrev pub is_read_back : Pointer → Bool
is_read_back p = fits_pointer p && is_pointer p

stamp-below : (none : Bool) (s : ℕ) → (IsTrue none → s ≡ 0) → IsTrue (none || is_stamp s) → s < 2 ^ 64
stamp-below true s nought spelled = let e = nought refl in omega arith
stamp-below false s nought spelled = stamp-fits s spelled

pub pointer-stamp : (p : Pointer) → IsTrue (is_pointer p) → p.stamp < 2 ^ 64
pointer-stamp p spelled = stamp-below (is_none_pointer p) p.stamp (λ none. eqb-true p.stamp 0 (IsTrue-and_right (p.name == 0) (p.stamp == 0) none)) spelled

pub pointer-back : (p : Pointer) (rest : List ℕ) → IsTrue (is_read_back p) → pointer_fields (pointer_bytes p ++ rest) ≡ p
unfolding pointer_fields pointer_bytes u32_bytes u64_bytes u32_at u64_at
pointer-back p rest fits =
    let n = u32-back p.name (gap 4 ++ u64_bytes p.stamp ++ rest) (IsTrue-and_left (fits_pointer p) (is_pointer p) fits) in
    let s = u64-back p.stamp rest (pointer-stamp p (IsTrue-and_right (fits_pointer p) (is_pointer p) fits)) in
    λ i. record { name = n i; stamp = s i }

whole-back : (p : Pointer) → IsTrue (fits_pointer p) → IsTrue (is_pointer p) → pointer_fields (pointer_bytes p) ≡ p
whole-back p fits spelled =
    let both : IsTrue (is_read_back p) = rw (fits, spelled) refl in
    ap pointer_fields (sym (append-nil (pointer_bytes p))) ∙ pointer-back p [] both

fits-fields : (bytes : List ℕ) → AreBytes bytes → IsTrue (fits_pointer (pointer_fields bytes))
unfolding pointer_fields
fits-fields bytes are = fits-u32_at bytes 0 are

pub pointer-reads : (bytes : List ℕ) → AreBytes bytes → Decodes fits_pointer is_pointer pointer_bytes bytes (pointer_of bytes)
unfolding pointer_of
pointer-reads bytes are = reads-spelled fits_pointer is_pointer pointer_bytes pointer_fields bytes (fits-fields bytes are) whole-back

pub pointer-spelled : (p : Pointer) → IsTrue (fits_pointer p) → IsTrue (is_pointer p) → pointer_of (pointer_bytes p) ≡ Some p
unfolding pointer_of
pointer-spelled p fits spelled = spelled-back is_pointer pointer_bytes pointer_fields p (whole-back p fits spelled) spelled
