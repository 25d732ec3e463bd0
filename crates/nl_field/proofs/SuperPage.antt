-- The super page is read back from its bytes, and what is read fits its fields.
use Rattle.std.proofs.Common.{◌≡◌, ◌==◌, ◌++◌, ◌<◌, ◌^◌, List, ℕ, Some, refl, length, arith}
use Rattle.std.proofs.lemmas.Bool.{eqb-true, ltb-true}
use Rattle.std.specs.Prelude.{IsTrue, nat_lt}
use Rattle.nl_field.specs.Bytes.{zeros}
use Rattle.nl_field.specs.Spelling.{u32_bytes, u64_bytes, u32_at, u64_at, gap, fits_u32, Decodes}
use Rattle.nl_field.specs.SuperPage.{super_head, super_bytes, super_fields, super_of, is_super, fits_super}
use Rattle.nl_field.specs.declared.super_page.SuperRec.{SuperRec}
use Rattle.nl_field.proofs.AreBytes.{AreBytes, IsTrue-and_left, IsTrue-and_right, fits-u32_at, u32-back, u64-back}
use Rattle.nl_field.proofs.Reading.{reads-spelled, spelled-back}

pub length-super_head : (rec : SuperRec) → length (super_head rec) ≡ 32
unfolding super_head u32_bytes u64_bytes
length-super_head rec = refl

super-back : (rec : SuperRec) → IsTrue (fits_super rec) → IsTrue (is_super rec) → super_fields (super_bytes rec) ≡ rec
unfolding super_fields super_bytes super_head fits_super u32_bytes u64_bytes u32_at u64_at
super-back rec fits spelled =
    let one : rec.version ≡ 1 = eqb-true rec.version 1 (IsTrue-and_left (rec.version == 1) (nat_lt rec.count (2 ^ 63)) spelled) in
    let below : rec.count < 2 ^ 63 = ltb-true rec.count (2 ^ 63) (IsTrue-and_right (rec.version == 1) (nat_lt rec.count (2 ^ 63)) spelled) in
    let fits_version : IsTrue (fits_u32 rec.version) = rw one refl in
    let c = u64-back rec.count (zeros 4064) (omega arith) in
    let p = u32-back rec.pages (gap 4 ++ u64_bytes rec.count ++ zeros 4064) (IsTrue-and_right (fits_u32 rec.blocks) (fits_u32 rec.pages) fits) in
    let b = u32-back rec.blocks (u32_bytes rec.pages ++ gap 4 ++ u64_bytes rec.count ++ zeros 4064) (IsTrue-and_left (fits_u32 rec.blocks) (fits_u32 rec.pages) fits) in
    let v = u32-back rec.version (u32_bytes rec.blocks ++ u32_bytes rec.pages ++ gap 4 ++ u64_bytes rec.count ++ zeros 4064) fits_version in
    λ i. record { version = v i; blocks = b i; pages = p i; count = c i }

fits-fields : (bytes : List ℕ) → AreBytes bytes → IsTrue (fits_super (super_fields bytes))
unfolding fits_super super_fields
fits-fields bytes are = rw (fits-u32_at bytes 12 are, fits-u32_at bytes 16 are) refl

pub super-reads : (bytes : List ℕ) → AreBytes bytes → Decodes fits_super is_super super_bytes bytes (super_of bytes)
unfolding super_of
super-reads bytes are = reads-spelled fits_super is_super super_bytes super_fields bytes (fits-fields bytes are) super-back

pub super-spelled : (rec : SuperRec) → IsTrue (fits_super rec) → IsTrue (is_super rec) → super_of (super_bytes rec) ≡ Some rec
unfolding super_of
super-spelled rec fits spelled = spelled-back is_super super_bytes super_fields rec (super-back rec fits spelled) spelled
