-- How many bytes the parts of records have.
use Rattle.std.proofs.Common.{◌≡◌, ◌∙◌, ℕ, ◌*◌, List, [], ◌∷◌, length, length-append, refl, arith}
use Rattle.std.specs.List.{flat_map}
use Rattle.nl_field.specs.Spelling.{u32_bytes, u64_bytes}
use Rattle.nl_field.specs.Pointers.{pointer_bytes}
use Rattle.nl_field.specs.declared.pointer.Pointer.{Pointer}

pub length-u32_bytes : (n : ℕ) → length (u32_bytes n) ≡ 4
unfolding u32_bytes
length-u32_bytes n = refl

pub length-u64_bytes : (n : ℕ) → length (u64_bytes n) ≡ 8
unfolding u64_bytes
length-u64_bytes n = refl

pub length-pointer_bytes : (p : Pointer) → length (pointer_bytes p) ≡ 16
unfolding pointer_bytes u32_bytes u64_bytes
length-pointer_bytes p = refl

-- rows of one width, one behind the other
pub length-rows : {X : Type 0} (write : X → List ℕ) (width : ℕ) (xs : List X) → ((x : X) → length (write x) ≡ width) → length (flat_map write xs) ≡ width * length xs
length-rows write width [] size = omega arith
length-rows write width (x ∷ xs) size =
    let first = size x in
    let rest = length-rows write width xs size in
    length-append (write x) (flat_map write xs) ∙ omega arith
