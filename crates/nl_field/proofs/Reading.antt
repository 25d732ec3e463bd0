-- From an encoder that its fields read back, to what a reader answers.
use Rattle.std.proofs.Common.{◌≡◌, ◌&&◌, Bool, true, false, List, ℕ, Some, None, refl, sym, ap, ◌∙◌}
use Rattle.std.specs.Prelude.{IsTrue, if◌then◌else◌}
use Rattle.std.specs.Str.{bytes_eq}
use Rattle.std.proofs.lemmas.Slice.Eq.{bytes_eq-Decides}
use Rattle.nl_field.specs.Spelling.{spelled_by, Decodes}
use Rattle.nl_field.proofs.AreBytes.{IsTrue-and_left, IsTrue-and_right}

-- where the fields of a value's bytes are the value, its bytes spell it
pub spelled-back : {R : Type 0} (has : R → Bool) (bytes_of : R → List ℕ) (fields : List ℕ → R) (value : R)
    → fields (bytes_of value) ≡ value → IsTrue (has value) → spelled_by has bytes_of (fields (bytes_of value)) (bytes_of value) ≡ Some value
spelled-back has bytes_of fields value back spelled =
    let same : bytes_eq (bytes_of value) (bytes_of value) ≡ true = (bytes_eq-Decides (bytes_of value) (bytes_of value)).1 refl in
    rw (back, spelled, same) refl

-- what is read from any bytes is what they spell
pub reads-spelled : {R : Type 0} (fits has : R → Bool) (bytes_of : R → List ℕ) (fields : List ℕ → R) (bytes : List ℕ)
    → IsTrue (fits (fields bytes)) → ((value : R) → IsTrue (fits value) → IsTrue (has value) → fields (bytes_of value) ≡ value)
    → Decodes fits has bytes_of bytes (spelled_by has bytes_of (fields bytes) bytes)
reads-spelled {R} fits has bytes_of fields bytes fit back =
    let of_test : (t : Bool) → (has (fields bytes) && bytes_eq (bytes_of (fields bytes)) bytes) ≡ t → Decodes fits has bytes_of bytes (if t then Some (fields bytes) else None) =
    λ t. elim t as (λ t. (has (fields bytes) && bytes_eq (bytes_of (fields bytes)) bytes) ≡ t → Decodes fits has bytes_of bytes (if t then Some (fields bytes) else None)) [
      | true ↦ λ e. (
        fit,
        IsTrue-and_left (has (fields bytes)) (bytes_eq (bytes_of (fields bytes)) bytes) e,
        (bytes_eq-Decides (bytes_of (fields bytes)) bytes).0 (IsTrue-and_right (has (fields bytes)) (bytes_eq (bytes_of (fields bytes)) bytes) e),
      )
      | false ↦ λ e value fits_it has_it spelled.
          let same : fields bytes ≡ value = ap fields (sym spelled) ∙ back value fits_it has_it in
          let again : bytes_eq (bytes_of (fields bytes)) bytes ≡ true = (bytes_eq-Decides (bytes_of (fields bytes)) bytes).1 (ap bytes_of same ∙ spelled) in
          let read : has (fields bytes) ≡ true = ap has same ∙ has_it in
          let both : (has (fields bytes) && bytes_eq (bytes_of (fields bytes)) bytes) ≡ true = rw (read, again) refl in
          let clash : true ≡ false = sym both ∙ e in
          cc
    ] in
    of_test (has (fields bytes) && bytes_eq (bytes_of (fields bytes)) bytes) refl
