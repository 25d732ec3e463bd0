-- Bytes in hexadecimal digits, written piece by piece.
use Rattle.std.proofs.Common.{◌≡◌, ℕ, ◌/◌, ◌%◌, List, [], ◌∷◌, ◌++◌, slice_index, refl, sym, ap, ◌∙◌, append_assoc}
use Rattle.std.proofs.lemmas.List.{append-nil}
use Rattle.hex.specs.Hex.{encode_with, encode_lower, lower_digits}

-- the digits of two parts
pub encode_lower-append : (a b : List ℕ) → encode_lower (a ++ b) ≡ encode_lower a ++ encode_lower b
unfolding encode_with
encode_lower-append [] b = refl
encode_lower-append (x ∷ a) b = ap (λ (r : List ℕ). slice_index lower_digits (x / 16) ∷ slice_index lower_digits (x % 16) ∷ r) (encode_lower-append a b)

pub encode_lower-nil : encode_lower [] ≡ []
unfolding encode_with
encode_lower-nil = refl

-- the digits so far, and those of the next piece
pub digits_split : (done whole rest piece after : List ℕ) → done ++ encode_lower rest ≡ encode_lower whole → rest ≡ piece ++ after → (done ++ encode_lower piece) ++ encode_lower after ≡ encode_lower whole
digits_split done whole rest piece after so_far split =
    append_assoc done (encode_lower piece) (encode_lower after) ∙ ap (λ (t : List ℕ). done ++ t) (sym (encode_lower-append piece after) ∙ ap encode_lower (sym split)) ∙ so_far

-- all digits are written where nothing is left
pub digits_end : (done whole rest : List ℕ) → done ++ encode_lower rest ≡ encode_lower whole → rest ≡ [] → done ≡ encode_lower whole
digits_end done whole rest so_far none =
    sym (append-nil done) ∙ ap (λ (t : List ℕ). done ++ t) (sym (ap encode_lower none ∙ encode_lower-nil)) ∙ so_far
