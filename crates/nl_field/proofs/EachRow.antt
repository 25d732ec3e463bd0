-- Rows of one width, read one by one and written one behind the other.
use Rattle.std.proofs.Common.{◌≡◌, ℕ, zero, suc, ◌+◌, ◌*◌, ◌<◌, Bool, List, [], ◌∷◌, ◌++◌, length, drop, get_or, refl, sym, ap, ◌∙◌, arith}
use Rattle.std.proofs.lemmas.List.{append_assoc, drop-drop, drop_at, ext_get_or}
use Rattle.std.specs.List.{flat_map, list_all}
use Rattle.std.specs.Prelude.{IsTrue}
use Rattle.nl_field.specs.Spelling.{each_of}
use Rattle.nl_field.proofs.AreBytes.{AreBytes, AreBytes-drop, IsTrue-and_left, IsTrue-and_right}

pub length-each_of : {X : Type 0} (read : List ℕ → X) (width n : ℕ) (bytes : List ℕ) → length (each_of read width n bytes) ≡ n
unfolding each_of
length-each_of read width zero bytes = refl
length-each_of read width (suc n) bytes = ap suc (length-each_of read width n (drop width bytes))

-- row k is read where it stands
pub get_or-each_of : {X : Type 0} (read : List ℕ → X) (width n : ℕ) (bytes : List ℕ) (k : ℕ) (d : X) → k < n → get_or (each_of read width n bytes) k d ≡ read (drop (width * k) bytes)
unfolding each_of
get_or-each_of read width zero bytes k d below = absurd (omega arith)
get_or-each_of read width (suc n) bytes zero d below = let none : width * 0 ≡ 0 = omega arith in rw none refl
get_or-each_of read width (suc n) bytes (suc k) d below =
    let next : width * suc k ≡ width + width * k = omega arith in
    get_or-each_of read width n (drop width bytes) k d (omega arith) ∙ ap read (drop-drop (width * k) width bytes ∙ ap (λ (m : ℕ). drop m bytes) (sym next))

-- a list whose items are the rows is what is read
pub each_of-of_rows : {X : Type 0} (read : List ℕ → X) (width : ℕ) (bytes : List ℕ) (xs : List X) (n : ℕ) (d : X) → length xs ≡ n
    → ((k : ℕ) → k < n → get_or xs k d ≡ read (drop (width * k) bytes)) → xs ≡ each_of read width n bytes
each_of-of_rows read width bytes xs n d len rows =
    ext_get_or d xs (each_of read width n bytes) (len ∙ sym (length-each_of read width n bytes))
    (λ k below. rows k (omega arith) ∙ sym (get_or-each_of read width n bytes k d (omega arith)))

-- what was written row by row is read back
pub each_of-flat_map : {X : Type 0} (read : List ℕ → X) (write : X → List ℕ) (fits : X → Bool) (width : ℕ) (xs : List X) (rest : List ℕ)
    → ((x : X) → length (write x) ≡ width) → ((x : X) (more : List ℕ) → IsTrue (fits x) → read (write x ++ more) ≡ x)
    → IsTrue (list_all fits xs) → each_of read width (length xs) (flat_map write xs ++ rest) ≡ xs
unfolding each_of
each_of-flat_map read write fits width [] rest size back all = refl
each_of-flat_map read write fits width (x ∷ xs) rest size back all =
    let more : List ℕ = flat_map write xs ++ rest in
    let shape : (write x ++ flat_map write xs) ++ rest ≡ write x ++ more = append_assoc (write x) (flat_map write xs) rest in
    let first : IsTrue (fits x) = IsTrue-and_left (fits x) (list_all fits xs) all in
    let others : IsTrue (list_all fits xs) = IsTrue-and_right (fits x) (list_all fits xs) all in
    rw (shape, back x more first, drop_at (write x) more width (size x), each_of-flat_map read write fits width xs rest size back others) refl

-- each row of bytes below 256 passes a test that every such row passes
pub list_all-each_of : {X : Type 0} (read : List ℕ → X) (fits : X → Bool) (width n : ℕ) (bytes : List ℕ)
    → ((row : List ℕ) → AreBytes row → IsTrue (fits (read row))) → AreBytes bytes → IsTrue (list_all fits (each_of read width n bytes))
unfolding each_of
list_all-each_of read fits width zero bytes each are = refl
list_all-each_of read fits width (suc n) bytes each are =
    rw (each bytes are, list_all-each_of read fits width n (drop width bytes) each (AreBytes-drop width bytes are)) refl

-- one row more is read
pub each_of-more : {X : Type 0} (read : List ℕ → X) (width n : ℕ) (bytes : List ℕ) → each_of read width (n + 1) bytes ≡ each_of read width n bytes ++ read (drop (width * n) bytes) ∷ []
unfolding each_of
each_of-more read width zero bytes = let none : width * 0 ≡ 0 = omega arith in rw none refl
each_of-more read width (suc n) bytes =
    let next : width * suc n ≡ width + width * n = omega arith in
    let more : suc n + 1 ≡ suc (n + 1) = omega arith in
    rw (more, each_of-more read width n (drop width bytes), drop-drop (width * n) width bytes, next) refl
