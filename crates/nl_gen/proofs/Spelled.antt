-- What the words of the script of a soak spell.
use Rattle.std.proofs.Common.{◌≡◌, ◌<◌, ◌≤◌, ℕ, zero, suc, ◌+◌, ◌-◌, ◌/◌, ◌%◌, ◌^◌, Bool, true, false, cond, List, [], ◌∷◌, ◌++◌, length, refl, sym, ◌∙◌, ap, subst, arith}
use Rattle.std.specs.Prelude.{◌==◌, nat_lt, nat_le, ◌&&◌, Result, Ok, Some, None, codes, decimal, bytes_eq, slice_index, All}
use Rattle.std.specs.List.{AllByRecursion, list_all}
use Rattle.std.specs.Option.{ok_or}
use Rattle.std.specs.Char.{is_ascii_digit, digit_value}
use Rattle.std.specs.Str.Parse.{AllDigits, digits_value}
use Rattle.std.proofs.lemmas.Bool.Decides.{nat_tests}
use Rattle.std.proofs.lemmas.Str.Parse.{digit_at}
use Rattle.std.proofs.lemmas.Fmt.{decimal_is_IsNumeral, length-decimal-le, decimal_digit}
use Rattle.std.proofs.lemmas.List.Elements.{All-from_recursion}
use Rattle.std.proofs.lemmas.List.Splits.{slice_split_at, slice_split_none}
use Rattle.hex.specs.Hex.{encode_with, encode_lower, lower_digits, IsBytes}
use Rattle.hex.specs.declared.error.FromHexError.{FromHexError}
use Rattle.hex.proofs.HexLemmas.{decode_of-encode_lower}
use Rattle.nl_script.specs.declared.why.Why.{Why}
use Rattle.nl_script.specs.declared.why.Why.TheVariants.{Long, Worker, Number}
use Rattle.nl_script.specs.Spellings.{◌>>=◌, worker_of, number_of, length_of, hex_of, hex_data, data_of, byte_of, path_of, names_of, ok_or_cause, first_byte}
use Rattle.nl_gen.specs.Soak.{file_text, directory_text, four_bytes}
use Rattle.nl_script.proofs.Tokens.{IsPlain, IsToken, plain_literal}

-- ---- numbers

digit_is : (c : ℕ) → digit_value c < 10 → (48 ≤ c) × (c ≤ 57)
digit_is c h = let r = digit_at (c ∷ []) 0 (h, tt) (omega arith) in (r.0, r.1)

two : (a b : Bool) → a ≡ true → b ≡ true → (a && b) ≡ true
two a b e f = cc

plain_digits : (ds : List ℕ) → AllDigits 10 ds → AllByRecursion IsPlain ds
plain_digits [] h = tt
plain_digits (c ∷ ds) h = let d = digit_is c h.0 in ((omega (arith, d.0), omega (arith, d.1)), plain_digits ds h.1)

ascii_digits : (ds : List ℕ) → AllDigits 10 ds → list_all is_ascii_digit ds ≡ true
ascii_digits [] h = refl
ascii_digits (c ∷ ds) h = let d = digit_is c h.0 in let rest = ascii_digits ds h.1 in let here : is_ascii_digit c ≡ true = grind (arith, nat_tests) in cc

pub number_token : (n : ℕ) → n < 2 ^ 32 → IsToken (decimal n)
number_token n h = let d = decimal_is_IsNumeral n (omega arith) in (d.0.0, plain_digits (decimal n) d.0.1)

pub number_spelled : (n : ℕ) → n < 2 ^ 32 → number_of (decimal n) ≡ Ok n
number_spelled n h =
    let ds = decimal n in
    let d = decimal_is_IsNumeral n (omega arith) in
    let few : length ds ≤ 19 = length-decimal-le 19 n (omega arith) (omega arith) (omega arith) in
    let some : nat_lt 0 (length ds) ≡ true = let pos = d.0.0 in grind (arith, nat_tests) in
    let short : nat_le (length ds) 19 ≡ true = grind (arith, nat_tests) in
    let digits = ascii_digits ds d.0.1 in
    let value : digits_value 10 ds < 2 ^ 63 = omega (arith, d.1) in
    let small : nat_lt (digits_value 10 ds) (2 ^ 63) ≡ true = grind (arith, nat_tests) in
    ap (λ (b : Bool). ok_or (cond b (Some (digits_value 10 ds)) None) Number)
    (two (nat_lt 0 (length ds)) (nat_le (length ds) 19 && (list_all is_ascii_digit ds && nat_lt (digits_value 10 ds) (2 ^ 63))) some
    (two (nat_le (length ds) 19) (list_all is_ascii_digit ds && nat_lt (digits_value 10 ds) (2 ^ 63)) short
    (two (list_all is_ascii_digit ds) (nat_lt (digits_value 10 ds) (2 ^ 63)) digits small)))
    ∙ ap Ok d.1

pub length_spelled : (n : ℕ) → n ≤ 65536 → length_of (decimal n) ≡ Ok n
unfolding length_of
length_spelled n h = ap (λ (x : Result ℕ Why). x >>= (λ count. ok_or_cause (nat_le count 65536) count Long)) (number_spelled n (omega arith)) ∙ grind (arith, nat_tests)

pub worker_token : (w : ℕ) → w < 8 → IsToken (decimal w)
worker_token w h = number_token w (omega arith)

pub worker_spelled : (w : ℕ) → w < 8 → worker_of (decimal w) ≡ Ok w
worker_spelled w h = ap worker_of (decimal_digit w (omega arith)) ∙ spelled
  where
    spelled : worker_of ((48 + w) ∷ []) ≡ Ok w
    spelled =
        let low : nat_le 48 (48 + w) ≡ true = grind (arith, nat_tests) in
        let high : nat_le (48 + w) 55 ≡ true = grind (arith, nat_tests) in
        let back : 48 + w - 48 ≡ w = omega arith in
        ap (λ (b : Bool). ok_or_cause b (48 + w - 48) Worker) (two (nat_le 48 (48 + w)) (nat_le (48 + w) 55) low high) ∙ ap Ok back

-- ---- bytes

digit_plain : (n : ℕ) → n < 16 → IsPlain (slice_index lower_digits n)
digit_plain n h = All-from_recursion IsPlain lower_digits (plain_literal lower_digits refl) n 0 h

hex_plain : (bs : List ℕ) → AllByRecursion (λ b. b < 256) bs → AllByRecursion IsPlain (encode_lower bs)
unfolding encode_with
hex_plain [] h = tt
hex_plain (b ∷ bs) h = (digit_plain (b / 16) (omega (arith, h.0)), (digit_plain (b % 16) (omega arith), hex_plain bs h.1))

pub byte_token : (b : ℕ) → b < 256 → IsToken (encode_lower (b ∷ []))
unfolding encode_with
byte_token b h = (omega arith, hex_plain (b ∷ []) (h, tt))

one_byte : (b : ℕ) → b < 256 → IsBytes (b ∷ [])
one_byte b h zero = h
one_byte b h (suc i) = omega arith

pub byte_spelled : (b : ℕ) → b < 256 → byte_of (encode_lower (b ∷ [])) ≡ Ok b
unfolding byte_of encode_with
byte_spelled b h = ap (λ (x : Result (List ℕ) FromHexError). first_byte (hex_of x)) (decode_of-encode_lower (b ∷ []) (one_byte b h))

four_small : (n : ℕ) → AllByRecursion (λ b. b < 256) (four_bytes n)
four_small n = (omega arith, (omega arith, (omega arith, (omega arith, tt))))

four_are : (n : ℕ) → IsBytes (four_bytes n)
four_are n zero = omega arith
four_are n (suc zero) = omega arith
four_are n (suc (suc zero)) = omega arith
four_are n (suc (suc (suc zero))) = omega arith
four_are n (suc (suc (suc (suc i)))) = omega arith

pub data_token : (n : ℕ) → IsToken (encode_lower (four_bytes n))
unfolding encode_with
data_token n = (omega arith, hex_plain (four_bytes n) (four_small n))

and_false : (a : Bool) → (a && false) ≡ false
and_false true = refl
and_false false = refl

no_dash : (xs : List ℕ) → 1 < length xs → bytes_eq xs (codes "-") ≡ false
no_dash [] h = absurd (omega arith)
no_dash (x ∷ []) h = absurd (omega arith)
no_dash (x ∷ y ∷ rest) h = and_false (x == 45)

pub data_spelled : (n : ℕ) → data_of (encode_lower (four_bytes n)) ≡ Ok (four_bytes n)
unfolding data_of encode_with
data_spelled n =
    ap (λ (b : Bool). cond b (Ok []) (hex_data (encode_lower (four_bytes n)))) (no_dash (encode_lower (four_bytes n)) (omega arith))
    ∙ ap (λ (x : Result (List ℕ) FromHexError). hex_of x >>= (λ bs. ok_or_cause (nat_le (length bs) 65536) bs Long)) (decode_of-encode_lower (four_bytes n) (four_are n))

-- ---- paths

abbrev pub directory_path : ℕ → List (List ℕ)
directory_path w = (119 ∷ (48 + w) ∷ []) ∷ []

abbrev pub file_path : ℕ → ℕ → List (List ℕ)
file_path w f = (119 ∷ (48 + w) ∷ []) ∷ (102 ∷ (48 + f) ∷ []) ∷ []

no_slash : (x n : ℕ) → (x == 47) ≡ false → n < 10 → All (λ b. (b == 47) ≡ false) (x ∷ (48 + n) ∷ [])
no_slash x n e h = All-from_recursion (λ b. (b == 47) ≡ false) (x ∷ (48 + n) ∷ []) (e, (grind (arith, nat_tests), tt))

pub directory_is : (w : ℕ) → w < 8 → directory_text w ≡ 47 ∷ 119 ∷ (48 + w) ∷ []
directory_is w h = ap (λ (d : List ℕ). codes "/w" ++ d) (decimal_digit w (omega arith))

pub file_is : (w f : ℕ) → w < 8 → f < 4 → file_text w f ≡ 47 ∷ 119 ∷ (48 + w) ∷ 47 ∷ 102 ∷ (48 + f) ∷ []
file_is w f h k =
    ap (λ (d : List ℕ). d ++ codes "/f" ++ decimal f) (directory_is w h) ∙ ap (λ (d : List ℕ). (47 ∷ 119 ∷ (48 + w) ∷ []) ++ codes "/f" ++ d) (decimal_digit f (omega arith))

pub directory_spelled : (w : ℕ) → w < 8 → path_of (directory_text w) ≡ Ok (directory_path w)
unfolding path_of
directory_spelled w h = ap path_of (directory_is w h) ∙ ap names_of (slice_split_none (λ c. c == 47) (119 ∷ (48 + w) ∷ []) (no_slash 119 w refl (omega arith)))

pub file_spelled : (w f : ℕ) → w < 8 → f < 4 → path_of (file_text w f) ≡ Ok (file_path w f)
unfolding path_of
file_spelled w f h k =
    ap path_of (file_is w f h k)
    ∙ ap names_of (slice_split_at (λ c. c == 47) (119 ∷ (48 + w) ∷ []) 47 (102 ∷ (48 + f) ∷ []) (no_slash 119 w refl (omega arith)) refl
    ∙ ap (λ (r : List (List ℕ)). (119 ∷ (48 + w) ∷ []) ∷ r) (slice_split_none (λ c. c == 47) (102 ∷ (48 + f) ∷ []) (no_slash 102 f refl (omega arith))))

pub directory_token : (w : ℕ) → w < 8 → IsToken (directory_text w)
directory_token w h = subst IsToken (sym (directory_is w h)) (omega arith, ((omega arith, omega arith), ((omega arith, omega arith), ((omega arith, omega arith), tt))))

pub file_token : (w f : ℕ) → w < 8 → f < 4 → IsToken (file_text w f)
file_token w f h k =
    subst IsToken (sym (file_is w f h k))
    (omega arith, ((omega arith, omega arith), ((omega arith, omega arith), ((omega arith, omega arith), ((omega arith, omega arith), ((omega arith, omega arith), ((omega arith, omega arith), tt)))))))
