-- A desk with one row more.
use Rattle.std.proofs.Common.{◌≡◌, ◌⊎◌, inl, inr, ℕ, zero, suc, ◌+◌, ◌-◌, ◌<◌, ◌≤◌, List, [], ◌∷◌, ◌++◌, length, Some, refl, sym, ap, ◌∙◌, subst, arith, length-append}
use Rattle.std.specs.Prelude.{slice_get, take, drop}
use mathlib.Core.List.{map-append}
use Rattle.nl_tree.specs.declared.turn.Answered.{Answered}
use Rattle.nl_workers.specs.Filing.{row_of, rows_of, IsFiled}
use Rattle.nl_workers.specs.declared.desk.Filed.{Filed}

take_front : (n : ℕ) (xs ys : List ℕ) → n ≤ length xs → take n (xs ++ ys) ≡ take n xs
take_front zero [] ys h = refl
take_front zero (x ∷ xs) ys h = refl
take_front (suc n) [] ys h = absurd (omega arith)
take_front (suc n) (x ∷ xs) ys h = ap (λ z. x ∷ z) (take_front n xs ys (omega arith))

slice_front : (from n : ℕ) (xs ys : List ℕ) → from + n ≤ length xs → take n (drop from (xs ++ ys)) ≡ take n (drop from xs)
slice_front zero n xs ys h = take_front n xs ys (omega arith)
slice_front (suc from) zero [] ys h = absurd (omega arith)
slice_front (suc from) (suc n) [] ys h = absurd (omega arith)
slice_front (suc from) n (x ∷ xs) ys h = slice_front from n xs ys (omega arith)

take_whole : (xs : List ℕ) → take (length xs) xs ≡ xs
take_whole [] = refl
take_whole (x ∷ xs) = ap (λ z. x ∷ z) (take_whole xs)

slice_back : (xs ys : List ℕ) → take (length ys) (drop (length xs) (xs ++ ys)) ≡ ys
slice_back [] ys = take_whole ys
slice_back (x ∷ xs) ys = slice_back xs ys

rows_grow : (bytes more : List ℕ) (filed : List Filed) → ((j : ℕ) (f : Filed) → slice_get filed j ≡ Some f → f.from + f.len ≤ length bytes) → rows_of (bytes ++ more) filed ≡ rows_of bytes filed
rows_grow bytes more [] each = refl
rows_grow bytes more (f ∷ fs) each =
    let here : take f.len (drop f.from (bytes ++ more)) ≡ take f.len (drop f.from bytes) = slice_front f.from f.len bytes more (each 0 f refl) in
    let rest = rows_grow bytes more fs (λ j g e. each (suc j) g e) in
    λ i. record { line = f.answer.line; answered = f.answer.answered; bytes = here i } ∷ rest i

get_either : (xs : List Filed) (x y : Filed) (i : ℕ) → slice_get (xs ++ x ∷ []) i ≡ Some y → (slice_get xs i ≡ Some y) ⊎ (x ≡ y)
get_either [] x y zero e = inr (cc e)
get_either [] x y (suc i) e = absurd (cc e)
get_either (z ∷ xs) x y zero e = inl e
get_either (z ∷ xs) x y (suc i) e = get_either xs x y i e

module _ (filed filed' : List Filed) (room room' : ℕ) (bytes bytes' kept : List ℕ) (bytes_room bytes_room' lines_left bytes_left asked line : ℕ) (answered : Answered) (f : Filed)
    (w : IsFiled filed room bytes bytes_room lines_left bytes_left) (more : bytes' ≡ bytes ++ kept) (few : length kept ≤ asked)
    (is_line : f.answer.line ≡ line) (is_answer : f.answer.answered ≡ answered) (from : f.from ≡ length bytes) (len : f.len ≡ length bytes' - length bytes)
    (push : filed' ≡ filed ++ f ∷ []) where
  kept_len : f.len ≡ length kept
  kept_len = let a = ap length more in let b = length-append bytes kept in let l = len in omega arith

  pub rows_more : rows_of bytes' filed' ≡ rows_of bytes filed ++ record { line = line; answered = answered; bytes = kept } ∷ []
  rows_more =
      let own : take f.len (drop f.from (bytes ++ kept)) ≡ kept = (λ i. take (kept_len i) (drop (from i) (bytes ++ kept))) ∙ slice_back bytes kept in
      let last : row_of (bytes ++ kept) f ≡ record { line = line; answered = answered; bytes = kept } = λ i. record { line = is_line i; answered = is_answer i; bytes = own i } in
      (λ i. rows_of (more i) (push i)) ∙ (map-append (row_of (bytes ++ kept)) filed (f ∷ []) ∙ (λ i. rows_grow bytes kept filed w.each i ++ last i ∷ []))

  pub files_more : 0 < lines_left → asked ≤ bytes_left → room ≤ room' → bytes_room ≤ bytes_room' → IsFiled filed' room' bytes' bytes_room' (lines_left - 1) (bytes_left - asked)
  files_more some enough wide wide' =
      let a = ap length more ∙ length-append bytes kept in
      let b : length filed' ≡ length filed + 1 = ap length push ∙ length-append filed (f ∷ []) in
      let c = w.lines_fit in
      let d = w.bytes_fit in
      let e = w.small in
      let k = few in
      record {
        each = λ j g is. go j g (get_either filed f g j (ap (λ xs. slice_get xs j) (sym push) ∙ is));
        lines_fit = omega arith;
        bytes_fit = omega arith;
        small = omega arith;
      }
    where
      go : (j : ℕ) (g : Filed) → (slice_get filed j ≡ Some g) ⊎ (f ≡ g) → g.from + g.len ≤ length bytes'
      go j g (inl old) = let a = ap length more ∙ length-append bytes kept in let b = w.each j g old in omega arith
      go j g (inr new) = subst (λ (z : Filed). z.from + z.len ≤ length bytes') new (let a = from in let b = len in let c = ap length more ∙ length-append bytes kept in omega arith)
