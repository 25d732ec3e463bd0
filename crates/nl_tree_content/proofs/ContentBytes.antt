-- Bytes of one page: those that a write lays over it, and those that a cut leaves.
use Rattle.std.proofs.Common.{◌≡◌, ◌<◌, ◌≤◌, ℕ, zero, suc, ◌+◌, ◌-◌, ◌*◌, ◌==◌, min, true, List, [], ◌∷◌, ◌++◌, length, take, drop, get_or, refl, sym, ap, ◌∙◌, inl, inr, arith}
use Rattle.std.proofs.lemmas.Bool.{and_from, and_parts, eqb-true, eq-eqb, cases_lt}
use Rattle.std.proofs.lemmas.List.{get_or_append_left, get_or-append_right, get_or-take, get_or-drop, get_or_past, length-take, length-drop, length-append, length-replicate}
use Rattle.nl_field.specs.Bytes.{zeros, all_zero}
use Rattle.nl_tree_content.specs.ContentLaws.{cut_page}
use Rattle.nl_field.specs.FileContent.{overlaid}

-- zeros from an offset on, by index
pub zero_from : (xs : List ℕ) (n : ℕ) → ((i : ℕ) → n ≤ i → get_or xs i 0 ≡ 0) → all_zero (drop n xs) ≡ true
zero_from [] zero each = refl
zero_from [] (suc n) each = refl
zero_from (x ∷ xs) zero each = and_from (x == 0) _ (eq-eqb x 0 (each 0 (omega arith))) (zero_from xs zero (λ i le. each (suc i) (omega arith)))
zero_from (x ∷ xs) (suc n) each = zero_from xs n (λ i le. each (suc i) (omega (arith, le)))

pub zero_at : (xs : List ℕ) (n i : ℕ) → all_zero (drop n xs) ≡ true → n ≤ i → get_or xs i 0 ≡ 0
zero_at [] n i h le = refl
zero_at (x ∷ xs) zero zero h le = eqb-true x 0 (and_parts (x == 0) (all_zero xs) h).0
zero_at (x ∷ xs) zero (suc i) h le = zero_at xs zero i (and_parts (x == 0) (all_zero xs) h).1 (omega arith)
zero_at (x ∷ xs) (suc n) zero h le = absurd (omega (arith, le))
zero_at (x ∷ xs) (suc n) (suc i) h le = zero_at xs n i h (omega (arith, le))

pub zeros-at : (n i : ℕ) → get_or (zeros n) i 0 ≡ 0
unfolding zeros
zeros-at zero i = refl
zeros-at (suc n) zero = refl
zeros-at (suc n) (suc i) = zeros-at n i

pub length-zeros : (n : ℕ) → length (zeros n) ≡ n
unfolding zeros
length-zeros n = length-replicate n 0

-- ---- a page with data laid over it

module _ (page : List ℕ) (index from : ℕ) (bytes : List ℕ) where
  abbrev before : ℕ
  before = from - 4096 * index

  abbrev piece : List ℕ
  piece = take (4096 - before) (drop (4096 * index - from) bytes)

  length-piece : length piece ≡ min (4096 - before) (length bytes - (4096 * index - from))
  length-piece = length-take (4096 - before) (drop (4096 * index - from) bytes) ∙ ap (min (4096 - before)) (length-drop (4096 * index - from) bytes)

  pub length-overlaid : length page ≡ 4096 → length (overlaid page index from bytes) ≡ 4096
  unfolding overlaid
  length-overlaid whole =
      let a = length-append (take before page ++ piece) (drop (before + length piece) page) in
      let b = length-append (take before page) piece in
      let d = length-take before page in
      let e = length-drop (before + length piece) page in
      omega (arith, a, b, d, e, length-piece, whole)

  pub overlaid-in : length page ≡ 4096 → (r : ℕ) → r < 4096 → from ≤ 4096 * index + r → 4096 * index + r < from + length bytes
      → get_or (overlaid page index from bytes) r 0 ≡ get_or bytes (4096 * index + r - from) 0
  unfolding overlaid
  overlaid-in whole r lt le over =
      let d : length (take before page) ≡ before = length-take before page ∙ omega (arith, whole, le, lt) in
      let b = length-append (take before page) piece in
      get_or_append_left (take before page ++ piece) (drop (before + length piece) page) 0 r (omega (arith, b, d, length-piece, lt, le, over))
      ∙ get_or-append_right (take before page) piece before r 0 d (omega (arith, le))
      ∙ get_or-take (4096 - before) (drop (4096 * index - from) bytes) (r - before) 0 (omega (arith, lt, le))
      ∙ get_or-drop (4096 * index - from) bytes (r - before) 0
      ∙ ap (λ (k : ℕ). get_or bytes k 0) (omega (arith, le))

  pub overlaid-before : length page ≡ 4096 → (r : ℕ) → r < 4096 → 4096 * index + r < from → get_or (overlaid page index from bytes) r 0 ≡ get_or page r 0
  unfolding overlaid
  overlaid-before whole r lt less =
      let d = length-take before page in
      let b = length-append (take before page) piece in
      get_or_append_left (take before page ++ piece) (drop (before + length piece) page) 0 r (omega (arith, b, d, lt, less, whole))
      ∙ get_or_append_left (take before page) piece 0 r (omega (arith, d, lt, less, whole))
      ∙ get_or-take before page r 0 (omega (arith, less))

  pub overlaid-behind : length page ≡ 4096 → (r : ℕ) → r < 4096 → from + length bytes ≤ 4096 * index + r → get_or (overlaid page index from bytes) r 0 ≡ get_or page r 0
  unfolding overlaid
  overlaid-behind whole r lt more =
      let d : length (take before page) ≡ before = length-take before page ∙ omega (arith, whole, more, lt) in
      let b : length (take before page ++ piece) ≡ before + length piece = length-append (take before page) piece ∙ ap (λ (k : ℕ). k + length piece) d in
      let past : before + length piece ≤ r = omega (arith, length-piece, more, lt) in
      get_or-append_right (take before page ++ piece) (drop (before + length piece) page) (before + length piece) r 0 b past
      ∙ get_or-drop (before + length piece) page (r - (before + length piece)) 0
      ∙ ap (λ (k : ℕ). get_or page k 0) (omega (arith, past))

-- ---- a page of which the first bytes stay

module _ (size index : ℕ) (page : List ℕ) where
  abbrev stays : ℕ
  stays = size - 4096 * index

  pub length-cut_page : length page ≡ 4096 → length (cut_page size index page) ≡ 4096
  length-cut_page whole =
      let a = length-append (take stays page) (zeros (4096 - min 4096 stays)) in
      let b = length-take stays page in
      omega (arith, a, b, length-zeros (4096 - min 4096 stays), whole)

  pub cut_page-in : (r : ℕ) → r < stays → get_or (cut_page size index page) r 0 ≡ get_or page r 0
  cut_page-in r lt =
      elim (cases_lt r (length page)) as (λ _. get_or (cut_page size index page) r 0 ≡ get_or page r 0) [
        | inl h ↦
            get_or_append_left (take stays page) (zeros (4096 - min 4096 stays)) 0 r (omega (arith, length-take stays page, h, lt))
            ∙ get_or-take stays page r 0 lt
        | inr h ↦
            get_or-append_right (take stays page) (zeros (4096 - min 4096 stays)) (length page) r 0 (length-take stays page ∙ omega (arith, h, lt)) h
            ∙ zeros-at (4096 - min 4096 stays) (r - length page) ∙ sym (get_or_past page r 0 h)
      ]

  pub cut_page-past : (r : ℕ) → stays ≤ r → get_or (cut_page size index page) r 0 ≡ 0
  cut_page-past r le =
      get_or-append_right (take stays page) (zeros (4096 - min 4096 stays)) (min stays (length page)) r 0 (length-take stays page) (omega (arith, le))
      ∙ zeros-at (4096 - min 4096 stays) (r - min stays (length page))
