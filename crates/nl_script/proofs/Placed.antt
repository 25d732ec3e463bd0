-- What the first cut of some bytes says of their words and lines.
use Rattle.std.proofs.Common.{◌≡◌, ℕ, ◌+◌, ◌<◌, List, [], ◌∷◌, length, refl, sym, ◌∙◌, ap, arith}
use Rattle.std.specs.Prelude.{◌==◌}
use Rattle.std.proofs.lemmas.List.Splits.{length-slice_split}
use Rattle.nl_script.specs.Words.{parts, with_part, placed, words_from, without_last_empty, lines_of}

-- a space behind the first part
pub words-cut : (column : ℕ) (bytes part after : List ℕ) → parts 32 bytes ≡ part ∷ parts 32 after → words_from column bytes ≡ with_part column part (words_from (column + length part + 1) after)
unfolding placed
words-cut column bytes part after e = ap (placed column) e

-- no bytes have no words
pub words-none : (column : ℕ) (bytes : List ℕ) → length bytes ≡ 0 → words_from column bytes ≡ []
unfolding placed
words-none column [] none = refl
words-none column (c ∷ bytes) none = absurd (omega arith)

-- no space
pub words-end : (column next : ℕ) (bytes part after : List ℕ) → parts 32 bytes ≡ part ∷ [] → length after ≡ 0 → words_from column bytes ≡ with_part column part (words_from next after)
unfolding placed
words-end column next bytes part after e none = ap (placed column) e ∙ ap (with_part column part) (sym (words-none next after none))

pub more : (part : List ℕ) (others : List (List ℕ)) → 0 < length others → without_last_empty (part ∷ others) ≡ part ∷ without_last_empty others
unfolding without_last_empty
more part [] some = absurd (omega arith)
more [] (next ∷ others) some = refl
more (c ∷ part) (next ∷ others) some = refl

one : (bytes : List ℕ) → 0 < length bytes → without_last_empty (bytes ∷ []) ≡ bytes ∷ []
unfolding without_last_empty
one [] some = absurd (omega arith)
one (c ∷ bytes) some = refl

pub lines-none : (bytes : List ℕ) → length bytes ≡ 0 → lines_of bytes ≡ []
unfolding lines_of without_last_empty
lines-none [] none = refl
lines-none (c ∷ bytes) none = absurd (omega arith)

-- a line feed behind the first line
pub lines-cut : (bytes line after : List ℕ) → parts 10 bytes ≡ line ∷ parts 10 after → lines_of bytes ≡ line ∷ lines_of after
unfolding lines_of
lines-cut bytes line after e = ap without_last_empty e ∙ more line (parts 10 after) (omega (arith, length-slice_split (λ c. c == 10) after))

-- no line feed
pub lines-end : (bytes line after : List ℕ) → parts 10 bytes ≡ line ∷ [] → 0 < length line → length after ≡ 0 → lines_of bytes ≡ line ∷ lines_of after
unfolding lines_of
lines-end bytes line after e some none = ap without_last_empty e ∙ one line some ∙ ap (λ (ls : List (List ℕ)). line ∷ ls) (sym (lines-none after none))
