-- Words with one space between them, as the grammar of scripts reads them.
use Rattle.std.proofs.Common.{◌≡◌, ◌<◌, ◌≤◌, ℕ, zero, suc, ◌+◌, ◌-◌, Bool, true, false, cond, List, [], ◌∷◌, ◌++◌, length, take, refl, ◌∙◌, ap, arith}
use Rattle.std.specs.Prelude.{◌==◌, nat_le, ◌&&◌, Some, None, position, slice_index, All}
use Rattle.std.specs.List.{AllByRecursion, list_all, position_from}
use Rattle.std.proofs.lemmas.Bool.Decides.{nat_tests}
use Rattle.std.proofs.lemmas.Iterator.Adapters.{position_from-zero}
use Rattle.std.proofs.lemmas.List.Elements.{All-from_recursion}
use Rattle.std.proofs.lemmas.List.Splits.{slice_split_at, slice_split_none}
use Rattle.nl_script.specs.Grammar.{is_control}
use Rattle.nl_script.specs.Words.{Word, with_part, placed, words_from, without_return}

-- a byte that a word may have
abbrev pub IsPlain : ℕ → Type 0
IsPlain b = (33 ≤ b) × (b ≤ 126)

-- a word of such bytes
abbrev pub IsToken : List ℕ → Type 0
IsToken t = (0 < length t) × AllByRecursion IsPlain t

abbrev pub joined : List (List ℕ) → List ℕ
joined [] = []
joined (t ∷ []) = t
joined (t ∷ u ∷ ts) = t ++ 32 ∷ joined (u ∷ ts)

-- the words, from this column on
abbrev pub at : ℕ → List (List ℕ) → List Word
at column [] = []
at column (t ∷ ts) = record { column = column; bytes = t } ∷ at (column + length t + 1) ts

-- ---- literals

abbrev pub is_plain : ℕ → Bool
is_plain b = nat_le 33 b && nat_le b 126

plain_first : (b : ℕ) (low high : Bool) (rest : Bool) → nat_le 33 b ≡ low → nat_le b 126 ≡ high → ((low && high) && rest) ≡ true → IsPlain b × (rest ≡ true)
plain_first b true true rest l h e = ((grind (arith, nat_tests), grind (arith, nat_tests)), e)
plain_first b true false rest l h e = absurd (cc e)
plain_first b false high rest l h e = absurd (cc e)

pub plain_literal : (bs : List ℕ) → list_all is_plain bs ≡ true → AllByRecursion IsPlain bs
plain_literal [] e = tt
plain_literal (b ∷ bs) e = let r = plain_first b (nat_le 33 b) (nat_le b 126) (list_all is_plain bs) refl refl e in (r.0, plain_literal bs r.1)

-- ---- what holds of each byte

each : (P Q : ℕ → Type 0) → ((b : ℕ) → P b → Q b) → (xs : List ℕ) → AllByRecursion P xs → AllByRecursion Q xs
each P Q f [] h = tt
each P Q f (x ∷ xs) h = (f x h.0, each P Q f xs h.1)

pub both : (P : ℕ → Type 0) (xs ys : List ℕ) → AllByRecursion P xs → AllByRecursion P ys → AllByRecursion P (xs ++ ys)
both P [] ys h k = k
both P (x ∷ xs) ys h k = (h.0, both P xs ys h.1 k)

module _ (Q : ℕ → Type 0) (plain : (b : ℕ) → IsPlain b → Q b) (space : Q 32) where
  pub all_joined : (ts : List (List ℕ)) → AllByRecursion IsToken ts → AllByRecursion Q (joined ts)
  all_joined [] h = tt
  all_joined (t ∷ []) h = each IsPlain Q plain t h.0.1
  all_joined (t ∷ u ∷ ts) h = both Q t (32 ∷ joined (u ∷ ts)) (each IsPlain Q plain t h.0.1) (space, all_joined (u ∷ ts) h.1)

-- ---- words

no_space : (t : List ℕ) → AllByRecursion IsPlain t → All (λ b. (b == 32) ≡ false) t
no_space t h = All-from_recursion (λ b. (b == 32) ≡ false) t (each IsPlain (λ b. (b == 32) ≡ false) (λ b p. grind (arith, nat_tests)) t h)

some_part : (column : ℕ) (t : List ℕ) (words : List Word) → 0 < length t → with_part column t words ≡ record { column = column; bytes = t } ∷ words
some_part column [] words some = absurd (omega arith)
some_part column (c ∷ t) words some = refl

pub words_joined : (column : ℕ) (ts : List (List ℕ)) → AllByRecursion IsToken ts → words_from column (joined ts) ≡ at column ts
unfolding placed
words_joined column [] h = refl
words_joined column (t ∷ []) h = ap (placed column) (slice_split_none (λ c. c == 32) t (no_space t h.0.1)) ∙ some_part column t [] h.0.0
words_joined column (t ∷ u ∷ ts) h =
    ap (placed column) (slice_split_at (λ c. c == 32) t 32 (joined (u ∷ ts)) (no_space t h.0.1) refl)
    ∙ some_part column t (words_from (column + length t + 1) (joined (u ∷ ts))) h.0.0
    ∙ ap (λ (ws : List Word). record { column = column; bytes = t } ∷ ws) (words_joined (column + length t + 1) (u ∷ ts) h.1)

-- ---- bytes that no such line has

none_from : (p : ℕ → Bool) (xs : List ℕ) (k : ℕ) → AllByRecursion (λ b. p b ≡ false) xs → position_from p k xs ≡ None
none_from p [] k h = refl
none_from p (x ∷ xs) k h = ap (λ (b : Bool). cond b (Some k) (position_from p (k + 1) xs)) h.0 ∙ none_from p xs (k + 1) h.1

pub no_control : (ts : List (List ℕ)) → AllByRecursion IsToken ts → position is_control (joined ts) ≡ None
no_control ts h =
    position_from-zero is_control (joined ts) ∙ none_from is_control (joined ts) 0 (all_joined (λ b. is_control b ≡ false) (λ b p. grind (arith, nat_tests)) refl ts h)

never_13 : (xs : List ℕ) (i : ℕ) → AllByRecursion (λ b. (b == 13) ≡ false) xs → (slice_index xs i == 13) ≡ false
never_13 [] i h = refl
never_13 (x ∷ xs) zero h = h.0
never_13 (x ∷ xs) (suc i) h = never_13 xs i h.1

pub no_return : (ts : List (List ℕ)) → AllByRecursion IsToken ts → without_return (joined ts) ≡ joined ts
no_return ts h =
    let line = joined ts in
    let no = never_13 line (length line - 1) (all_joined (λ b. (b == 13) ≡ false) (λ b p. grind (arith, nat_tests)) refl ts h) in
    ap (λ (b : Bool). cond b (take (length line - 1) line) line) no

pub no_line_feed : (ts : List (List ℕ)) → AllByRecursion IsToken ts → AllByRecursion (λ b. (b == 10) ≡ false) (joined ts)
no_line_feed ts h = all_joined (λ b. (b == 10) ≡ false) (λ b p. grind (arith, nat_tests)) refl ts h
