-- The lines of a script, and the words of a line.
use Rattle.std.specs.Prelude.{ℕ, ◌+◌, ◌-◌, ◌==◌, if◌then◌else◌, List, [], ◌∷◌, length, take, slice_index}
use Rattle.std.specs.List.{slice_split}

-- the parts between the bytes of this value, one more than there are such bytes
abbrev pub parts : ℕ → List ℕ → List (List ℕ)
parts separator bytes = slice_split (λ c. c == separator) bytes

-- the parts, but for a last one of no bytes
unfoldable pub without_last_empty : List (List ℕ) → List (List ℕ)
without_last_empty [] = []
without_last_empty ([] ∷ []) = []
without_last_empty (part ∷ parts) = part ∷ without_last_empty parts

-- A line ends at a line feed or at the end of the script. Nothing after the last line feed is no line.
unfoldable pub lines_of : List ℕ → List (List ℕ)
lines_of bytes = without_last_empty (parts 10 bytes)

-- without one carriage return at the end
abbrev pub without_return : List ℕ → List ℕ
without_return line = if slice_index line (length line - 1) == 13 then take (length line - 1) line else line

-- a word, and the column of its first byte
pub record Word : Type 0 where
  pub column : ℕ
  pub bytes : List ℕ

-- a part is a word where it has bytes
abbrev pub with_part : ℕ → List ℕ → List Word → List Word
with_part column [] words = words
with_part column (c ∷ part) words = record { column = column; bytes = c ∷ part } ∷ words

-- the words among parts, where the first part begins at this column and one space stands between two parts
unfoldable pub placed : ℕ → List (List ℕ) → List Word
placed column [] = []
placed column (part ∷ parts) = with_part column part (placed (column + length part + 1) parts)

-- The words from this column on. Spaces part them, and columns count bytes from 1.
abbrev pub words_from : ℕ → List ℕ → List Word
words_from column bytes = placed column (parts 32 bytes)
