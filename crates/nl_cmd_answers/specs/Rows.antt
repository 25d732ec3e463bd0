-- What is printed of the rows of a table of answers.
use Rattle.std.specs.Prelude.{◌≡◌, ℕ, ◌+◌, Bool, true, false, List, ◌++◌, IfSome, count_by, flat_map, length, map, slice_get, sum_by}
use Rattle.nl_field.specs.CrashStates.{saturated}
use Rattle.nl_print.specs.Texts.{Answered, answer_line, opened_line, run_text, soak_text}
use Rattle.nl_tree.specs.declared.reply.Reply.{Reply}
use Rattle.nl_tree.specs.declared.reply.Reply.TheVariants.{Content, Count, Fault, No}
use Rattle.nl_workers.specs.Table.{Row}

-- ---- the answers of a script

-- the line of a row
abbrev pub row_line : Row → List ℕ
row_line row = answer_line row.answered.place (row.line, row.answered.reply, row.bytes)

-- with which count the volume opened, and the line of each row
abbrev pub rows_text : ℕ → List Row → List ℕ
rows_text count rows = opened_line count ++ flat_map row_line rows

-- The rows have the places behind this count, one after the other.
abbrev pub HavePlaces : ℕ → List Row → Type 0
HavePlaces count rows = (i : ℕ) → IfSome (slice_get rows i) (λ row. row.answered.place ≡ count + i + 1)

-- a row as it is told: its line, its reply and its bytes
abbrev pub said : Row → Answered
said row = (row.line, row.answered.reply, row.bytes)

-- ---- the summary of a soak

-- neither a refusal nor a fault
abbrev pub is_ok : Reply → Bool
is_ok (No refusal) = false
is_ok (Fault fault) = false
is_ok reply = true

-- the count of a write or a fill
abbrev pub written_by : Reply → ℕ
written_by (Count n) = n
written_by reply = 0

-- the length of a content
abbrev pub read_by : Reply → List ℕ → ℕ
read_by Content bytes = length bytes
read_by reply bytes = 0

abbrev pub ok_in : List Answered → ℕ
ok_in answered = count_by (λ (a : Answered). is_ok a.1) answered

abbrev pub written_in : List Answered → ℕ
written_in answered = sum_by (λ (a : Answered). written_by a.1) answered

abbrev pub read_in : List Answered → ℕ
read_in answered = sum_by (λ (a : Answered). read_by a.1 a.2) answered

-- How many lines were answered, and how many of them ok; how many bytes were written and read, at most 2^64 - 1; and the charges of a tree.
abbrev pub summary_text : List Answered → (pages nodes meta : ℕ) → List ℕ
summary_text answered pages nodes meta =
    soak_text (length answered) (ok_in answered) (saturated (written_in answered)) (saturated (read_in answered)) pages nodes meta

-- ---- a law

-- Rows that have the places behind a count are printed as the answers of a run on a volume that opened with it.
abbrev pub PlacedRowsAreARun : Type 0
PlacedRowsAreARun = (count : ℕ) (rows : List Row) → HavePlaces count rows → rows_text count rows ≡ run_text count (map said rows)
