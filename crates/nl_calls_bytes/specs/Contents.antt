-- The pages of a file that a call writes.
use Rattle.std.specs.List.{range_with_len}
use Rattle.std.specs.Prelude.{◌≡◌, ℕ, ◌+◌, ◌-◌, ◌/◌, true, List, length}
use Rattle.nl_tree_content.specs.ContentLaws.{is_touched}
use Rattle.nl_field.specs.FileContent.{FileContent, overlaid, page_bytes}
use Rattle.nl_field.specs.Members.{Has}

-- the first index in which some of so many bytes from an offset on lie, and in how many some do
abbrev pub first_index : ℕ → ℕ
first_index from = from / 4096

abbrev pub count_indexes : ℕ → ℕ → ℕ
count_indexes from len = (from + len - 1) / 4096 + 1 - from / 4096

abbrev pub indexes_written : ℕ → ℕ → List ℕ
indexes_written from len = range_with_len (first_index from) (count_indexes from len)

-- Pages with their indexes: each is one of those in which the bytes lie, as the bytes make it, and each of those is there.
pub record IsWholeWrite (content : FileContent) (from : ℕ) (bytes : List ℕ) (pages : List (ℕ × List ℕ)) : Type 0 where
  pub made : (p : ℕ × List ℕ) → Has pages p → p.1 ≡ overlaid (page_bytes content p.0) p.0 from bytes
  pub touched : (p : ℕ × List ℕ) → Has pages p → is_touched from (length bytes) p.0 ≡ true
  pub all : (i : ℕ) → is_touched from (length bytes) i ≡ true → (p : ℕ × List ℕ) × Has pages p × (i ≡ p.0)
