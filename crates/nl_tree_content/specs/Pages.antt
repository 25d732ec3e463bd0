-- The pages of a file as a program keeps them, by rising index.
use Rattle.std.specs.Prelude.{◌≡◌, ℕ, ◌+◌, ◌*◌, ◌&&◌, ◌≤◌, nat_le, nat_lt, count_by, Bool, List, length}
use Rattle.std.specs.List.{AllByRecursion, list_any, range_with_len}
use Rattle.nl_field.specs.Numbers.{max_file_size}
use Rattle.nl_tree_content.specs.ContentLaws.{cut_page}
use Rattle.nl_field.specs.FileContent.{FileContent}

-- each page has 4096 bytes
abbrev pub AreWhole : List (ℕ × List ℕ) → Type 0
AreWhole pages = AllByRecursion (λ page. length page.1 ≡ 4096) pages

-- a page lies in the range
abbrev pub is_in_range : List (ℕ × List ℕ) → ℕ → Bool
is_in_range pages r = list_any (λ page. nat_le (8 + 256 * r) page.0 && nat_lt page.0 (264 + 256 * r)) pages

-- in how many of the 16 ranges of 256 indexes from 8 on the file has a page
abbrev pub ranges_of_pages : List (ℕ × List ℕ) → ℕ
ranges_of_pages pages = count_by (is_in_range pages) (range_with_len 0 16)

-- the file is not too large, its pages are whole, and it has some in so many ranges
pub record IsFileBuf (content : FileContent) (ranges : ℕ) : Type 0 where
  pub small : content.size ≤ max_file_size
  pub whole : AreWhole content.pages
  pub counted : ranges ≡ ranges_of_pages content.pages

-- what a cut to a size leaves of a page
abbrev pub cut_entry : ℕ → ℕ × List ℕ → ℕ × List ℕ
cut_entry size page = (page.0, cut_page size page.0 page.1)
