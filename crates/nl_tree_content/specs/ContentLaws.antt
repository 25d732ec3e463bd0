-- What is in a file after a write and after a cut.
use Rattle.std.specs.Prelude.{◌≡◌, ◌<◌, ◌≤◌, ℕ, ◌+◌, ◌-◌, ◌*◌, min, max, ◌==◌, nat_lt, nat_le, Bool, ◌&&◌, ◌||◌, if◌then◌else◌, List, ◌++◌, length, take, drop, map, false, slice_index, Some, None, option_map, is_some, IsTrue}
use Rattle.std.specs.List.{list_any, range_with_len}
use Rattle.std.specs.Int.{div_ceil}
use Rattle.std.specs.Ordering.{nat_cmp}
use Rattle.std.specs.FinMap.{find as value_at}
use Rattle.nl_field.specs.Bytes.{zeros}
use Rattle.nl_field.specs.FileContent.{FileContent, byte_of, is_content, overlaid, page_bytes, touched, written_over, cut_to}

-- whether a page of this index holds bytes
abbrev pub has_page : FileContent → ℕ → Bool
has_page file index = is_some (value_at nat_cmp index file.pages)

-- whether so many bytes from an offset on have one in the page of this index
abbrev pub is_touched : ℕ → ℕ → ℕ → Bool
is_touched from len index = nat_lt 0 len && nat_lt (4096 * index) (from + len) && nat_lt from (4096 * index + 4096)

-- the bytes of a page of this index that stay in a file of this size, and zeros behind them
abbrev pub cut_page : ℕ → ℕ → List ℕ → List ℕ
cut_page size index page = take (size - 4096 * index) page ++ zeros (4096 - min 4096 (size - 4096 * index))

-- A write to a content makes a content. Its size grows to the end of the bytes written; each byte within them is theirs, and each
-- other stays.
pub record WriteLaws : Type 0 where
  pub is_content_still : (file : FileContent) (from : ℕ) (bytes : List ℕ) → IsTrue (is_content file)
      → IsTrue (is_content (written_over file from bytes))
  pub size : (file : FileContent) (from : ℕ) (bytes : List ℕ)
      → (written_over file from bytes).size ≡ (if nat_lt 0 (length bytes) then max file.size (from + length bytes) else file.size)
  pub byte : (file : FileContent) (from : ℕ) (bytes : List ℕ) (i : ℕ) → IsTrue (is_content file)
      → byte_of (written_over file from bytes) i
      ≡ (if nat_le from i && nat_lt i (from + length bytes) then slice_index bytes (i - from) else byte_of file i)
  pub page : (file : FileContent) (from : ℕ) (bytes : List ℕ) (index : ℕ)
      → value_at nat_cmp index (written_over file from bytes).pages
      ≡ (if is_touched from (length bytes) index then Some (overlaid (page_bytes file index) index from bytes)
      else value_at nat_cmp index file.pages)
  pub indexes : (file : FileContent) (from : ℕ) (bytes : List ℕ) (index : ℕ)
      → has_page (written_over file from bytes) index ≡ (is_touched from (length bytes) index || has_page file index)
  pub touched_indexes : (from len index : ℕ) → list_any (λ i. i == index) (touched from len) ≡ is_touched from len index

-- A cut of any file. Bytes below the new size stay, and those from it on are zero; pages stay that lie below the pages of the new
-- size.
pub record CutLaws : Type 0 where
  pub is_content_still : (file : FileContent) (size : ℕ) → IsTrue (is_content file) → IsTrue (is_content (cut_to file size))
  pub size : (file : FileContent) (size : ℕ) → (cut_to file size).size ≡ size
  pub byte : (file : FileContent) (size i : ℕ) → byte_of (cut_to file size) i ≡ (if nat_lt i size then byte_of file i else 0)
  pub page : (file : FileContent) (size index : ℕ)
      → value_at nat_cmp index (cut_to file size).pages
      ≡ (if nat_lt index (div_ceil size 4096) then option_map (cut_page size index) (value_at nat_cmp index file.pages) else None)
  pub indexes : (file : FileContent) (size index : ℕ)
      → has_page (cut_to file size) index ≡ (has_page file index && nat_lt index (div_ceil size 4096))

-- The bytes of a content at and past its size are zero, and a page's bytes, or a part of them, are those of its offsets. Its size and
-- what is at each index make up a content.
pub record ByteLaws : Type 0 where
  pub past_size : (file : FileContent) (i : ℕ) → IsTrue (is_content file) → file.size ≤ i → byte_of file i ≡ 0
  pub in_page : (file : FileContent) (index i : ℕ) → i < 4096 → slice_index (page_bytes file index) i ≡ byte_of file (4096 * index + i)
  pub whole_page : (file : FileContent) (index : ℕ) → IsTrue (is_content file) → length (page_bytes file index) ≡ 4096
  pub part : (file : FileContent) (index start count : ℕ) → length (page_bytes file index) ≡ 4096 → start + count ≤ 4096
      → map (byte_of file) (range_with_len (4096 * index + start) count) ≡ take count (drop start (page_bytes file index))
  pub hole : (file : FileContent) (index start count : ℕ) → has_page file index ≡ false → start + count ≤ 4096
      → map (byte_of file) (range_with_len (4096 * index + start) count) ≡ zeros count
  pub same : (file other : FileContent) → IsTrue (is_content file) → IsTrue (is_content other) → file.size ≡ other.size
      → ((index : ℕ) → value_at nat_cmp index file.pages ≡ value_at nat_cmp index other.pages) → file ≡ other
