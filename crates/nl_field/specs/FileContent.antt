-- What a file holds, and what reading, writing and cutting it do.
use Rattle.std.specs.Prelude.{ℕ, ◌+◌, ◌-◌, ◌*◌, ◌/◌, ◌%◌, min, max, ◌==◌, nat_lt, Bool, ◌&&◌, if◌then◌else◌, List, [], ◌++◌, length, take, drop, map, filter, fold, slice_index, unwrap_or}
use Rattle.std.specs.List.{range_with_len, list_all}
use Rattle.std.specs.Ordering.{nat_cmp}
use Rattle.std.specs.FinMap.{find as value_at, put as with_entry, is_sorted}
use Rattle.std.specs.Int.{div_ceil}
use Rattle.nl_field.specs.Bytes.{zeros, all_zero}

-- The size, and by rising index the pages that hold bytes, of 4096 bytes each. A byte without a page is zero.
pub record FileContent : Type 0 where
  pub size : ℕ
  pub pages : List (ℕ × List ℕ)

abbrev pub empty_file : FileContent
empty_file = record { size = 0; pages = [] }

-- the bytes of a page; those of a page that is not there are zero
unfoldable pub page_bytes : FileContent → ℕ → List ℕ
page_bytes file index = unwrap_or (value_at nat_cmp index file.pages) (zeros 4096)

unfoldable pub byte_of : FileContent → ℕ → ℕ
byte_of file i = slice_index (unwrap_or (value_at nat_cmp (i / 4096) file.pages) []) (i % 4096)

-- indexes rise and are below the pages of the size, and bytes at and past the size are zero
unfoldable pub is_content : FileContent → Bool
is_content file =
    is_sorted nat_cmp file.pages
    && list_all (λ page. nat_lt page.0 (div_ceil file.size 4096) && length page.1 == 4096
    && all_zero (drop (file.size - 4096 * page.0) page.1)) file.pages

-- the bytes from an offset on, at most this many, ending at the size
unfoldable pub bytes_read : FileContent → ℕ → ℕ → List ℕ
bytes_read file from len = map (byte_of file) (range_with_len from (min len (file.size - from)))

-- the indexes of the pages in which some of these bytes lie
unfoldable pub touched : ℕ → ℕ → List ℕ
touched from len = if len == 0 then [] else range_with_len (from / 4096) ((from + len - 1) / 4096 + 1 - from / 4096)

-- a page's bytes, with those of the data that lie in the page laid over them
unfoldable pub overlaid : List ℕ → ℕ → ℕ → List ℕ → List ℕ
overlaid page index from bytes =
    let before = from - 4096 * index in
    let piece = take (4096 - before) (drop (4096 * index - from) bytes) in
    take before page ++ piece ++ drop (before + length piece) page

-- the file after a write of these bytes at this offset
unfoldable pub written_over : FileContent → ℕ → List ℕ → FileContent
written_over file from bytes =
    if length bytes == 0 then file
    else record {
      size = max file.size (from + length bytes);
      pages = fold (λ pages index. with_entry nat_cmp index (overlaid (page_bytes file index) index from bytes) pages) file.pages
          (touched from (length bytes));
    }

-- the file cut or lengthened to a size
unfoldable pub cut_to : FileContent → ℕ → FileContent
cut_to file size =
    record {
      size = size;
      pages = map (λ page. (page.0, take (size - 4096 * page.0) page.1 ++ zeros (4096 - min 4096 (size - 4096 * page.0))))
          (filter (λ page. nat_lt page.0 (div_ceil size 4096)) file.pages);
    }
