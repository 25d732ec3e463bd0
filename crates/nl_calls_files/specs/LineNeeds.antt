-- What pages at given indexes of a file need, and what they make of its content.
use Rattle.std.specs.FinMap.{put as with_entry}
use Rattle.std.specs.List.{list_any, range_with_len}
use Rattle.std.specs.Ordering.{nat_cmp}
use Rattle.std.specs.Prelude.{ℕ, ◌==◌, nat_le, Bool, ◌&&◌, List, count_by, fold, slice_index}
use Rattle.nl_field.specs.FileContent.{FileContent}
use Rattle.nl_field.specs.Pointers.{is_none_pointer}
use Rattle.nl_field.specs.declared.inode.InodeRec.{InodeRec}
use Rattle.nl_inode.specs.Nodes.{Spaces}
use Rattle.nl_indirect.specs.Ranges.{range_of}
use Rattle.nl_meta.specs.Committed.{VirtualMap}
use Rattle.nl_meta.specs.Nodes.{pointer_at, slots_of}

-- the range has no page of pointers, and one of the indexes lies in it
abbrev pub gets_page : InodeRec → List ℕ → ℕ → Bool
gets_page rec indexes range = (slice_index (slots_of rec) range == 0) && list_any (λ i. nat_le 8 i && (range_of i == range)) indexes

-- how many ranges get a page of pointers
abbrev pub new_ranges : InodeRec → List ℕ → ℕ
new_ranges rec indexes = count_by (gets_page rec indexes) (range_with_len 0 16)

-- how many addresses of the pool are free
abbrev pub free_addresses : Spaces → ℕ
free_addresses spaces = count_by (λ free. free) spaces.pool

-- how many of the indexes have no pointer
abbrev pub new_pointers : VirtualMap → InodeRec → List ℕ → ℕ
new_pointers metadata rec indexes = count_by (λ i. is_none_pointer (pointer_at metadata rec i)) indexes

-- the content of this size with these pages at their indexes, one after the other
abbrev pub with_pages : List (ℕ × List ℕ) → ℕ → FileContent → FileContent
with_pages pages size content =
    record { size = size; pages = fold (λ entries page. with_entry nat_cmp page.0 page.1 entries) content.pages pages }
