-- The map of virtual addresses that is committed: the pages at home, and over them those of a transaction that counts.
use Rattle.std.specs.Prelude.{ℕ, ◌+◌, ◌==◌, max, nat_lt, Bool, ◌&&◌, if◌then◌else◌, List, length, position, Option, Some, None, option_and_then, option_map, unwrap_or, is_some}
use Rattle.std.specs.List.{list_all, range_with_len}
use Rattle.nl_field.specs.Page.{Image}
use Rattle.nl_field.specs.Journal.{header_of, commit_of}
use Rattle.nl_field.specs.Medium.{shape_of_image}
use Rattle.nl_field.specs.Virtual.{virtual_bytes}
use Rattle.nl_field.specs.declared.shape.Shape.{Shape}
use Rattle.nl_field.specs.declared.header.HeaderRec.{HeaderRec}
use Rattle.nl_field.specs.declared.commit.CommitRec.{CommitRec}

-- the bytes of each virtual address that has some
abbrev pub VirtualMap : Type 0
VirtualMap = ℕ → Option (List ℕ)

-- the record, where each home address is one of the volume
abbrev pub within_volume : Shape → HeaderRec → Option HeaderRec
within_volume shape header = if list_all (λ a. nat_lt a shape.vaddrs) header.addresses then Some header else None

-- the journal header that address 1 spells; one with an address at or above the volume's count is no spelling
unfoldable pub header_at : Shape → VirtualMap → Option HeaderRec
header_at shape pages = option_and_then (within_volume shape) (option_and_then header_of (pages 1))

-- the commit record that address 66 spells
unfoldable pub commit_at : VirtualMap → Option CommitRec
commit_at pages = option_and_then commit_of (pages 66)

-- header and commit page carry one number, and each image is there
abbrev pub counts : VirtualMap → HeaderRec → CommitRec → Bool
counts pages header commit =
    header.number == commit.number && list_all (λ i. is_some (pages (2 + i))) (range_with_len 0 (length header.addresses))

-- the header of the transaction that counts, if one does
unfoldable pub counting : Shape → VirtualMap → Option HeaderRec
counting shape pages =
    option_and_then (λ header. option_and_then (λ commit. if counts pages header commit then Some header else None) (commit_at pages)) (header_at shape pages)

-- the number of the next transaction: one more than the greater of the two that are spelled, or 1
unfoldable pub next_number : Shape → VirtualMap → ℕ
next_number shape pages =
    1 + max (unwrap_or (option_map (λ header. header.number) (header_at shape pages)) 0) (unwrap_or (option_map (λ commit. commit.number) (commit_at pages)) 0)

abbrev pub place_in : Option HeaderRec → ℕ → Option ℕ
place_in None v = None
place_in (Some header) v = position (λ a. a == v) header.addresses

abbrev pub home_or_image : VirtualMap → ℕ → Option ℕ → Option (List ℕ)
home_or_image pages v None = pages v
home_or_image pages v (Some i) = pages (2 + i)

-- Where a transaction counts and lists an address, the image in its place counts.
unfoldable pub committed : Shape → VirtualMap → VirtualMap
committed shape pages v = home_or_image pages v (place_in (counting shape pages) v)

abbrev pub committed_of : Image → VirtualMap
committed_of image = committed (shape_of_image image) (virtual_bytes image)
