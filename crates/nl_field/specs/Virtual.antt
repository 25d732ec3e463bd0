-- The page and the bytes of a virtual address.
use Rattle.std.specs.Prelude.{◌≡◌, ℕ, ◌+◌, ◌==◌, nat_le, nat_lt, Bool, ◌&&◌, if◌then◌else◌, List, [], ◌∷◌, filter, find, Option, Some, None, option_map, unwrap_or}
use Rattle.nl_field.specs.Page.{Image}
use Rattle.nl_field.specs.Bytes.{zeros}
use Rattle.nl_field.specs.Medium.{Readable, shape_of_image, stamp_on, address_on, virtual_pages}
use Rattle.nl_field.specs.Space.{has_greatest_stamp, virtual_spare, is_outside}
use Rattle.nl_field.specs.declared.shape.Shape.{Shape}

abbrev pub first_in : List Readable → Option Readable
first_in [] = None
first_in (r ∷ rest) = Some r

abbrev pub or_first_in : List Readable → Option Readable → Option Readable
or_first_in pages None = first_in pages
or_first_in pages (Some r) = Some r

-- of the readable virtual pages of that address with the greatest stamp the least outside the spare block, else the least
unfoldable pub newest : Image → ℕ → Option Readable
newest image v =
    let pages = virtual_pages image in
    let greatest = filter (λ r. address_on r == v && has_greatest_stamp pages r) pages in
    or_first_in greatest (find (λ r. is_outside image.pages (virtual_spare image) r.page) greatest)

abbrev pub is_inode_address : Shape → ℕ → Bool
is_inode_address shape v = nat_le 67 v && nat_lt v (67 + shape.inode_pages)

-- what an address reads as that has these bytes; an inode page that was never written reads as zeros
abbrev pub or_zeros : Shape → ℕ → Option (List ℕ) → Option (List ℕ)
or_zeros shape v bytes = if is_inode_address shape v then Some (unwrap_or bytes (zeros 4096)) else bytes

-- the bytes of a virtual address; an inode page that was never written is zeros
unfoldable pub virtual_bytes : Image → ℕ → Option (List ℕ)
virtual_bytes image v = or_zeros (shape_of_image image) v (option_map (λ r. r.main) (newest image v))

-- The bytes of a virtual address of a device that has these stamps and main bytes: the same, and none from the volume's count of
-- addresses on.
unfoldable pub map_bytes : Shape → (ℕ → Option (ℕ × List ℕ)) → ℕ → Option (List ℕ)
map_bytes shape values v = if nat_lt v shape.vaddrs then or_zeros shape v (option_map (λ x. x.1) (values v)) else None

-- the stamp and the main bytes of the page of each virtual address
abbrev pub newest_values : Image → ℕ → Option (ℕ × List ℕ)
newest_values image v = option_map (λ r. (stamp_on r, r.main)) (newest image v)

-- A device that has an image's values has its bytes.
abbrev pub MapIsImage : Type 0
MapIsImage = (image : Image) (v : ℕ) → map_bytes (shape_of_image image) (newest_values image) v ≡ virtual_bytes image v
