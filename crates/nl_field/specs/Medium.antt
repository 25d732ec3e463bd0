-- What is found on an image: its readable pages, those of either segment, and the page of a stamp.
use Rattle.std.specs.Prelude.{ℕ, ◌*◌, ◌==◌, nat_le, nat_lt, Bool, true, false, ◌&&◌, List, filter, filter_map, find, Option, None, option_map}
use Rattle.std.specs.List.{enumerate_from}
use Rattle.nl_field.specs.Page.{Page, erased, uncorrectable, written, Image}
use Rattle.nl_field.specs.Numbers.{shape_for}
use Rattle.nl_field.specs.SpareRecord.{spare_rec_of, stamp_of}
use Rattle.nl_field.specs.declared.shape.Shape.{Shape}
use Rattle.nl_field.specs.declared.spare.SpareRec.{SpareRec}
use Rattle.nl_field.specs.declared.spare.SpareRec.TheVariants.{Virtual, Physical}

abbrev pub shape_of_image : Image → Shape
shape_of_image image = shape_for image.blocks image.pages

-- a readable page: its number, the record that its spare bytes spell, and its main bytes
pub record Readable : Type 0 where
  pub page : ℕ
  pub rec : SpareRec
  pub main : List ℕ

abbrev pub readable : ℕ × Page → Option Readable
readable (p, erased) = None
readable (p, uncorrectable) = None
readable (p, written bytes) = option_map (λ rec. record { page = p; rec = rec; main = bytes.main }) (spare_rec_of bytes.spare)

unfoldable pub readable_pages : Image → List Readable
readable_pages image = filter_map readable (enumerate_from 0 image.contents)

-- the stamp of a readable page
abbrev pub stamp_on : Readable → ℕ
stamp_on r = stamp_of r.rec

-- the virtual address on a readable virtual page
abbrev pub address_of : SpareRec → ℕ
address_of (Virtual vaddr stamp wear) = vaddr
address_of (Physical tag stamp wear) = 0

abbrev pub address_on : Readable → ℕ
address_on r = address_of r.rec

-- a record of the virtual kind with an address below V, in the virtual segment
abbrev pub is_virtual_rec : Shape → SpareRec → Bool
is_virtual_rec shape (Virtual vaddr stamp wear) = nat_lt vaddr shape.vaddrs
is_virtual_rec shape (Physical tag stamp wear) = false

abbrev pub is_physical_rec : SpareRec → Bool
is_physical_rec (Virtual vaddr stamp wear) = false
is_physical_rec (Physical tag stamp wear) = true

-- the first page of the physical segment
abbrev pub first_physical : Shape → ℕ
first_physical shape = shape.vblocks * shape.pages

unfoldable pub virtual_pages : Image → List Readable
virtual_pages image =
    let shape = shape_of_image image in
    filter (λ r. nat_lt r.page (first_physical shape) && is_virtual_rec shape r.rec) (readable_pages image)

unfoldable pub physical_pages : Image → List Readable
physical_pages image = filter (λ r. nat_le (first_physical (shape_of_image image)) r.page && is_physical_rec r.rec) (readable_pages image)

-- a readable physical page of that stamp
unfoldable pub found : Image → ℕ → Option Readable
found image stamp = find (λ r. stamp_on r == stamp) (physical_pages image)

-- the readable physical page of that number
unfoldable pub physical_page_at : Image → ℕ → Option Readable
physical_page_at image p = find (λ r. r.page == p) (physical_pages image)
