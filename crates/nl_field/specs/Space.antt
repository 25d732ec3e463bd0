-- Whether pointers own their names, which are lost, which block of a segment can be erased next, and where a pointer's page is.
-- Each is a matter of the numbers and the records of readable pages, whether an image has them or a scan lists them.
use Rattle.std.specs.Prelude.{ℕ, ◌/◌, ◌==◌, nat_lt, Bool, true, not, ◌&&◌, ◌||◌, if◌then◌else◌, List, find, Option, Some, None, option_map}
use Rattle.std.specs.List.{list_all, list_any, range_with_len}
use Rattle.nl_field.specs.Page.{Image}
use Rattle.nl_field.specs.SpareRecord.{stamp_of}
use Rattle.nl_field.specs.Medium.{Readable, shape_of_image, stamp_on, address_of, address_on, virtual_pages, physical_pages}
use Rattle.nl_field.specs.declared.pointer.Pointer.{Pointer}
use Rattle.nl_field.specs.declared.spare.SpareRec.{SpareRec}

-- the number of a readable page, and its record
pub record PageView (X : Type 0) : Type 0 where
  pub page : X → ℕ
  pub rec : X → SpareRec

abbrev pub on_image : PageView Readable
on_image = record { page = λ r. r.page; rec = λ r. r.rec }

-- ---- pointers and their names

-- the page of that number has the stamp
abbrev pub holds_among : {X : Type 0} → PageView X → List X → ℕ → ℕ → Bool
holds_among view pages page stamp = list_any (λ r. view.page r == page && stamp_of (view.rec r) == stamp) pages

-- the page of that number is one of these
abbrev pub is_among : {X : Type 0} → PageView X → List X → ℕ → Bool
is_among view pages page = list_any (λ r. view.page r == page) pages

-- the page of that number is a readable physical page of that stamp
unfoldable pub holds_stamp : Image → ℕ → ℕ → Bool
holds_stamp image page stamp = holds_among on_image (physical_pages image) page stamp

abbrev pub is_stale_pointer : Image → Pointer → Bool
is_stale_pointer image p = not (holds_stamp image p.name p.stamp)

-- the named page has the stamp, or is no readable physical page
abbrev pub owns_name : Image → Pointer → Bool
owns_name image p = holds_stamp image p.name p.stamp || not (is_among on_image (physical_pages image) p.name)

-- ---- spare blocks

-- the least of the blocks from first on, count of them, of so many pages each, each needed page of which has a copy in another block
abbrev pub spare_among : {X : Type 0} → PageView X → ℕ → ℕ → ℕ → List X → (X → Bool) → (X → X → Bool) → Option ℕ
spare_among view size first count pages is_needed is_copy =
    find (λ block.
    list_all (λ r. not (view.page r / size == block && is_needed r)
    || list_any (λ q. not (view.page q / size == block) && is_copy q r) pages) pages)
    (range_with_len first count)

-- none of these pages has its address and a greater stamp
abbrev pub has_greatest_among : {X : Type 0} → PageView X → List X → X → Bool
has_greatest_among view pages r =
    not (list_any (λ q. address_of (view.rec q) == address_of (view.rec r) && nat_lt (stamp_of (view.rec r)) (stamp_of (view.rec q))) pages)

-- In the virtual segment the page of greatest stamp of an address is needed. A copy has its address and its stamp.
abbrev pub virtual_spare_among : {X : Type 0} → PageView X → ℕ → ℕ → List X → Option ℕ
virtual_spare_among view size count pages =
    spare_among view size 0 count pages (has_greatest_among view pages)
    (λ q r. address_of (view.rec q) == address_of (view.rec r) && stamp_of (view.rec q) == stamp_of (view.rec r))

-- In the physical segment a page of one of these stamps is needed. A copy has its stamp.
abbrev pub physical_spare_among : {X : Type 0} → PageView X → ℕ → ℕ → ℕ → List X → List ℕ → Option ℕ
physical_spare_among view size first count pages stamps =
    spare_among view size first count pages (λ r. list_any (λ s. s == stamp_of (view.rec r)) stamps)
    (λ q r. stamp_of (view.rec q) == stamp_of (view.rec r))

unfoldable pub spare_block : Image → ℕ → ℕ → List Readable → (Readable → Bool) → (Readable → Readable → Bool) → Option ℕ
spare_block image first count pages is_needed is_copy = spare_among on_image image.pages first count pages is_needed is_copy

abbrev pub has_greatest_stamp : List Readable → Readable → Bool
has_greatest_stamp pages r = has_greatest_among on_image pages r

unfoldable pub virtual_spare : Image → Option ℕ
virtual_spare image =
    let pages = virtual_pages image in
    spare_block image 0 (shape_of_image image).vblocks pages (has_greatest_stamp pages)
    (λ q r. address_on q == address_on r && stamp_on q == stamp_on r)

unfoldable pub physical_spare : Image → List ℕ → Option ℕ
physical_spare image stamps =
    let shape = shape_of_image image in
    spare_block image shape.vblocks shape.pblocks (physical_pages image) (λ r. list_any (λ s. s == stamp_on r) stamps)
    (λ q r. stamp_on q == stamp_on r)

-- ---- places

-- outside the spare block, where there is one
abbrev pub is_outside : ℕ → Option ℕ → ℕ → Bool
is_outside pages_in_block None page = true
is_outside pages_in_block (Some block) page = not (page / pages_in_block == block)

-- The place of a pointer beside this spare block, where its own name holds its stamp or not: its name where that holds the
-- stamp and is outside the block, and else the least of these pages of that stamp outside it.
abbrev pub place_among : {X : Type 0} → PageView X → ℕ → List X → Option ℕ → Bool → Pointer → Option ℕ
place_among view size pages spare holds p =
    if holds && is_outside size spare p.name then Some p.name
    else option_map (λ r. view.page r) (find (λ r. stamp_of (view.rec r) == p.stamp && is_outside size spare (view.page r)) pages)

unfoldable pub place_outside : Image → Option ℕ → Pointer → Option ℕ
place_outside image spare p = place_among on_image image.pages (physical_pages image) spare (holds_stamp image p.name p.stamp) p
