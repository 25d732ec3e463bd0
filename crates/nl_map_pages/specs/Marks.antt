-- How each page of an image is found: erased, uncorrectable, or written, and then what an opening makes of it. A page is live where an
-- opening reads it: in the virtual segment under its address, in the physical segment for a pointer of a file. A page with the address and
-- the sequence number of a live one, or with the sequence number of a pointer, is an old copy where it is not the live one. Every other
-- written page is dead. Where the volume does not open, written pages are not judged.
use Rattle.std.specs.Prelude.{ℕ, ◌*◌, ◌==◌, nat_lt, Bool, false, ◌&&◌, if◌then◌else◌, List, map, Option, Some, None, is_none, unwrap_or}
use Rattle.std.specs.List.{list_any, range_with_len}
use Rattle.nl_field.specs.Medium.{Readable, address_on, first_physical, shape_of_image, stamp_on, virtual_pages}
use Rattle.nl_field.specs.Page.{Image, Page, erased, page_at, uncorrectable, written}
use Rattle.nl_field.specs.Space.{physical_spare, place_outside}
use Rattle.nl_field.specs.SpareRecord.{spare_rec_of, wear_of}
use Rattle.nl_field.specs.Virtual.{newest}
use Rattle.nl_field.specs.declared.pointer.Pointer.{Pointer}
use Rattle.nl_field.specs.declared.spare.SpareRec.{SpareRec}
use Rattle.nl_field.specs.declared.spare.SpareRec.TheVariants.{Virtual, Physical}
use Rattle.nl_meta.specs.Nodes.{committed_pointers}
use Rattle.nl_meta.specs.Walk.{walk}
use Rattle.nl_map_pages.specs.declared.look.Look.{Look}
use Rattle.nl_map_pages.specs.declared.look.Mark.{Mark}
use Rattle.nl_map_pages.specs.declared.look.Mark.TheVariants.{Erased, Dead, Live, OldCopy, Uncorrectable, Unjudged}

-- the volume of the image opens: the walk of an opening finds no fault
abbrev pub is_opened : Image → Bool
is_opened image = is_none (walk image)

-- ---- the virtual segment

abbrev pub is_page : ℕ → Option ℕ → Bool
is_page page None = false
is_page page (Some other) = other == page

abbrev pub is_at : ℕ → Option Readable → Bool
is_at page None = false
is_at page (Some r) = r.page == page

-- one of these pages has the address and a greater sequence number
abbrev pub is_outdated : List Readable → ℕ → ℕ → Bool
is_outdated pages address stamp = list_any (λ q. address_on q == address && nat_lt stamp (stamp_on q)) pages

-- a page with a record of this address and sequence number
unfoldable pub virtual_mark : Image → ℕ → ℕ → ℕ → Mark
virtual_mark image page address stamp =
    if is_at page (newest image address) then Live
    else if is_outdated (virtual_pages image) address stamp then Dead
    else OldCopy

-- ---- the physical segment

-- where an opening finds the page of a pointer
abbrev pub place_on : Image → Pointer → ℕ
place_on image p =
    unwrap_or (place_outside image (physical_spare image (map (λ h. h.pointer.stamp) (committed_pointers image))) p) p.name

-- a page with a record of this sequence number
unfoldable pub physical_mark : Image → ℕ → ℕ → Mark
physical_mark image page stamp =
    if list_any (λ h. place_on image h.pointer == page) (committed_pointers image) then Live
    else if list_any (λ h. h.pointer.stamp == stamp) (committed_pointers image) then OldCopy
    else Dead

-- ---- a page

-- a page with this record; one that is not of its segment is dead
abbrev pub record_mark : Image → ℕ → SpareRec → Mark
record_mark image page (Virtual address stamp wear) =
    if nat_lt page (first_physical (shape_of_image image)) && nat_lt address (shape_of_image image).vaddrs
    then virtual_mark image page address stamp else Dead
record_mark image page (Physical tag stamp wear) =
    if nat_lt page (first_physical (shape_of_image image)) then Dead else physical_mark image page stamp

abbrev pub spelled_mark : Image → ℕ → Option SpareRec → Mark
spelled_mark image page None = Dead
spelled_mark image page (Some rec) = record_mark image page rec

abbrev pub written_mark : Image → ℕ → Option SpareRec → Mark
written_mark image page rec = if is_opened image then spelled_mark image page rec else Unjudged

-- the count of erases with which a page was written, 0 where it tells none
abbrev pub spelled_wear : Option SpareRec → ℕ
spelled_wear None = 0
spelled_wear (Some rec) = wear_of rec

-- what is seen of a page that holds this
abbrev pub look_at : Image → ℕ → Page → Look
look_at image page erased = record { mark = Erased; wear = 0 }
look_at image page uncorrectable = record { mark = Uncorrectable; wear = 0 }
look_at image page (written bytes) =
    record { mark = written_mark image page (spare_rec_of bytes.spare); wear = spelled_wear (spare_rec_of bytes.spare) }

unfoldable pub look_of : Image → ℕ → Look
look_of image page = look_at image page (page_at image page)

-- what is seen of each page
abbrev pub looks_of : Image → List Look
looks_of image = map (look_of image) (range_with_len 0 (image.blocks * image.pages))
