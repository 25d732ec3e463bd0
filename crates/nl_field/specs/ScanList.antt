-- The readable pages of a medium as a scan lists them, and what is known from such a list alone.
use Rattle.std.specs.Prelude.{◌≡◌, ℕ, nat_le, nat_lt, Bool, not, ◌&&◌, ◌||◌, List, map, filter, Option}
use Rattle.nl_field.specs.Page.{Image}
use Rattle.nl_field.specs.Medium.{Readable, shape_of_image, first_physical, is_virtual_rec, is_physical_rec, readable_pages, virtual_pages, physical_pages}
use Rattle.nl_field.specs.Scan.{agrees_among, agrees_below, zeros_from}
use Rattle.nl_field.specs.Space.{PageView, holds_among, is_among, is_stale_pointer, owns_name, virtual_spare_among, virtual_spare, physical_spare_among, physical_spare, place_among, place_outside}
use Rattle.nl_field.specs.declared.pointer.Pointer.{Pointer}
use Rattle.nl_field.specs.declared.seen.Seen.{Seen}
use Rattle.nl_field.specs.declared.shape.Shape.{Shape}

-- what a scan tells of a readable page of an image
abbrev pub seen_of : Image → Readable → Seen
seen_of image r = record { page = r.page; rec = r.rec; zeros = zeros_from r.main; agrees = agrees_below image r }

-- the list that a scan of an image gives: `seen_of` of each readable page
unfoldable pub seen_in : Image → List Seen
seen_in image =
    let virtuals = virtual_pages image in
    let physicals = physical_pages image in
    map (λ r. record {
      page = r.page;
      rec = r.rec;
      zeros = zeros_from r.main;
      agrees = agrees_among virtuals physicals r;
    }) (readable_pages image)

abbrev pub on_list : PageView Seen
on_list = record { page = λ s. s.page; rec = λ s. s.rec }

-- a page of the virtual segment with a record of an address of the volume
unfoldable pub virtual_seen : Shape → List Seen → List Seen
virtual_seen shape seen = filter (λ s. nat_lt s.page (first_physical shape) && is_virtual_rec shape s.rec) seen

-- a page of the physical segment with a record of a file's page
unfoldable pub physical_seen : Shape → List Seen → List Seen
physical_seen shape seen = filter (λ s. nat_le (first_physical shape) s.page && is_physical_rec s.rec) seen

-- the page of that number is a physical page of that stamp
unfoldable pub holds_seen : Shape → List Seen → ℕ → ℕ → Bool
holds_seen shape seen page stamp = holds_among on_list (physical_seen shape seen) page stamp

abbrev pub is_lost_seen : Shape → List Seen → Pointer → Bool
is_lost_seen shape seen p = not (holds_seen shape seen p.name p.stamp)

-- the named page has the stamp, or is no physical page
unfoldable pub owns_seen : Shape → List Seen → Pointer → Bool
owns_seen shape seen p = holds_seen shape seen p.name p.stamp || not (is_among on_list (physical_seen shape seen) p.name)

-- the spare block of the virtual segment
unfoldable pub virtual_spare_seen : Shape → List Seen → Option ℕ
virtual_spare_seen shape seen = virtual_spare_among on_list shape.pages shape.vblocks (virtual_seen shape seen)

-- the spare block of the physical segment, where pages of these stamps are needed
unfoldable pub physical_spare_seen : Shape → List Seen → List ℕ → Option ℕ
physical_spare_seen shape seen stamps =
    physical_spare_among on_list shape.pages shape.vblocks shape.pblocks (physical_seen shape seen) stamps

-- the place of a pointer beside this spare block
unfoldable pub place_seen : Shape → List Seen → Option ℕ → Pointer → Option ℕ
place_seen shape seen spare p = place_among on_list shape.pages (physical_seen shape seen) spare (holds_seen shape seen p.name p.stamp) p

-- The list of an image tells what the image has.
pub record ListIsOfImage (image : Image) : Type 0 where
  pub each : seen_in image ≡ map (seen_of image) (readable_pages image)
  pub virtual : virtual_seen (shape_of_image image) (seen_in image) ≡ map (seen_of image) (virtual_pages image)
  pub physical : physical_seen (shape_of_image image) (seen_in image) ≡ map (seen_of image) (physical_pages image)
  pub lost : (p : Pointer) → is_lost_seen (shape_of_image image) (seen_in image) p ≡ is_stale_pointer image p
  pub owns : (p : Pointer) → owns_seen (shape_of_image image) (seen_in image) p ≡ owns_name image p
  pub virtual_spare : virtual_spare_seen (shape_of_image image) (seen_in image) ≡ virtual_spare image
  pub physical_spare : (stamps : List ℕ) → physical_spare_seen (shape_of_image image) (seen_in image) stamps ≡ physical_spare image stamps
  pub place : (spare : Option ℕ) (p : Pointer) → place_seen (shape_of_image image) (seen_in image) spare p ≡ place_outside image spare p

abbrev pub ListsAreOfImages : Type 0
ListsAreOfImages = (image : Image) → ListIsOfImage image
