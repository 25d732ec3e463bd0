-- The readable pages of a segment are the pages of the image whose spare bytes spell a record of the segment's kind.
use Rattle.std.specs.Prelude.{◌≡◌, ◌↔◌, ◌<◌, ◌≤◌, Some, IsTrue}
use Rattle.nl_field.specs.Page.{PageBytes, Image, written, page_at}
use Rattle.nl_field.specs.SpareRecord.{spare_rec_of}
use Rattle.nl_field.specs.Medium.{Readable, shape_of_image, first_physical, is_virtual_rec, is_physical_rec, virtual_pages, physical_pages}
use Rattle.nl_field.specs.Members.{Has}

-- the page of that number is written, with this record and these main bytes
pub record WrittenAt (image : Image) (r : Readable) : Type 0 where
  pub bytes : PageBytes
  pub at : page_at image r.page ≡ written bytes
  pub spelled : spare_rec_of bytes.spare ≡ Some r.rec
  pub main : bytes.main ≡ r.main

pub record PagesAreReadable : Type 0 where
  pub virtual : (image : Image) (r : Readable)
      → Has (virtual_pages image) r ↔ (WrittenAt image r × (r.page < first_physical (shape_of_image image))
      × IsTrue (is_virtual_rec (shape_of_image image) r.rec))
  pub physical : (image : Image) (r : Readable)
      → Has (physical_pages image) r ↔ (WrittenAt image r × (first_physical (shape_of_image image) ≤ r.page)
      × IsTrue (is_physical_rec r.rec))
