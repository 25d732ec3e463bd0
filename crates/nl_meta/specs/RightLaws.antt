-- The committed pages of an image whose metadata is right, with the pages that it has by stamp, are right without the image.
use Rattle.std.specs.Prelude.{IsTrue}
use Rattle.nl_field.specs.Page.{Image, is_image}
use Rattle.nl_field.specs.Medium.{shape_of_image}
use Rattle.nl_meta.specs.Committed.{committed_of}
use Rattle.nl_meta.specs.Consistent.{MetadataRight, RightFor, page_on}

abbrev pub ImageIsRight : Type 0
ImageIsRight =
    (image : Image) → IsTrue (is_image image) → MetadataRight image → RightFor (shape_of_image image) (committed_of image) (page_on image)
