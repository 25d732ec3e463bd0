-- What an opening finds over a device that was started, of the image of its medium.
use Rattle.std.specs.Prelude.{◌≡◌, ◌↔◌, ℕ, ◌<◌, [], IsTrue, Option, option_map}
use Rattle.nl_field.specs.Medium.{readable_pages, shape_of_image}
use Rattle.nl_field.specs.Numbers.{is_legal}
use Rattle.nl_field.specs.Page.{Image}
use Rattle.nl_field.specs.ScanList.{seen_in}
use Rattle.nl_field.specs.Virtual.{map_bytes, newest}
use Rattle.nl_field.specs.declared.shape.Shape.{Shape}
use Rattle.nl_iface.specs.Stored.{Value, value_on}
use Rattle.nl_meta.specs.Committed.{committed, committed_of}
use Rattle.nl_meta.specs.Walk.{walk, walk_over}
use Rattle.nl_nand.specs.Nand.{ImageOf, IsLegal}
use Rattle.nl_nand.specs.declared.geometry.Geometry.{Geometry}

-- Where a map of addresses has the newest page of each, what it commits is what the image does, and a walk over it is a walk over the
-- image.
abbrev pub WalksTheImage : Type 0
WalksTheImage =
    (image : Image) (shape : Shape) (values : ℕ → Option Value) → shape ≡ shape_of_image image
    → ((v : ℕ) → v < shape.vaddrs → values v ≡ option_map value_on (newest image v))
    → (committed shape (map_bytes shape values) ≡ committed_of image)
    × (walk_over shape (committed shape (map_bytes shape values)) (seen_in image) ≡ walk image)

-- A scan lists no page exactly where none is readable.
abbrev pub ListsReadable : Type 0
ListsReadable = (image : Image) → (seen_in image ≡ []) ↔ (readable_pages image ≡ [])

-- No page is readable on a medium that was never formed.
abbrev pub IsBlankUnformed : Type 0
IsBlankUnformed =
    (geometry : Geometry) (image : Image) → ImageOf geometry image → IsLegal geometry
    → (IsTrue (is_legal geometry.blocks geometry.pages) → ⊥) → readable_pages image ≡ []
