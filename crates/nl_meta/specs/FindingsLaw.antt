-- What findings tell, and where the place of a pointer is.
use Rattle.std.specs.Prelude.{◌≡◌, ◌↔◌, Bool, false, map}
use Rattle.nl_field.specs.Page.{Image}
use Rattle.nl_field.specs.Space.{physical_spare, place_outside}
use Rattle.nl_field.specs.declared.place.What.{What}
use Rattle.nl_field.specs.declared.pointer.Pointer.{Pointer}
use Rattle.nl_meta.specs.Consistent.{Consistent}
use Rattle.nl_meta.specs.Nodes.{committed_pointers}
use Rattle.nl_meta.specs.Walk.{AreFindings, place_of_pointer}

-- No bit is set exactly where the image is consistent.
abbrev pub NoFindings : Type 0
NoFindings = (image : Image) (is_set : What → Bool) → AreFindings image is_set → ((what : What) → is_set what ≡ false) ↔ Consistent image

-- The place is the one that a device takes beside the spare block for the stamps of all committed pointers.
abbrev pub PlacesAreTaken : Type 0
PlacesAreTaken =
    (image : Image) (p : Pointer)
    → place_of_pointer image p ≡ place_outside image (physical_spare image (map (λ h. h.pointer.stamp) (committed_pointers image))) p
