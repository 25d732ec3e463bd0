-- No finding exactly where the image is consistent, and places as a device takes them.
use Rattle.std.proofs.Common.{◌≡◌, Bool, true, false, ℕ, Option, Some, None, refl, sym, ap, ◌∙◌, map, is_some}
use Rattle.nl_field.specs.Page.{Image}
use Rattle.nl_field.specs.Medium.{shape_of_image}
use Rattle.nl_field.specs.ScanList.{seen_in, place_seen}
use Rattle.nl_field.specs.declared.place.Place.{Place}
use Rattle.nl_field.specs.declared.place.What.{What}
use Rattle.nl_field.specs.declared.place.What.TheVariants.{Super, Stamp, Inode, Pages as PagesPhase, Entry, Pointer as PointerPhase, Names, Charges, Crowded}
use Rattle.nl_field.proofs.ScanLists.{physical_spare_is, place_is}
use Rattle.nl_meta.specs.FindingsLaw.{NoFindings, PlacesAreTaken}
use Rattle.nl_meta.specs.Nodes.{committed_pointers}
use Rattle.nl_meta.specs.Committed.{committed_of}
use Rattle.nl_meta.specs.Walk.{AreFindings, all_phases, fault_in, phase_fault, place_over, place_of_pointer, walk, walk_over}
use Rattle.nl_meta.proofs.Lists.{true_false}
use Rattle.nl_meta.proofs.WalkProofs.{NoFaults, no_faults, walk_is_consistency}

module _ (image : Image) where
  -- a consistent image has no fault in any phase
  faultless : walk image ≡ None → (what : What) → phase_fault image what ≡ None
  unfolding walk walk_over phase_fault
  faultless e what = by what (no_faults (fault_in (shape_of_image image) (committed_of image) (seen_in image)) all_phases e)
    where
      by : (what : What) → NoFaults (phase_fault image) all_phases → phase_fault image what ≡ None
      by Super h = h.0
      by Stamp h = h.1.0
      by Inode h = h.1.1.0
      by PagesPhase h = h.1.1.1.0
      by Entry h = h.1.1.1.1.0
      by PointerPhase h = h.1.1.1.1.1.0
      by Names h = h.1.1.1.1.1.1.0
      by Charges h = h.1.1.1.1.1.1.1.0
      by Crowded h = h.1.1.1.1.1.1.1.1.0

  module _ (is_set : What → Bool) (are : AreFindings image is_set) where
    found : ((what : What) → is_set what ≡ false) → (o : Option Place) → walk image ≡ o → walk image ≡ None
    found none None e = e
    found none (Some place) e = absurd (true_false (sym (are.first_set place e) ∙ none place.what))

    not_set : walk image ≡ None → (what : What) (b : Bool) → is_set what ≡ b → is_set what ≡ false
    not_set e what false s = s
    not_set e what true s = absurd (true_false (sym (are.only_faults what s) ∙ ap is_some (faultless e what)))

pub no_findings : NoFindings
no_findings image is_set are = (
  (λ none. (walk_is_consistency image).0 (found image is_set are none (walk image) refl)),
  (λ c what. not_set image is_set are ((walk_is_consistency image).1 c) what (is_set what) refl),
)

pub places_are_taken : PlacesAreTaken
unfolding place_of_pointer place_over
places_are_taken image p =
    ap (λ (spare : Option ℕ). place_seen (shape_of_image image) (seen_in image) spare p) (physical_spare_is image (map (λ h. h.pointer.stamp) (committed_pointers image)))
    ∙ place_is image _ p
