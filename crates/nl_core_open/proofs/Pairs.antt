-- The pointers whose places are not their names, as a device finds them in the list of an image, are those of the image.
use Rattle.std.proofs.Common.{◌≡◌, ℕ, ◌+◌, ◌==◌, ◌∙◌, not, Bool, cond, List, [], ◌∷◌, length, map, Option, unwrap_or, refl, sym, ap, subst}
use Rattle.std.specs.Prelude.{count_by, filter}
use Rattle.std.proofs.lemmas.List.Folds.{fold-map}
use Rattle.std.proofs.lemmas.List.Sums.{length-filter}
use Rattle.nl_field.specs.Medium.{shape_of_image}
use Rattle.nl_field.specs.Page.{Image}
use Rattle.nl_field.specs.ScanList.{physical_spare_seen, place_seen, seen_in}
use Rattle.nl_field.specs.Space.{physical_spare, place_outside}
use Rattle.nl_field.specs.declared.pointer.Pointer.{Pointer}
use Rattle.nl_field.specs.declared.seen.Seen.{Seen}
use Rattle.nl_field.specs.declared.shape.Shape.{Shape}
use Rattle.nl_field.proofs.ScanLists.{lists_tell}
use Rattle.nl_device.specs.Kept.{KeptPages, kept_of_scan, place_among, spare_among}
use Rattle.nl_device.specs.Retain.{moved_among, placed_at, spare_for}
use Rattle.nl_device.specs.Retain as device
use Rattle.nl_device.proofs.Found as found
use Rattle.nl_meta.specs.Nodes.{Held, committed_pointers}
use Rattle.nl_core_open.specs.Figures.{is_moved, pairs_of}

stamps_of : (hs : List Held) → map (λ (p : Pointer). p.stamp) (map (λ (h : Held). h.pointer) hs) ≡ map (λ (h : Held). h.pointer.stamp) hs
stamps_of [] = refl
stamps_of (h ∷ hs) = ap (λ (ns : List ℕ). h.pointer.stamp ∷ ns) (stamps_of hs)

counted : (test : Pointer → Bool) (hs : List Held) → count_by test (map (λ (h : Held). h.pointer) hs) ≡ count_by (λ h. test h.pointer) hs
counted test hs = fold-map (λ (n : ℕ) (p : Pointer). n + cond (test p) 1 0) (λ (h : Held). h.pointer) 0 hs

module _ (image : Image) where
  abbrev kept : KeptPages
  kept = kept_of_scan (shape_of_image image) (seen_in image)

  abbrev pointers : List Pointer
  pointers = map (λ (h : Held). h.pointer) (committed_pointers image)

  spare_is : spare_for kept pointers ≡ physical_spare image (map (λ (h : Held). h.pointer.stamp) (committed_pointers image))
  spare_is =
      found.spare_is (shape_of_image image) (seen_in image) (map (λ (p : Pointer). p.stamp) pointers)
      ∙ (lists_tell image).physical_spare (map (λ (p : Pointer). p.stamp) pointers)
      ∙ ap (physical_spare image) (stamps_of (committed_pointers image))

  place_is : (spare : Option ℕ) (p : Pointer) → place_among kept spare p ≡ place_outside image spare p
  place_is spare p = found.place_is (shape_of_image image) (seen_in image) spare p ∙ (lists_tell image).place spare p

  moved_is : (p : Pointer) → device.is_moved kept (spare_for kept pointers) p ≡ is_moved image p
  unfolding placed_at
  moved_is p =
      ap (λ (o : Option ℕ). not (unwrap_or (place_among kept o p) p.name == p.name)) spare_is
      ∙ ap (λ (o : Option ℕ). not (unwrap_or o p.name == p.name)) (place_is (physical_spare image (map (λ (h : Held). h.pointer.stamp) (committed_pointers image))) p)

  pub pairs_are : length (moved_among kept pointers) ≡ pairs_of image
  unfolding pairs_of
  pairs_are =
      length-filter (device.is_moved kept (spare_for kept pointers)) pointers
      ∙ counted (device.is_moved kept (spare_for kept pointers)) (committed_pointers image)
      ∙ (λ i. count_by (λ h. moved_is h.pointer i) (committed_pointers image))
