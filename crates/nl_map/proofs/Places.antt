-- Where a device finds the pointers of an image: at their places on it.
use Rattle.std.proofs.Common.{◌≡◌, ℕ, ◌∙◌, List, [], ◌∷◌, map, Option, unwrap_or, refl, ap}
use Rattle.std.specs.Prelude.{◌==◌}
use Rattle.std.specs.List.{list_any}
use Rattle.nl_field.specs.Medium.{shape_of_image}
use Rattle.nl_field.specs.Page.{Image}
use Rattle.nl_field.specs.ScanList.{seen_in}
use Rattle.nl_field.specs.Space.{physical_spare, place_outside}
use Rattle.nl_field.specs.declared.pointer.Pointer.{Pointer}
use Rattle.nl_field.proofs.ScanLists.{lists_tell}
use Rattle.nl_device.specs.Kept.{KeptPages, kept_of_scan, place_among}
use Rattle.nl_device.specs.Retain.{placed_at, retained_at, spare_for}
use Rattle.nl_device.proofs.Found as found
use Rattle.nl_iface.specs.Names.{Has}
use Rattle.nl_meta.specs.Nodes.{Held, committed_pointers}
use Rattle.nl_map_pages.specs.Marks.{place_on}
use Rattle.nl_map.proofs.Lists.{any_map, any_same}

stamps_of : (hs : List Held) → map (λ (p : Pointer). p.stamp) (map (λ (h : Held). h.pointer) hs) ≡ map (λ (h : Held). h.pointer.stamp) hs
stamps_of [] = refl
stamps_of (h ∷ hs) = ap (λ (ns : List ℕ). h.pointer.stamp ∷ ns) (stamps_of hs)

module _ (image : Image) where
  abbrev pub kept_on : KeptPages
  kept_on = kept_of_scan (shape_of_image image) (seen_in image)

  abbrev pub pointers_on : List Pointer
  pointers_on = map (λ (h : Held). h.pointer) (committed_pointers image)

  abbrev stamps_on : List ℕ
  stamps_on = map (λ (h : Held). h.pointer.stamp) (committed_pointers image)

  spare_is : spare_for kept_on pointers_on ≡ physical_spare image stamps_on
  spare_is =
      found.spare_is (shape_of_image image) (seen_in image) (map (λ (p : Pointer). p.stamp) pointers_on)
      ∙ (lists_tell image).physical_spare (map (λ (p : Pointer). p.stamp) pointers_on)
      ∙ ap (physical_spare image) (stamps_of (committed_pointers image))

  place_is : (spare : Option ℕ) (p : Pointer) → place_among kept_on spare p ≡ place_outside image spare p
  place_is spare p = found.place_is (shape_of_image image) (seen_in image) spare p ∙ (lists_tell image).place spare p

  pub placed_is : (p : Pointer) → retained_at kept_on pointers_on p ≡ place_on image p
  unfolding placed_at
  placed_is p =
      ap (λ (o : Option ℕ). unwrap_or (place_among kept_on o p) p.name) spare_is
      ∙ ap (λ (o : Option ℕ). unwrap_or o p.name) (place_is (physical_spare image stamps_on) p)

  pub places_are : (lead : Pointer → ℕ) (items : List Pointer) → items ≡ pointers_on → ((p : Pointer) → Has items p → lead p ≡ place_on image p)
      → (page : ℕ) → list_any (λ p. lead p == page) items ≡ list_any (λ h. place_on image h.pointer == page) (committed_pointers image)
  places_are lead items is leads page =
      any_same (λ p. lead p == page) (λ p. place_on image p == page) items (λ p has. ap (λ n. n == page) (leads p has))
      ∙ ap (list_any (λ p. place_on image p == page)) is
      ∙ any_map (λ (h : Held). h.pointer) (λ p. place_on image p == page) (committed_pointers image)

  pub stamps_are : (items : List Pointer) → items ≡ pointers_on → (stamp : ℕ) → list_any (λ p. p.stamp == stamp) items ≡ list_any (λ h. h.pointer.stamp == stamp) (committed_pointers image)
  stamps_are items is stamp = ap (list_any (λ p. p.stamp == stamp)) is ∙ any_map (λ (h : Held). h.pointer) (λ p. p.stamp == stamp) (committed_pointers image)
