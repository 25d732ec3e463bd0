-- The place of each address: its page, and the write sequence number that it was written under.
use Rattle.std.specs.Prelude.{◌≡◌, ℕ, ◌<◌, List, slice_index_or, Option, Some, None, option_map}
use Rattle.nl_field.specs.Page.{Image, page_at}
use Rattle.nl_vseg.specs.Pages.{fact_of, main_of, IsBeside}
use Rattle.nl_vseg.specs.declared.place.Place.{Place}

-- the place of an address, None where it was never written
abbrev pub place_of : List (Option Place) → ℕ → Option Place
place_of places v = slice_index_or places v None

abbrev pub stamp_in_place : Option Place → Option ℕ
stamp_in_place place = option_map (λ p. p.stamp) place

-- the write sequence number of an address, None where it was never written
abbrev pub stamp_for : List (Option Place) → ℕ → Option ℕ
stamp_for places v = stamp_in_place (place_of places v)

abbrev pub value_at : Image → Option Place → Option (ℕ × List ℕ)
value_at image None = None
value_at image (Some place) = Some (place.stamp, main_of (page_at image place.page))

-- the map: the write sequence number of each address, and the main bytes that its page holds
abbrev pub map_of : List (Option Place) → Image → ℕ → Option (ℕ × List ℕ)
map_of places image v = value_at image (place_of places v)

-- no page of the map is in the block
abbrev pub IsUnmapped : ℕ → List (Option Place) → ℕ → Type 0
IsUnmapped pages places block = (v : ℕ) (place : Place) → place_of places v ≡ Some place → IsBeside pages block place.page

-- the page of each place shows the address and its number
abbrev pub PlacesShow : Image → List (Option Place) → Type 0
PlacesShow image places =
    (v : ℕ) (place : Place) → place_of places v ≡ Some place
    → fact_of (page_at image place.page) ≡ Some (v, place.stamp, main_of (page_at image place.page))

-- each page of the map is below the bound
abbrev pub AreBelow : ℕ → List (Option Place) → Type 0
AreBelow bound places = (v : ℕ) (place : Place) → place_of places v ≡ Some place → place.page < bound
