-- Pages by their numbers and their write sequence numbers.
use Rattle.std.specs.Prelude.{◌≡◌, ℕ, nat_le, ◌&&◌, ◌||◌, Bool, false, is_some, List, slice_index_or, None}
use Rattle.std.specs.Ordering.{nat_cmp, ordering_then}
use Rattle.std.specs.declared.cmp.Ordering.{Ordering}
use Rattle.std.specs.BTreeSet.{contains}
use Rattle.nl_field.specs.Medium.{first_physical, is_physical_rec}
use Rattle.nl_field.specs.ScanList.{on_list}
use Rattle.nl_field.specs.Space.{holds_among, is_among}
use Rattle.nl_field.specs.declared.seen.Seen.{Seen}
use Rattle.nl_field.specs.declared.shape.Shape.{Shape}
use Rattle.nl_recover_pointers.specs.Numbers.{is_it}
use Rattle.nl_recover_pointers.specs.declared.places.Places.{Places}

-- a number with a write sequence number, in one order
abbrev pub PlaceKey : Type 0
PlaceKey = ℕ × ℕ

abbrev pub pair_cmp : PlaceKey → PlaceKey → Ordering
pair_cmp x y = ordering_then (nat_cmp x.0 y.0) (nat_cmp x.1 y.1)

abbrev pub place_key : ℕ → ℕ → PlaceKey
place_key number stamp = (number, stamp)

-- a page of the physical segment
abbrev pub is_file : Shape → Seen → Bool
is_file shape s = nat_le (first_physical shape) s.page && is_physical_rec s.rec

-- a page of this number
abbrev pub has_place : Places → ℕ → Bool
has_place places page = is_some (slice_index_or places.kept.items page None) || contains nat_cmp places.pages page

-- a page of this number with this write sequence number
abbrev pub is_at : Places → ℕ → ℕ → Bool
is_at places page stamp =
    is_it stamp (slice_index_or places.kept.items page None) || contains pair_cmp places.stamped (place_key page stamp)

-- no pages
pub record HasNoPlace (places : Places) : Type 0 where
  pub no_page : (page : ℕ) → has_place places page ≡ false
  pub no_stamp : (page stamp : ℕ) → is_at places page stamp ≡ false

-- exactly these pages
pub record KnowsPlaces (pages : List Seen) (places : Places) : Type 0 where
  pub pages_are : (page : ℕ) → has_place places page ≡ is_among on_list pages page
  pub stamped_are : (page stamp : ℕ) → is_at places page stamp ≡ holds_among on_list pages page stamp
