-- What decides how a page of an image is found.
use Rattle.std.specs.Prelude.{◌≡◌, ℕ, ◌==◌, true, false, List, Option, Some, None}
use Rattle.std.specs.BTreeSet.{BTreeSet, contains}
use Rattle.std.specs.List.{list_any}
use Rattle.std.specs.Ordering.{nat_cmp}
use Rattle.nl_field.specs.Medium.{shape_of_image}
use Rattle.nl_field.specs.Page.{Image}
use Rattle.nl_field.specs.ScanList.{on_list, seen_in, virtual_seen}
use Rattle.nl_field.specs.Space.{virtual_spare, virtual_spare_among}
use Rattle.nl_field.specs.declared.pointer.Pointer.{Pointer}
use Rattle.nl_field.specs.declared.seen.Seen.{Seen}
use Rattle.nl_field.specs.declared.shape.Shape.{Shape}
use Rattle.nl_meta.specs.Nodes.{committed_pointers}
use Rattle.nl_map_pages.specs.Marks.{is_opened, place_on}
use Rattle.nl_map_pages.specs.declared.judge.Live.{Live}

-- these are the places of the pointers
abbrev pub ArePlaces : (Pointer → ℕ) → List Pointer → BTreeSet ℕ → Type 0
ArePlaces place pointers places = (page : ℕ) → contains nat_cmp places page ≡ list_any (λ p. place p == page) pointers

-- these are their sequence numbers
abbrev pub AreStamps : List Pointer → BTreeSet ℕ → Type 0
AreStamps pointers stamps = (stamp : ℕ) → contains nat_cmp stamps stamp ≡ list_any (λ p. p.stamp == stamp) pointers

-- The pages of the virtual segment in a scan's list, the spare block of it, and these pointers with these places.
pub record IsLiveBy (shape : Shape) (seen : List Seen) (place : Pointer → ℕ) (pointers : List Pointer) (live : Live) : Type 0 where
  pub shape_is : live.shape ≡ shape
  pub virtuals : live.virtuals.items ≡ virtual_seen shape seen
  pub spare : live.spare ≡ virtual_spare_among on_list shape.pages shape.vblocks (virtual_seen shape seen)
  pub places : ArePlaces place pointers live.places
  pub stamps : AreStamps pointers live.stamps

-- What decides it on an image: its pages under addresses, the spare block of their segment, and where the pointers of files lead.
pub record IsLiveOf (image : Image) (live : Live) : Type 0 where
  pub shape_is : live.shape ≡ shape_of_image image
  pub virtuals : live.virtuals.items ≡ virtual_seen (shape_of_image image) (seen_in image)
  pub spare : live.spare ≡ virtual_spare image
  pub places : (page : ℕ) → contains nat_cmp live.places page ≡ list_any (λ h. place_on image h.pointer == page) (committed_pointers image)
  pub stamps : (stamp : ℕ) → contains nat_cmp live.stamps stamp ≡ list_any (λ h. h.pointer.stamp == stamp) (committed_pointers image)

-- The volume opened, or else which pages are read is not known.
abbrev pub IsJudge : Image → Option Live → Type 0
IsJudge image None = is_opened image ≡ false
IsJudge image (Some live) = (is_opened image ≡ true) × IsLiveOf image live
