-- An image of both segments stores what the device shows.
use Rattle.std.proofs.Common.{◌≡◌, ℕ, ◌+◌, ◌*◌, ◌<◌, ◌≤◌, ◌∙◌, nat_lt, List, [], Some, sym, ap, subst}
use Rattle.std.proofs.lemmas.Bool.{cond-false, le-ltb}
use Rattle.nl_field.specs.Page.{Image, page_at}
use Rattle.nl_field.specs.declared.shape.Shape.{Shape}
use Rattle.nl_nand.specs.Nand.{ImageOf}
use Rattle.nl_nand.specs.declared.geometry.Geometry.{Geometry}
use Rattle.nl_iface.specs.Left.{HoldsLive}
use Rattle.nl_iface.specs.Stored.{NamedPage, stored_in}
use Rattle.nl_pseg.specs.Pages.{main_of}
use Rattle.nl_pseg.specs.Segment.{CanSpareBlock, IsPhysicalOf, Physical, held_at}
use Rattle.nl_vseg.specs.Pages.{PageShows}
use Rattle.nl_vseg.specs.Places.{map_of}
use Rattle.nl_vseg.specs.Segment.{IsSegmentOf, Segment}
use Rattle.nl_device.specs.Device.{HasLive, HasSegments, HasSpareBlock, IsOnMedium}
use Rattle.nl_device.specs.State.{held_of}
use Rattle.nl_device.specs.Shown.{IsStray, bytes_at, names_of}
use Rattle.nl_device.proofs.Forms.{begins, beyond_in, named_from, shape_is, stores_map}
use Rattle.nl_device.proofs.Leaving.{NamesHold, leaves_pages}
use Rattle.nl_device.proofs.PhysicalPages.{named_of}
use Rattle.nl_device.proofs.Writes.{each_or}

pub bytes_from : (first : ℕ) (image : Image) (p : ℕ) → first ≤ p → bytes_at first image p ≡ main_of (page_at image p)
bytes_from first image p from = cond-false (nat_lt p first) [] (main_of (page_at image p)) (le-ltb p first from)

-- the place of each live page holds it
pub live_held : {geometry : Geometry} {shape : Shape} {vseg : Segment} {pseg : Physical} {image : Image} → HasSegments geometry shape vseg pseg → ImageOf geometry image → HasLive pseg → IsPhysicalOf image pseg
    → HoldsLive (names_of pseg).live (λ p. bytes_at (shape.vblocks * shape.pages) image p) (stored_in image)
live_held {geometry} {shape} {vseg} {pseg} {image} segments fit live is p page has =
    let h = held_of (held_at pseg p) page has in
    let from : shape.vblocks * shape.pages ≤ p = subst (λ n. n ≤ p) (begins segments) (live.in_segment p h.0 h.1).0 in
    named_from shape image (shape_is segments fit) p from ∙ (ap named_of (is.holds p h.0 h.1)
    ∙ (λ i. Some (record { tag = h.3 i; stamp = h.2 i; bytes = sym (bytes_from (shape.vblocks * shape.pages) image p from) i })))

pub made_medium : {geometry : Geometry} {shape : Shape} {vseg : Segment} {pseg : Physical} {image : Image} {next : ℕ} → HasSegments geometry shape vseg pseg → ImageOf geometry image → HasLive pseg
    → IsSegmentOf image vseg → IsPhysicalOf image pseg
    → ((v s : ℕ) (main : List ℕ) → map_of vseg.places image v ≡ Some (s, main) → PageShows (shape.vblocks * shape.pages) image v s main)
    → ((v t : ℕ) (n : List ℕ) → PageShows (shape.vblocks * shape.pages) image v t n → t < next) → ((p : ℕ) (page : NamedPage) → (stored_in image).named p ≡ Some page → page.stamp + 1 ≤ next) → HasSpareBlock pseg → CanSpareBlock image pseg → NamesHold shape (names_of pseg) (stored_in image) → IsOnMedium shape next image vseg pseg
made_medium {geometry} {shape} {vseg} {pseg} {image} {next} segments fit live virtual_is physical_is there below named spare on names = record {
  virtual_is = virtual_is;
  physical_is = physical_is;
  there = there;
  below = below;
  shown = stores_map shape image (shape_is segments fit) (λ v. map_of vseg.places image v) (λ v x. IsStray (shape.vblocks * shape.pages) image (λ u. map_of vseg.places image u) v x)
      there (each_or (shape.vblocks * shape.pages) image (λ u. map_of vseg.places image u));
  holds = live_held segments fit live physical_is;
  beyond = beyond_in shape image (shape_is segments fit);
  pages = leaves_pages segments fit live spare on (λ p. bytes_at (shape.vblocks * shape.pages) image p) (live_held segments fit live physical_is) names;
  spare = on;
  named_below = named;
}
