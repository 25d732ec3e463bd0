-- What holds of the tables of a device, and of a medium that tells its contents.
use Rattle.std.specs.Prelude.{◌≡◌, ◌⊎◌, ℕ, ◌+◌, ◌-◌, ◌*◌, ◌<◌, ◌≤◌, List, [], length, true, None, Some, IsTrue, All}
use Rattle.nl_field.specs.Numbers.{is_legal, shape_for}
use Rattle.nl_field.specs.Page.{Image}
use Rattle.nl_field.specs.declared.shape.Shape.{Shape}
use Rattle.nl_iface.specs.Device.{IsVolumeShape}
use Rattle.nl_iface.specs.Left.{HoldsLive, LeavesPages}
use Rattle.nl_iface.specs.Names.{IsNames}
use Rattle.nl_iface.specs.Stored.{NamedPage, NothingStoredBeyond, ShowsMap as StoresMap, Stored, stored_in}
use Rattle.nl_device.specs.Callbacks.{AreCalled}
use Rattle.nl_device.specs.Kept.{KeptPages}
use Rattle.nl_device.specs.Shown.{IsStray, bytes_at, found_in, names_of}
use Rattle.nl_nand.specs.declared.geometry.Geometry.{Geometry}
use Rattle.nl_pseg.specs.Segment.{CanSpareBlock, InSegment, IsPhysicalOf, KeepsBlock, Physical, TakenAsErased, held_at}
use Rattle.nl_pseg.specs.Space.{IsWhole}
use Rattle.nl_pseg.specs.declared.held.Held.{Held}
use Rattle.nl_vseg.specs.Pages.{PageShows}
use Rattle.nl_vseg.specs.Places.{AreBelow, map_of, stamp_for}
use Rattle.nl_vseg.specs.Segment.{IsSegmentOf, Segment, is_taken_as_erased}
use Rattle.nl_callbacks.specs.Pending.{PendingTable}

-- The numbers of the volume are those of the medium, and the two segments are its first and its last blocks.
pub record HasSegments (geometry : Geometry) (shape : Shape) (vseg : Segment) (pseg : Physical) : Type 0 where
  pub legal : IsTrue (is_legal geometry.blocks geometry.pages)
  pub numbers : shape ≡ shape_for geometry.blocks geometry.pages
  pub blocks : geometry.blocks ≡ shape.blocks
  pub pages : geometry.pages ≡ shape.pages
  pub some : 0 < shape.pages
  pub split : shape.vblocks + shape.pblocks ≡ shape.blocks
  pub rest : shape.blocks - shape.vblocks ≡ shape.pblocks
  pub virtual_pages : vseg.pages ≡ shape.pages
  pub virtual_bound : vseg.bound ≡ shape.vblocks * shape.pages
  pub addresses : length vseg.places ≡ shape.vaddrs
  pub physical_first : pseg.first ≡ shape.vblocks
  pub physical_blocks : pseg.blocks ≡ shape.blocks
  pub physical_pages : pseg.size ≡ shape.pages
  pub physical_held : length pseg.held ≡ shape.blocks * shape.pages

-- Pages of the map, and pages that are taken as erased, lie in the segment.
pub record HasMapped (vseg : Segment) : Type 0 where
  pub places_in : AreBelow vseg.bound vseg.places
  pub blank_in : (p : ℕ) → is_taken_as_erased vseg p ≡ true → p < vseg.bound

-- Live pages, and pages that are taken as erased, lie in the segment, and no two live pages share a stamp.
pub record HasLive (pseg : Physical) : Type 0 where
  pub in_segment : (p : ℕ) (h : Held) → held_at pseg p ≡ Some h → InSegment pseg p
  pub blank_in : (p : ℕ) → TakenAsErased pseg p → InSegment pseg p
  pub differ : (p q : ℕ) (g h : Held) → held_at pseg p ≡ Some g → held_at pseg q ≡ Some h → g.stamp ≡ h.stamp → p ≡ q

-- Some block of the segment can be done without: it is kept for the cleaner, or it is the victim, which is a block of the segment.
pub record HasSpareBlock (pseg : Physical) : Type 0 where
  pub whole : IsWhole pseg
  pub block : KeepsBlock pseg
  pub in_hand : (victim : ℕ) → pseg.victim ≡ Some victim → (pseg.first ≤ victim) × (victim < pseg.blocks)

-- Every stamp is below the next one.
pub record IsNextStamp (next : ℕ) (vseg : Segment) (pseg : Physical) : Type 0 where
  pub some : 1 ≤ next
  pub addresses : (v t : ℕ) → stamp_for vseg.places v ≡ Some t → t < next
  pub live : (p : ℕ) (h : Held) → held_at pseg p ≡ Some h → h.stamp < next

-- The image is one of both segments. It shows each value of the map, and no stamp of an address from the next one on. So it stores
-- the map's value of each address, or a stray one, and each live page, which a stop is to leave: some block can be done without. No
-- page under a name has the next stamp or a later one.
pub record IsOnMedium (shape : Shape) (next : ℕ) (image : Image) (vseg : Segment) (pseg : Physical) : Type 0 where
  pub virtual_is : IsSegmentOf image vseg
  pub physical_is : IsPhysicalOf image pseg
  pub there : (v s : ℕ) (main : List ℕ) → map_of vseg.places image v ≡ Some (s, main) → PageShows (shape.vblocks * shape.pages) image v s main
  pub below : (v t : ℕ) (n : List ℕ) → PageShows (shape.vblocks * shape.pages) image v t n → t < next
  pub shown : StoresMap shape.vaddrs (λ v. map_of vseg.places image v)
      (λ v x. IsStray (shape.vblocks * shape.pages) image (λ u. map_of vseg.places image u) v x) (stored_in image)
  pub holds : HoldsLive (names_of pseg).live (λ p. bytes_at (shape.vblocks * shape.pages) image p) (stored_in image)
  pub beyond : NothingStoredBeyond shape.vaddrs (stored_in image)
  pub pages : LeavesPages shape (names_of pseg) (λ p. bytes_at (shape.vblocks * shape.pages) image p) (stored_in image)
  pub spare : CanSpareBlock image pseg
  pub named_below : (p : ℕ) (page : NamedPage) → (stored_in image).named p ≡ Some page → page.stamp + 1 ≤ next

-- The pages that the scan found are those of the physical segment, and their stamps are below the next one.
pub record HasFound (shape : Shape) (kept : KeptPages) (next : ℕ) : Type 0 where
  pub first : kept.first ≡ shape.vblocks
  pub count : kept.count ≡ shape.pblocks
  pub size : kept.size ≡ shape.pages
  pub below : All (λ k. k.stamp < next) kept.pages

-- What the scan found is stored. Where it was not forgotten, nothing else is stored under a name.
pub record IsFoundStored (kept : KeptPages) (bytes : ℕ → List ℕ) (c : Stored) : Type 0 where
  pub holds : HoldsLive (found_in kept) bytes c
  pub only : (p : ℕ) → found_in kept p ≡ None → (kept.pages ≡ []) ⊎ (c.named p ≡ None)

-- The tables stand for the medium, and for the names that are shown. What the scan found, and was not forgotten since, is stored.
pub record IsDevice (geometry : Geometry) (tells : Type 0) (image : Image) (shape : Shape) (vseg : Segment) (pseg : Physical)
    (pending : PendingTable) (kept : KeptPages) (next : ℕ) : Type 0 where
  pub segments : HasSegments geometry shape vseg pseg
  pub mapped : HasMapped vseg
  pub live : HasLive pseg
  pub spare : HasSpareBlock pseg
  pub called : AreCalled pseg pending
  pub stamp : IsNextStamp next vseg pseg
  pub found : HasFound shape kept next
  pub found_stored : tells → IsFoundStored kept (λ p. bytes_at (shape.vblocks * shape.pages) image p) (stored_in image)
  pub legal : IsVolumeShape shape
  pub unwritten : (v : ℕ) → shape.vaddrs ≤ v → stamp_for vseg.places v ≡ None
  pub names : IsNames shape next (names_of pseg)
  pub medium : tells → IsOnMedium shape next image vseg pseg
