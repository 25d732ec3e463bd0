-- What the tests keep: the two segments of the least volume, each with a medium.
use Rattle.std.specs.Prelude.{◌≡◌, length, IsTrue}
use Rattle.nl_field.specs.Numbers.{is_legal, shape_for}
use Rattle.nl_field.specs.Page.{Image}
use Rattle.nl_field.specs.declared.shape.Shape.{Shape}
use Rattle.nl_nand.specs.declared.geometry.Geometry.{Geometry}
use Rattle.nl_pseg.specs.Segment.{Physical, IsPhysicalOf}
use Rattle.nl_vseg.specs.Segment.{Segment, FitsSegment, IsSegmentOf, SegmentHasUnmapped}

-- the numbers of the least volume
pub record IsLeastVolume (shape : Shape) : Type 0 where
  pub legal : IsTrue (is_legal shape.blocks shape.pages)
  pub numbers : shape ≡ shape_for shape.blocks shape.pages
  pub addresses : shape.vaddrs ≡ 103
  pub first : shape.vblocks ≡ 8
  pub blocks : shape.blocks ≡ 32
  pub pages : shape.pages ≡ 32

-- a segment of 103 addresses in the first blocks
pub record HasAddresses (geometry : Geometry) (image : Image) (seg : Segment) : Type 0 where
  pub numbers : geometry ≡ record { blocks = 32; pages = 32 }
  pub addresses : length seg.places ≡ 103
  pub fits : FitsSegment geometry seg
  pub spare : SegmentHasUnmapped seg
  pub segment : IsSegmentOf image seg

-- a segment of named pages in blocks 8 to 31
pub record HasNames (geometry : Geometry) (image : Image) (seg : Physical) : Type 0 where
  pub numbers : geometry ≡ record { blocks = 32; pages = 32 }
  pub first : seg.first ≡ 8
  pub blocks : seg.blocks ≡ 32
  pub size : seg.size ≡ 32
  pub segment : IsPhysicalOf image seg
