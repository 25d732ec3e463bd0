-- What the tests keep: the page-mapped device of the least volume, with its medium.
use Rattle.std.specs.Prelude.{◌≡◌}
use Rattle.nl_nand.specs.Memory.{contents_of, geometry_of}
use Rattle.nl_nand.specs.declared.mem_nand.MemNand.{MemNand}
use Rattle.nl_pagemap.specs.Mapped.{seen}
use Rattle.nl_pagemap.specs.Stands.{IsMapped}
use Rattle.nl_pagemap.specs.declared.pagemap.Pagemap.{Pagemap}
use Rattle.nl_vseg.specs.Segment.{SegmentHasUnmapped}

-- the tables of the device stand for its medium
abbrev pub IsFormed : Pagemap MemNand → Type 0
IsFormed d = IsMapped (Unit {0}) (geometry_of d.media) (seen contents_of d)

-- a device of 103 addresses, whose virtual segment keeps a spare block
pub record HasAddressed (d : Pagemap MemNand) : Type 0 where
  pub formed : IsFormed d
  pub addresses : d.shape.vaddrs ≡ 103
  pub spare : SegmentHasUnmapped d.vseg
