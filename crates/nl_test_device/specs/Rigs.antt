-- What the tests keep: the device of the least volume, with its medium.
use Rattle.std.specs.Prelude.{◌≡◌}
use Rattle.nl_device.specs.Device.{IsDevice}
use Rattle.nl_device.specs.declared.device.Device.{Device}
use Rattle.nl_nand.specs.Memory.{contents_of, geometry_of}
use Rattle.nl_nand.specs.declared.mem_nand.MemNand.{MemNand}
use Rattle.nl_vseg.specs.Segment.{SegmentHasUnmapped}

-- the tables of a device stand for its medium
abbrev pub IsFormed : Device MemNand → Type 0
IsFormed d = IsDevice (geometry_of d.media) (Unit {0}) (contents_of d.media) d.shape d.vseg d.pseg d.pending d.kept d.next

-- a device of 103 addresses, whose virtual segment keeps a spare block
pub record HasAddressed (d : Device MemNand) : Type 0 where
  pub formed : IsFormed d
  pub addresses : d.shape.vaddrs ≡ 103
  pub spare : SegmentHasUnmapped d.vseg
