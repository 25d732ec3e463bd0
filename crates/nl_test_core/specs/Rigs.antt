-- What the tests keep of the device of a core.
use Rattle.nl_device.specs.Device.{IsDevice}
use Rattle.nl_device.specs.declared.device.Device.{Device}
use Rattle.nl_nand.specs.Memory.{contents_of, geometry_of}
use Rattle.nl_nand.specs.declared.mem_nand.MemNand.{MemNand}

-- the tables of a device stand for its medium
abbrev pub IsFormed : Device MemNand → Type 0
IsFormed d = IsDevice (geometry_of d.media) (Unit {0}) (contents_of d.media) d.shape d.vseg d.pseg d.pending d.kept d.next
