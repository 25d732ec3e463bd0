use Rattle.nl_device.proofs.Finding.{finds_stamp}
use Rattle.nl_device.proofs.virtual_pages.DeviceVirtualPages.virtual_read.Goals as goal

pub returns-clause-found : goal.returns-clause-found
returns-clause-found g c = finds_stamp c.virtual_read.new.buf c.virtual_read.result c.virtual_read.ensures.found
