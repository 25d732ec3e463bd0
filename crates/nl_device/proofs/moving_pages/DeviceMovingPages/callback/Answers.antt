use Rattle.nl_device.proofs.Called.{called_none, called_some}
use Rattle.nl_device.proofs.moving_pages.DeviceMovingPages.callback.Goals as goal

pub returns-clause-some : goal.returns-clause-some
returns-clause-some g c = called_some c.args.self.now.pending.callbacks c.args.number c.get.result c.get.ensures.some c.get.ensures.number

pub returns-clause-none : goal.returns-clause-none
returns-clause-none g c = called_none c.args.self.now.pending.callbacks c.args.number c.get.result c.get.ensures.none
