use Rattle.nl_device.proofs.Called.{least_is, least_none, least_some}
use Rattle.nl_device.proofs.moving_pages.DeviceMovingPages.least.Goals as goal

pub returns-clause-some : goal.returns-clause-some
returns-clause-some g c = least_some c.args.self.now.pending.callbacks c.args.self.now.pending.posted c.least.result c.room.ensures.table c.least.ensures.some

pub returns-clause-least : goal.returns-clause-least
returns-clause-least g c = least_is c.args.self.now.pending.callbacks c.args.self.now.pending.posted c.least.result c.room.ensures.table c.least.ensures.least

pub returns-clause-none : goal.returns-clause-none
returns-clause-none g c = least_none c.args.self.now.pending.callbacks c.args.self.now.pending.posted c.least.result c.room.ensures.table c.least.ensures.none
