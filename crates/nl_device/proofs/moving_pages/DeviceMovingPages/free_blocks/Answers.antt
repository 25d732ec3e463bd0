use Rattle.std.proofs.Common.{sym, ◌∙◌}
use Rattle.nl_device.proofs.Spacing.{free_is}
use Rattle.nl_device.proofs.moving_pages.DeviceMovingPages.free_blocks.Goals as goal

pub returns : goal.returns
returns g c = c.free_blocks.ensures ∙ sym (free_is c.args.self.now.pseg)
