use Rattle.std.proofs.Common.{sym, ◌∙◌}
use Rattle.nl_device.proofs.Spacing.{pairs_is}
use Rattle.nl_device.proofs.moving_pages.DeviceMovingPages.pairs.Goals as goal

pub returns : goal.returns
returns g c = c.pairs.ensures ∙ sym (pairs_is c.args.self.now.pseg)
