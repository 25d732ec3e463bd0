use Rattle.nl_workers.proofs.Epochs.{within_none}
use Rattle.nl_workers.proofs.epoch.end_of_epoch.Goals as goal

pub loop-at-init : goal.loop-at-init
loop-at-init c = within_none c.args.lines.now c.args.from c.get.result.now.round
