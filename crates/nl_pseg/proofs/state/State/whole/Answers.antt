use Rattle.nl_pseg.proofs.Holds.{holds_whole}
use Rattle.nl_pseg.specs.Kept.{kept}
use Rattle.nl_pseg.proofs.state.State.whole.Goals as goal

pub returns-clause-whole : goal.returns-clause-whole
returns-clause-whole c = holds_whole (kept c.args.self.now) c.requires.formed c.requires.tied c.count.ensures.table c.requires.few
