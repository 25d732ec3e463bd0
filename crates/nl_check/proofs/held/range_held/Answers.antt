use Rattle.nl_meta.specs.Pages.{page_of}
use Rattle.nl_recover.proofs.HeldFacts.{skips}
use Rattle.nl_check.proofs.held.range_held.Goals as goal

pub returns-then-rec-range-eq0-clause-held : goal.returns-then-rec-range-eq0-clause-held
returns-then-rec-range-eq0-clause-held c = skips (page_of c.args.meta.now) c.args.ino c.args.rec.now c.args.range c.args.held.now c.if-rec-range-eq0.true
