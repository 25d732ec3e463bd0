use Rattle.std.proofs.Common.{◌∙◌, sym}
use Rattle.nl_meta.specs.Pages.{page_of}
use Rattle.nl_recover.proofs.ReachFacts.{lost-here, none-lost}
use Rattle.nl_recover.proofs.reach.first_unreached.Goals as goal

pub returns-then-is_unmarked : goal.returns-then-is_unmarked
returns-then-is_unmarked c =
    lost-here c.args.shape.now (page_of c.args.meta.now) c.args.marks.now c.requires.marks c.loop-ino.ino c.loop-ino-test.true c.loop-ino.invariant (sym c.is_unmarked.ensures ∙ c.if-is_unmarked.true)

pub returns : goal.returns
returns c = none-lost c.args.shape.now (page_of c.args.meta.now) c.args.marks.now c.requires.marks c.loop-ino.ino c.loop-ino-test.false c.loop-ino.invariant
