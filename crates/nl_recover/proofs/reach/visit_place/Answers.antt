use Rattle.std.proofs.Common.{sym}
use Rattle.nl_meta.specs.Pages.{page_of}
use Rattle.nl_recover.specs.Reaching.{reached_by}
use Rattle.nl_recover.proofs.ReachFacts.{nothing-named, one-named}
use Rattle.nl_recover.proofs.reach.visit_place.Goals as goal

pub returns-in_ok-mark-in-Some-clause-visited : goal.returns-in_ok-mark-in-Some-clause-visited
returns-in_ok-mark-in-Some-clause-visited c =
    one-named c.args.shape.now (page_of c.args.meta.now) (reached_by c.args.marks.now.items c.args.queue.now.items) _ c.in-Some.ino _ c.in-Some.ensures c.in_ok-mark-in-Some.ensures.marked

pub returns-in-None-clause-visited : goal.returns-in-None-clause-visited
returns-in-None-clause-visited c = nothing-named c.args.shape.now (page_of c.args.meta.now) (reached_by c.args.marks.now.items c.args.queue.now.items) _ (sym c.in-None.ensures)
