use Rattle.std.proofs.Common.{ap, filter_map, sym}
use Rattle.nl_meta.specs.Nodes.{inode_at}
use Rattle.nl_meta.specs.Pages.{page_of}
use Rattle.nl_recover.specs.Reaching.{reached_by, target_of}
use Rattle.nl_recover.proofs.EntryFacts.{file-places, no-places, unused-places}
use Rattle.nl_recover.proofs.LookFacts.{spelled}
use Rattle.nl_recover.proofs.ReachFacts.{nothing-named}
use Rattle.nl_recover.proofs.reach.visit.Goals as goal

pub visit_places-requires-clause-spelled : goal.visit_places-requires-clause-spelled
visit_places-requires-clause-spelled c = spelled (page_of c.args.meta.now) c.args.dir c.in-Some.rec c.in-Some.ensures

pub returns-in-File-clause-visited : goal.returns-in-File-clause-visited
returns-in-File-clause-visited c =
    nothing-named c.args.shape.now (page_of c.args.meta.now) (reached_by c.args.marks.now.items c.args.queue.now.items) _
    (ap (filter_map target_of) (file-places c.args.shape.now (page_of c.args.meta.now) c.args.dir (inode_at (page_of c.args.meta.now) c.args.dir) c.in-Some.rec c.in-Some.ensures c.in-File.is))

pub returns-in-Unused-clause-visited : goal.returns-in-Unused-clause-visited
returns-in-Unused-clause-visited c =
    nothing-named c.args.shape.now (page_of c.args.meta.now) (reached_by c.args.marks.now.items c.args.queue.now.items) _
    (ap (filter_map target_of) (unused-places c.args.shape.now (page_of c.args.meta.now) c.args.dir (inode_at (page_of c.args.meta.now) c.args.dir) c.in-Some.rec c.in-Some.ensures c.in-Unused.is))

pub returns-in-None-clause-visited : goal.returns-in-None-clause-visited
returns-in-None-clause-visited c =
    nothing-named c.args.shape.now (page_of c.args.meta.now) (reached_by c.args.marks.now.items c.args.queue.now.items) _
    (ap (filter_map target_of) (no-places c.args.shape.now (page_of c.args.meta.now) c.args.dir (inode_at (page_of c.args.meta.now) c.args.dir) (sym c.in-None.ensures)))
