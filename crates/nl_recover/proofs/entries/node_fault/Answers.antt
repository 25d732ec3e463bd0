use Rattle.std.proofs.Common.{ap, sym}
use Rattle.nl_meta.specs.Nodes.{inode_at}
use Rattle.nl_meta.specs.Pages.{page_of}
use Rattle.nl_recover.specs.Entries.{named_by}
use Rattle.nl_recover.proofs.EntryFacts.{file-places, no-places, places-none, unused-places}
use Rattle.nl_recover.proofs.LookFacts.{spelled}
use Rattle.nl_recover.proofs.entries.node_fault.Goals as goal

pub dir_fault-requires-clause-spelled : goal.dir_fault-requires-clause-spelled
dir_fault-requires-clause-spelled c = spelled (page_of c.args.meta.now) c.args.ino c.in-Some.rec c.in-Some.ensures

pub returns-in-File-clause-passes : goal.returns-in-File-clause-passes
returns-in-File-clause-passes c =
    places-none c.args.shape.now (page_of c.args.meta.now) _ _ _ (file-places c.args.shape.now (page_of c.args.meta.now) c.args.ino (inode_at (page_of c.args.meta.now) c.args.ino) c.in-Some.rec c.in-Some.ensures c.in-File.is)
    (ap (named_by c.args.nodes.now.items) c.clear.ensures.items)

pub returns-in-Unused-clause-passes : goal.returns-in-Unused-clause-passes
returns-in-Unused-clause-passes c =
    places-none c.args.shape.now (page_of c.args.meta.now) _ _ _ (unused-places c.args.shape.now (page_of c.args.meta.now) c.args.ino (inode_at (page_of c.args.meta.now) c.args.ino) c.in-Some.rec c.in-Some.ensures c.in-Unused.is)
    (ap (named_by c.args.nodes.now.items) c.clear.ensures.items)

pub returns-in-None-clause-passes : goal.returns-in-None-clause-passes
returns-in-None-clause-passes c =
    places-none c.args.shape.now (page_of c.args.meta.now) _ _ _ (no-places c.args.shape.now (page_of c.args.meta.now) c.args.ino (inode_at (page_of c.args.meta.now) c.args.ino) (sym c.in-None.ensures))
    (ap (named_by c.args.nodes.now.items) c.clear.ensures.items)
