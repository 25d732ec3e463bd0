use Rattle.std.proofs.Common.{sym}
use Rattle.nl_meta.specs.Nodes.{inode_at}
use Rattle.nl_meta.specs.Pages.{page_of}
use Rattle.nl_recover.proofs.AddressFacts.{no-addresses, node-none, unused-addresses}
use Rattle.nl_recover.proofs.addresses.node_fault.Goals as goal

pub returns-in-Unused-clause-passes : goal.returns-in-Unused-clause-passes
returns-in-Unused-clause-passes c =
    node-none c.args.shape.now (page_of c.args.meta.now) c.args.used.now.items _
    (unused-addresses c.args.shape.now (page_of c.args.meta.now) c.args.ino (inode_at (page_of c.args.meta.now) c.args.ino) c.in-Some.rec c.in-Some.ensures c.in-Unused.is)

pub returns-in-None-clause-passes : goal.returns-in-None-clause-passes
returns-in-None-clause-passes c =
    node-none c.args.shape.now (page_of c.args.meta.now) c.args.used.now.items _
    (no-addresses c.args.shape.now (page_of c.args.meta.now) c.args.ino (inode_at (page_of c.args.meta.now) c.args.ino) (sym c.in-None.ensures))
