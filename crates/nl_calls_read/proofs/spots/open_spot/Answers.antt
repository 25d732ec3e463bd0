use Rattle.nl_calls_files.proofs.Directories.{dir-kind}
use Rattle.nl_calls_read.proofs.spots.open_spot.Goals as goal

pub returns-in-File-clause-was : goal.returns-in-File-clause-was
returns-in-File-clause-was g c = (c.in-Ok.ensures.node.before, c.in-File.is)

pub returns-in-File-clause-node : goal.returns-in-File-clause-node
returns-in-File-clause-node g c = (c.in-Ok.ensures.node.after, c.in-File.is)

pub returns-in_default-clause-was : goal.returns-in_default-clause-was
returns-in_default-clause-was g c = (c.in-Ok.ensures.node.before, dir-kind c.in-Ok.rec.kind c.in_default.not-File c.in-Ok.ensures.node.before.used)

pub returns-in_default-clause-node : goal.returns-in_default-clause-node
returns-in_default-clause-node g c = (c.in-Ok.ensures.node.after, dir-kind c.in-Ok.rec.kind c.in_default.not-File c.in-Ok.ensures.node.before.used)
