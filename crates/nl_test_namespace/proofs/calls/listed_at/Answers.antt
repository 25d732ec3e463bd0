use Rattle.nl_test_namespace.proofs.Opened.{directory-then, open-on}
use Rattle.nl_test_namespace.proofs.calls.listed_at.Goals as goal

pub names_of-requires-clause-volume : goal.names_of-requires-clause-volume
names_of-requires-clause-volume g c = open-on g.D.Counts c.args.device.now c.args.meta.now c.node.new.device c.node.new.meta c.args.nodes.now c.args.nodes.now (g.met.D.VirtualPages.numbers c.args.device.now c.requires.formed) c.requires.volume c.node.ensures.kept

pub names_of-requires-clause-directory : goal.names_of-requires-clause-directory
names_of-requires-clause-directory g c = directory-then g.D.Counts c.args.device.now c.args.meta.now c.node.new.device c.node.new.meta c.args.nodes.now c.args.nodes.now (g.met.D.VirtualPages.numbers c.args.device.now c.requires.formed) c.requires.volume c.args.ino c.in-Ok.rec c.node.ensures.kept c.in-Ok.ensures.node c.in-Dir.is

pub returns-in_default : goal.returns-in_default
returns-in_default g c = record {
  formed = c.node.ensures.formed;
  reads = c.node.ensures.kept.reads;
  volume = open-on g.D.Counts c.args.device.now c.args.meta.now c.node.new.device c.node.new.meta c.args.nodes.now c.args.nodes.now (g.met.D.VirtualPages.numbers c.args.device.now c.requires.formed) c.requires.volume c.node.ensures.kept;
}

pub returns-in-Err-clause-volume : goal.returns-in-Err-clause-volume
returns-in-Err-clause-volume g c = open-on g.D.Counts c.args.device.now c.args.meta.now c.node.new.device c.node.new.meta c.args.nodes.now c.args.nodes.now (g.met.D.VirtualPages.numbers c.args.device.now c.requires.formed) c.requires.volume c.node.ensures.kept
