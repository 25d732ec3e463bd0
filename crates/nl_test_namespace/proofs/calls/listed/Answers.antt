use Rattle.nl_test_namespace.proofs.Opened.{open-on, used-then}
use Rattle.nl_test_namespace.proofs.calls.listed.Goals as goal

pub listed_at-requires-clause-volume : goal.listed_at-requires-clause-volume
listed_at-requires-clause-volume g c = open-on g.D.Counts c.args.device.now c.args.meta.now c.look.new.device c.look.new.meta c.args.nodes.now c.args.nodes.now (g.met.D.VirtualPages.numbers c.args.device.now c.requires.formed) c.requires.volume c.look.ensures.kept

pub listed_at-requires-clause-used : goal.listed_at-requires-clause-used
listed_at-requires-clause-used g c = used-then g.D.Counts c.args.device.now c.args.meta.now c.look.new.device c.look.new.meta c.args.nodes.now c.args.nodes.now (g.met.D.VirtualPages.numbers c.args.device.now c.requires.formed) c.requires.volume c.in-At.ino c.look.ensures.kept c.in-At.ensures.used

pub returns-in-Missing-clause-volume : goal.returns-in-Missing-clause-volume
returns-in-Missing-clause-volume g c = open-on g.D.Counts c.args.device.now c.args.meta.now c.look.new.device c.look.new.meta c.args.nodes.now c.args.nodes.now (g.met.D.VirtualPages.numbers c.args.device.now c.requires.formed) c.requires.volume c.look.ensures.kept

pub returns-in-No-clause-volume : goal.returns-in-No-clause-volume
returns-in-No-clause-volume g c = open-on g.D.Counts c.args.device.now c.args.meta.now c.look.new.device c.look.new.meta c.args.nodes.now c.args.nodes.now (g.met.D.VirtualPages.numbers c.args.device.now c.requires.formed) c.requires.volume c.look.ensures.kept

pub returns-in-Fault-clause-volume : goal.returns-in-Fault-clause-volume
returns-in-Fault-clause-volume g c = open-on g.D.Counts c.args.device.now c.args.meta.now c.look.new.device c.look.new.meta c.args.nodes.now c.args.nodes.now (g.met.D.VirtualPages.numbers c.args.device.now c.requires.formed) c.requires.volume c.look.ensures.kept

pub returns-in-Lost-clause-volume : goal.returns-in-Lost-clause-volume
returns-in-Lost-clause-volume g c = open-on g.D.Counts c.args.device.now c.args.meta.now c.look.new.device c.look.new.meta c.args.nodes.now c.args.nodes.now (g.met.D.VirtualPages.numbers c.args.device.now c.requires.formed) c.requires.volume c.look.ensures.kept
