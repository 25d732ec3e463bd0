use Rattle.nl_test_namespace.proofs.Opened.{open-on}
use Rattle.nl_test_namespace.proofs.calls.names_of.Goals as goal

pub returns-clause-volume : goal.returns-clause-volume
returns-clause-volume g c = open-on g.D.Counts c.args.device.now c.args.meta.now c.list-listing.new.device c.list-listing.new.meta c.args.nodes.now c.args.nodes.now (g.met.D.VirtualPages.numbers c.args.device.now c.requires.formed) c.requires.volume c.list-listing.ensures.kept
