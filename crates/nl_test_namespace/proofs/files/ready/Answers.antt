use Rattle.nl_test_namespace.proofs.OneFile.{file-read, file-stands}
use Rattle.nl_test_namespace.proofs.files.ready.Goals as goal

pub prepare-requires-clause-stands : goal.prepare-requires-clause-stands
prepare-requires-clause-stands g c = file-stands g.D.Counts c.args.device.now c.args.meta.now c.args.nodes.now c.args.rec.now c.requires.file

pub returns-in-Done-clause-file : goal.returns-in-Done-clause-file
returns-in-Done-clause-file g c = file-read g.D.Counts c.args.device.now c.args.meta.now c.args.nodes.now c.args.rec.now c.requires.file c.prepare.new.device c.prepare.new.meta c.prepare.ensures.kept c.prepare.ensures.pages c.prepare.ensures.only

pub returns-in-Fault-clause-file : goal.returns-in-Fault-clause-file
returns-in-Fault-clause-file g c = file-read g.D.Counts c.args.device.now c.args.meta.now c.args.nodes.now c.args.rec.now c.requires.file c.prepare.new.device c.prepare.new.meta c.prepare.ensures.kept c.prepare.ensures.pages c.prepare.ensures.only

pub returns-in-Lost-clause-file : goal.returns-in-Lost-clause-file
returns-in-Lost-clause-file g c = file-read g.D.Counts c.args.device.now c.args.meta.now c.args.nodes.now c.args.rec.now c.requires.file c.prepare.new.device c.prepare.new.meta c.prepare.ensures.kept c.prepare.ensures.pages c.prepare.ensures.only
