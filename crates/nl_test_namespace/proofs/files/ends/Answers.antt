use Rattle.nl_test_namespace.proofs.OneFile.{file-leads, file-read, file-stands}
use Rattle.nl_test_namespace.proofs.files.ends.Goals as goal

pub count_pages-requires-clause-stands : goal.count_pages-requires-clause-stands
count_pages-requires-clause-stands g c = file-stands g.D.Counts c.args.device.now c.args.meta.now c.args.nodes.now c.args.rec.now c.requires.file

pub read-requires-clause-stands : goal.read-requires-clause-stands
read-requires-clause-stands g c = file-stands g.D.Counts c.count_pages.new.device c.count_pages.new.meta c.args.nodes.now c.args.rec.now (file-read g.D.Counts c.args.device.now c.args.meta.now c.args.nodes.now c.args.rec.now c.requires.file c.count_pages.new.device c.count_pages.new.meta c.count_pages.ensures.kept c.count_pages.ensures.pages c.count_pages.ensures.only)

pub read-requires-clause-leads : goal.read-requires-clause-leads
read-requires-clause-leads g c = file-leads g.D.Counts c.count_pages.new.device c.count_pages.new.meta c.args.nodes.now c.args.rec.now (file-read g.D.Counts c.args.device.now c.args.meta.now c.args.nodes.now c.args.rec.now c.requires.file c.count_pages.new.device c.count_pages.new.meta c.count_pages.ensures.kept c.count_pages.ensures.pages c.count_pages.ensures.only)
