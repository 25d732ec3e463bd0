use Rattle.nl_test_namespace.proofs.OneFile.{file-taken}
use Rattle.nl_test_namespace.proofs.files.take_address.Goals as goal

pub returns : goal.returns
returns g c = record {
  file = file-taken g.D.Counts c.args.device.now c.args.meta.now c.args.nodes.now c.take_pool.new.self c.args.rec.now c.take_pool.result c.take_pool.ensures.least c.take_pool.ensures.taken c.requires.file;
}
