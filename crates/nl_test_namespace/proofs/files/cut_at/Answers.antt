use Rattle.std.proofs.Common.{None, arith}
use Rattle.nl_test_namespace.proofs.OneFile.{file-cut, room-for}
use Rattle.nl_test_namespace.proofs.files.cut_at.Goals as goal

pub cut-requires-clause-room : goal.cut-requires-clause-room
cut-requires-clause-room g c = λ far. room-for c.args.meta.now _ (let d = c.dirty.ensures in let f = c.if-dirty-gt60.false in omega (arith, d, f))

pub returns : goal.returns
returns g c = record {
  file = λ yes. file-cut g.D.Counts c.args.device.now c.args.rec.now c.cut.new.rec c.args.meta.now c.cut.new.meta c.args.nodes.now c.cut.new.nodes c.requires.file c.args.size None tt c.cut.ensures.cut;
}
