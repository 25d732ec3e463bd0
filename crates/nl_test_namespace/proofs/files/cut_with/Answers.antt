use Rattle.std.proofs.Common.{Some, arith}
use Rattle.nl_test_namespace.proofs.OneFile.{file-cut, room-for}
use Rattle.nl_test_namespace.proofs.files.cut_with.Goals as goal

pub cut-requires-clause-room : goal.cut-requires-clause-room
cut-requires-clause-room g c = λ far. room-for c.ready.new.meta _ (let d = c.dirty.ensures in let f = c.if-dirty-gt60.false in omega (arith, d, f))

pub returns-in-Some-clause-file : goal.returns-in-Some-clause-file
returns-in-Some-clause-file g c = λ done.
    file-cut g.D.Counts c.program.new.device c.args.rec.now c.cut.new.rec c.ready.new.meta c.cut.new.meta c.args.nodes.now c.cut.new.nodes c.in-Some.ensures.file c.args.size (Some c.in-Some.to) c.in-Some.ensures.leads c.cut.ensures.cut
