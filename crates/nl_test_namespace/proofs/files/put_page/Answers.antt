use Rattle.std.proofs.Common.{sym, subst, arith}
use Rattle.nl_files.specs.Installing.{HasFree}
use Rattle.nl_inode.specs.Nodes.{Spaces}
use Rattle.nl_test_namespace.specs.Files.{HasFile}
use Rattle.nl_test_namespace.proofs.OneFile.{file-installed, free-new, range-here, room-for}
use Rattle.nl_test_namespace.proofs.files.put_page.Goals as goal

pub ready-requires-clause-file : goal.ready-requires-clause-file
ready-requires-clause-file g c = subst (λ (z : Spaces). HasFile g.D.Counts c.args.device.now c.args.meta.now z c.args.rec.now) (sym c.has_place.ensures.same) c.requires.file

pub install-requires-clause-file : goal.install-requires-clause-file
install-requires-clause-file g c = c.requires.file.file

pub install-requires-clause-range : goal.install-requires-clause-range
install-requires-clause-range g c = range-here g.D.Counts c.program.new.device c.ready.new.meta c.has_place.new.nodes c.args.rec.now c.in-Some.ensures.file c.args.index

pub install-requires-clause-room : goal.install-requires-clause-room
install-requires-clause-room g c far = room-for c.ready.new.meta _ (let d = c.dirty.ensures in let f = c.if-dirty-gt60.false in omega (arith, d, f))

pub install-requires-clause-free : goal.install-requires-clause-free
install-requires-clause-free g c = free-new g.D.Counts c.program.new.device c.ready.new.meta c.has_place.new.nodes c.args.rec.now c.in-Some.ensures.file (let d = c.dirty.ensures in let f = c.if-dirty-gt60.false in omega (arith, d, f))

pub install-requires-clause-fresh : goal.install-requires-clause-fresh
install-requires-clause-fresh g c = λ b. subst HasFree (sym c.has_place.ensures.same) (c.has_place.ensures.place c.if-not-has_place.false c.in-Some.to b)

pub returns-in-Some-clause-file : goal.returns-in-Some-clause-file
returns-in-Some-clause-file g c = λ done.
    file-installed g.D.Counts c.program.new.device c.args.rec.now c.install.new.rec c.ready.new.meta c.install.new.meta c.has_place.new.nodes c.install.new.nodes c.in-Some.ensures.file c.args.index c.in-Some.to c.in-Some.ensures.leads c.install.ensures.installed
