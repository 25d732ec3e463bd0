use Rattle.std.proofs.Common.{refl}
use Rattle.nl_field.specs.Page.{erased, uncorrectable}
use Rattle.nl_scan.proofs.Standing.{in_contents, read_other, read_unspelled, read_some}
use Rattle.nl_scan.proofs.pass.read_one.Goals as goal

pub returns-in-Erased-clause-knows : goal.returns-in-Erased-clause-knows
returns-in-Erased-clause-knows g c = λ tells.
    read_other (g.M.Nand.contents c.args.media.now) c.args.page erased c.args.pass.now
    (in_contents (g.M.Nand.geometry c.args.media.now) (g.M.Nand.contents c.args.media.now) c.args.page (g.met.M.Nand.contents_fit c.args.media.now tells) c.requires.page)
    (c.in-Erased.ensures.answer tells) refl (c.requires.knows tells)

pub returns-in-Uncorrectable-clause-knows : goal.returns-in-Uncorrectable-clause-knows
returns-in-Uncorrectable-clause-knows g c = λ tells.
    read_other (g.M.Nand.contents c.args.media.now) c.args.page uncorrectable c.args.pass.now
    (in_contents (g.M.Nand.geometry c.args.media.now) (g.M.Nand.contents c.args.media.now) c.args.page (g.met.M.Nand.contents_fit c.args.media.now tells) c.requires.page)
    (c.in-Uncorrectable.ensures.answer tells) refl (c.requires.knows tells)

pub returns-in-None-clause-knows : goal.returns-in-None-clause-knows
returns-in-None-clause-knows g c = λ tells.
    read_unspelled (g.M.Nand.contents c.args.media.now) c.args.page c.read.new.buf c.spare.result.now c.args.pass.now
    (in_contents (g.M.Nand.geometry c.args.media.now) (g.M.Nand.contents c.args.media.now) c.args.page (g.met.M.Nand.contents_fit c.args.media.now tells) c.requires.page)
    (c.in-Written.ensures.answer tells) c.spare.ensures c.in-None.ensures.value (c.requires.knows tells)

pub returns-in_ok-add-in-Some-clause-knows : goal.returns-in_ok-add-in-Some-clause-knows
returns-in_ok-add-in-Some-clause-knows g c = λ tells.
    read_some (g.M.Nand.contents c.args.media.now) (g.M.Nand.contents c.read.new.self) c.args.shape.now c.args.page c.read.new.buf c.spare.result.now c.in-Some.rec c.args.pass.now c.add.new.pass
    (in_contents (g.M.Nand.geometry c.args.media.now) (g.M.Nand.contents c.args.media.now) c.args.page (g.met.M.Nand.contents_fit c.args.media.now tells) c.requires.page)
    (c.in-Written.ensures.answer tells) c.spare.ensures c.in-Some.ensures.value c.read.ensures.only_reads.same_contents (c.requires.shape tells) (c.requires.knows tells)
    (c.in_ok-add-in-Some.ensures.told tells)
