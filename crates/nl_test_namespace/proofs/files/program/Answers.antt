use Rattle.nl_files.specs.Standing.{tag_of}
use Rattle.nl_test_namespace.proofs.OneFile.{file-programmed, placed-idle, placed-keeps, placed-leads, same-idle, same-keeps}
use Rattle.nl_test_namespace.proofs.files.program.Goals as goal

pub returns-in-Placed-clause-file : goal.returns-in-Placed-clause-file
returns-in-Placed-clause-file g c =
    file-programmed g.D.Counts c.args.device.now c.args.meta.now c.args.nodes.now c.args.rec.now c.requires.file c.nameless_write.new.self c.in-Placed.ensures.kept.virtual.same_shape (placed-idle g.D.Counts c.args.device.now c.nameless_write.new.self c.requires.file.idle (tag_of 1 c.args.rec.now c.args.index) c.args.page.now.main c.in-Placed.to c.in-Placed.ensures.placed)
    (placed-keeps g.D.Counts c.args.device.now c.nameless_write.new.self c.requires.file.idle (tag_of 1 c.args.rec.now c.args.index) c.args.page.now.main c.in-Placed.to c.in-Placed.ensures.placed)

pub returns-in-Placed-clause-leads : goal.returns-in-Placed-clause-leads
returns-in-Placed-clause-leads g c = placed-leads g.D.Counts c.args.device.now c.nameless_write.new.self c.requires.file.idle (tag_of 1 c.args.rec.now c.args.index) c.args.page.now.main c.in-Placed.to c.in-Placed.ensures.placed

pub returns-in-NotLive-clause-file : goal.returns-in-NotLive-clause-file
returns-in-NotLive-clause-file g c =
    file-programmed g.D.Counts c.args.device.now c.args.meta.now c.args.nodes.now c.args.rec.now c.requires.file c.nameless_write.new.self c.in-NotLive.ensures.kept.virtual.same_shape (same-idle g.D.Counts c.args.device.now c.nameless_write.new.self c.requires.file.idle (c.in-NotLive.ensures.none (λ x. x)).tables)
    (same-keeps g.D.Counts c.args.device.now c.nameless_write.new.self c.requires.file.idle (c.in-NotLive.ensures.none (λ x. x)).tables)

pub returns-in-NoPage-clause-file : goal.returns-in-NoPage-clause-file
returns-in-NoPage-clause-file g c =
    file-programmed g.D.Counts c.args.device.now c.args.meta.now c.args.nodes.now c.args.rec.now c.requires.file c.nameless_write.new.self c.in-NoPage.ensures.kept.virtual.same_shape (same-idle g.D.Counts c.args.device.now c.nameless_write.new.self c.requires.file.idle (c.in-NoPage.ensures.none (λ x. x)).tables)
    (same-keeps g.D.Counts c.args.device.now c.nameless_write.new.self c.requires.file.idle (c.in-NoPage.ensures.none (λ x. x)).tables)

pub returns-in-Fault-clause-file : goal.returns-in-Fault-clause-file
returns-in-Fault-clause-file g c =
    file-programmed g.D.Counts c.args.device.now c.args.meta.now c.args.nodes.now c.args.rec.now c.requires.file c.nameless_write.new.self c.in-Fault.ensures.kept.virtual.same_shape (same-idle g.D.Counts c.args.device.now c.nameless_write.new.self c.requires.file.idle (c.in-Fault.ensures.none (λ x. x)).tables)
    (same-keeps g.D.Counts c.args.device.now c.nameless_write.new.self c.requires.file.idle (c.in-Fault.ensures.none (λ x. x)).tables)
