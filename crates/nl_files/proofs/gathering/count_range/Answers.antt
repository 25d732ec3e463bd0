use Rattle.std.proofs.Common.{◌∙◌, ap, length, refl}
use Rattle.nl_files.proofs.Owning.{own-at}
use Rattle.nl_files.proofs.Progress.{range-then}
use Rattle.nl_files.proofs.gathering.count_range.Goals as goal

pub returns-in-Done-clause-count : goal.returns-in-Done-clause-count
returns-in-Done-clause-count g c =
    let made = c.load_range.ensures in
    c.count_span.ensures
    ∙ ap length
    (range-then g.D.Counts c.args.device.now c.load_range.new.device c.args.rec.now c.args.meta.now c.load_range.new.meta made.kept made.pages c.requires.stands c.args.first c.args.end c.requires.range (c.in-Done.ensures.ready refl))

pub returns-in-Done-clause-only : goal.returns-in-Done-clause-only
returns-in-Done-clause-only g c = own-at c.args.rec.now c.args.first c.args.meta.now c.load_range.new.meta c.load_range.ensures.touched

pub returns-in-Fault-clause-only : goal.returns-in-Fault-clause-only
returns-in-Fault-clause-only g c = own-at c.args.rec.now c.args.first c.args.meta.now c.load_range.new.meta c.load_range.ensures.touched

pub returns-in-Lost-clause-only : goal.returns-in-Lost-clause-only
returns-in-Lost-clause-only g c = own-at c.args.rec.now c.args.first c.args.meta.now c.load_range.new.meta c.load_range.ensures.touched
