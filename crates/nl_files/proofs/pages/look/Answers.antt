use Rattle.std.proofs.Common.{◌∙◌, ap}
use Rattle.nl_indirect.specs.Ranges.{some_pointer}
use Rattle.nl_files.specs.Standing.{device_map}
use Rattle.nl_files.proofs.Keeping.{pointer-then}
use Rattle.nl_files.proofs.Owning.{own-at}
use Rattle.nl_files.proofs.pages.look.Goals as goal

pub returns-in-Done-clause-at : goal.returns-in-Done-clause-at
returns-in-Done-clause-at g c =
    let made = c.load_range.ensures in
    c.lookup.ensures.running (device_map g.D.Counts c.load_range.new.device)
    ∙ ap some_pointer (pointer-then g.D.Counts c.args.device.now c.load_range.new.device c.args.rec.now c.args.meta.now c.load_range.new.meta made.kept made.pages c.requires.stands c.args.index)

pub returns-in-Done-clause-only : goal.returns-in-Done-clause-only
returns-in-Done-clause-only g c = own-at c.args.rec.now c.args.index c.args.meta.now c.load_range.new.meta c.load_range.ensures.touched

pub returns-in-Fault-clause-only : goal.returns-in-Fault-clause-only
returns-in-Fault-clause-only g c = own-at c.args.rec.now c.args.index c.args.meta.now c.load_range.new.meta c.load_range.ensures.touched

pub returns-in-Lost-clause-only : goal.returns-in-Lost-clause-only
returns-in-Lost-clause-only g c = own-at c.args.rec.now c.args.index c.args.meta.now c.load_range.new.meta c.load_range.ensures.touched
